use Rattle.metric_kit_commands.proofs.OutputLaws.{one_output}
use Rattle.metric_kit_commands.proofs.laws.one_output.Goals as goal

pub returns : goal.returns
returns c = one_output c.one_reading.ensures.parts c.one_script.ensures.start c.one_script.ensures.events
