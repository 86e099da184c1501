use Rattle.std.proofs.Common.{◌∙◌, ap, codes}
use Rattle.std.proofs.lemmas.Result.{IfOk-weaker}
use Rattle.clap.proofs.WalkLemmas.{first_value-rows}
use Rattle.clap.specs.Words.{found_of}
use Rattle.metric_command_lines.specs.Standard.{output_of}
use Rattle.metric_command_lines.proofs.wormweekly.reading.output_in.Goals as goal

pub returns : goal.returns
returns c =
    let read = c.get_str.ensures ∙ first_value-rows (found_of c.args.arguments.now) (codes "output") in
    IfOk-weaker c.output_of.result _ _ (λ output is. is ∙ ap output_of read) c.output_of.ensures
