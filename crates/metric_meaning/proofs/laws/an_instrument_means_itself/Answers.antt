use Rattle.metric_meaning.proofs.MadeLaws.{an_instrument_means_itself}
use Rattle.metric_meaning.proofs.laws.an_instrument_means_itself.Goals as goal

pub returns : goal.returns
returns c = an_instrument_means_itself
