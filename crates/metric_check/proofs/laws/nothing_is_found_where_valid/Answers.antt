-- the lemma
use Rattle.metric_check.proofs.Validity.{finds_nothing_where_valid}
use Rattle.metric_check.proofs.laws.nothing_is_found_where_valid.Goals as goal

pub returns : goal.returns
returns c = finds_nothing_where_valid
