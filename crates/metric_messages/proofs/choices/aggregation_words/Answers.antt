-- each aggregation has its word
use Rattle.metric_messages.proofs.ChoiceLaws.{aggregations}
use Rattle.metric_messages.proofs.choices.aggregation_words.Goals as goal

pub returns : goal.returns
returns c = aggregations
