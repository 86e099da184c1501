use Rattle.std.proofs.Common.{rules}
use Rattle.metric_text.proofs.quotes.byte_of.Goals as goal

pub returns-in-110 : goal.returns-in-110
returns-in-110 c = search rules
