-- what follows a prefix
use Rattle.metric_text.proofs.Splits.{keyword_told}
use Rattle.metric_text.proofs.scanning.after_keyword.Goals as goal

pub returns : goal.returns
returns c = keyword_told c.args.keyword.now c.as_bytes.result.now c.args.bytes.now c.strip_prefix.result c.as_bytes.ensures.value c.strip_prefix.ensures.cases
