-- the laws of the spellings
use Rattle.metric_text.specs.QuoteLaws.{text_in-text, text_in-some}
use Rattle.metric_text.specs.ValueLaws.{value_in-text, value_in-some}
use Rattle.metric_text.proofs.OneSpelling.{quoted-one, value_text-one}
use Rattle.metric_text.proofs.laws.each_value_has_one_spelling.Goals as goal

pub returns-clause-one_text : goal.returns-clause-one_text
returns-clause-one_text c = quoted-one

pub returns-clause-text_read : goal.returns-clause-text_read
returns-clause-text_read c = text_in-text

pub returns-clause-text_spelled : goal.returns-clause-text_spelled
returns-clause-text_spelled c = λ bytes text rest read. (text_in-some bytes text rest read).1

pub returns-clause-one_value : goal.returns-clause-one_value
returns-clause-one_value c = value_text-one

pub returns-clause-value_read : goal.returns-clause-value_read
returns-clause-value_read c = value_in-text

pub returns-clause-value_spelled : goal.returns-clause-value_spelled
returns-clause-value_spelled c = λ bytes value rest read. (value_in-some value bytes rest read).1
