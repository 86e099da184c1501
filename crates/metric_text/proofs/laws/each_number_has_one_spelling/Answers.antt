-- the laws of numbers
use Rattle.metric_text.specs.ReadingLaws.{number_of-text, number_of-some, signed_of-text, signed_of-some, number_in-text, number_in-some, signed_in-text, signed_in-some}
use Rattle.metric_text.proofs.laws.each_number_has_one_spelling.Goals as goal

pub returns : goal.returns
returns c = record {
  word_read = number_of-text;
  word_spelled = number_of-some;
  signed_word_read = signed_of-text;
  signed_word_spelled = signed_of-some;
  read = number_in-text;
  spelled = number_in-some;
  signed_read = signed_in-text;
  signed_spelled = signed_in-some;
}
