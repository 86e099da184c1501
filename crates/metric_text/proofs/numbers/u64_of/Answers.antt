-- what is parsed and printed again
use Rattle.std.proofs.Common.{sym}
use Rattle.metric_text.proofs.PrintedAgain.{not_text, text_is, number_of-not_utf8, not_number, same_number, other_number}
use Rattle.metric_text.proofs.numbers.u64_of.Goals as goal

pub returns-in_err-text : goal.returns-in_err-text
returns-in_err-text c =
    rw c.from_residual.ensures (sym (number_of-not_utf8 c.args.word.now (not_text _ c.from_utf8.result c.args.word.now c.from_utf8.ensures.cases c.in_err-text.ensures.value)))

pub returns-in_err-number : goal.returns-in_err-number
returns-in_err-number c =
    let same = text_is _ c.from_utf8.result c.in_ok-text.text c.args.word.now c.from_utf8.ensures.cases c.in_ok-text.ensures.value in
    rw c.from_residual-in_err-number.ensures (not_number c.args.word.now c.in_ok-text.text.now c.parse.result same c.parse.ensures.value.0 c.in_err-number.ensures.value)

pub returns-then-eq : goal.returns-then-eq
returns-then-eq c =
    let same = text_is _ c.from_utf8.result c.in_ok-text.text c.args.word.now c.from_utf8.ensures.cases c.in_ok-text.ensures.value in
    same_number c.args.word.now c.in_ok-text.text.now c.format.result.now c.parse.result c.in_ok-number.number same c.parse.ensures.value.0 c.in_ok-number.ensures.value c.format.ensures.text c.if-eq.ensures

pub returns-else-eq : goal.returns-else-eq
returns-else-eq c =
    let same = text_is _ c.from_utf8.result c.in_ok-text.text c.args.word.now c.from_utf8.ensures.cases c.in_ok-text.ensures.value in
    other_number c.args.word.now c.in_ok-text.text.now c.format.result.now c.parse.result c.in_ok-number.number same c.parse.ensures.value.0 c.in_ok-number.ensures.value c.format.ensures.text c.if-eq.ensures
