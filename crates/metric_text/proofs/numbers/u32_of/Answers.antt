-- a number that is small enough for the narrower type
use Rattle.std.proofs.Common.{◌^◌, ◌∙◌, sym, lit≤}
use Rattle.metric_text.proofs.PrintedAgain.{number_of-none, narrowed}
use Rattle.metric_text.proofs.numbers.u32_of.Goals as goal

pub returns-in_err-u64_of : goal.returns-in_err-u64_of
returns-in_err-u64_of c =
    rw c.from_residual.ensures (sym (number_of-none (2 ^ 32) c.args.word.now (sym c.in_err-u64_of.ensures) (lit≤ tt)))

pub returns : goal.returns
returns c = c.ok.ensures.value ∙ narrowed c.args.word.now c.in_ok-u64_of.field-0 c.try_from.result c.in_ok-u64_of.ensures c.try_from.ensures
