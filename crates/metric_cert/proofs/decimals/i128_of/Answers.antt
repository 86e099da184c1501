-- printed again, the number is the text or the text is no number
use Rattle.std.proofs.Common.{None, sym, ◌∙◌, rules}
use Rattle.std.specs.Prelude.{FitsSigned}
use Rattle.std.specs.Int.{w128}
use Rattle.metric_cert.proofs.Spelled.{printed_other, printed_same, wide_of-other}
use Rattle.metric_cert.proofs.decimals.i128_of.Goals as goal

pub returns-in_default : goal.returns-in_default
returns-in_default c =
    sym (wide_of-other c.args.text.now None (λ z fits same. c.in_default.ensures z fits (c.as_bytes.ensures.value ∙ same)) (λ z e same. cc))

pub returns-then-eq : goal.returns-then-eq
returns-then-eq c =
    let fits : FitsSigned w128 c.in-Some.number = search rules in
    printed_same c.args.text.now c.as_str.result.now c.in-Some.number fits (c.as_str.ensures.value ∙ c.in_ok-printed.ensures.ok) c.if-eq.ensures

pub returns : goal.returns
returns c =
    printed_other c.args.text.now c.as_str.result.now c.in-Some.number (λ z fits same. c.in-Some.ensures z fits (c.as_bytes.ensures.value ∙ same))
    (c.as_str.ensures.value ∙ c.in_ok-printed.ensures.ok) c.if-eq.ensures
