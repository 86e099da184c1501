-- What is read as a pattern is one, and each pattern is read.
use Rattle.std.proofs.Common.{◌≡◌, subst, sym}
use Rattle.metric_glob.specs.Patterns.{IsPattern}
use Rattle.metric_glob.proofs.PatternLemmas.{pattern_of-IsPattern, IsPattern-pattern_of}
use Rattle.metric_glob.proofs.pattern.Pattern.parse.Goals as goal

pub returns-in_err-check-clause-accepts : goal.returns-in_err-check-clause-accepts
returns-in_err-check-clause-accepts c = λ is_pattern.
    let read = IsPattern-pattern_of c.args.text.now is_pattern in
    let fault = c.in_err-check.ensures in
    let bytes = c.as_bytes.ensures.value in
    absurd cc

pub invariant_of-result : goal.invariant_of-result
invariant_of-result c =
    let same : c.in_ok-text.text ≡ c.as_bytes.result.now = cc (c.in_ok-text.ensures, c.as_bytes.ensures.value) in
    subst IsPattern (sym same) (pattern_of-IsPattern c.as_bytes.result.now _ c.in_ok-check.ensures)

pub returns-clause-pattern : goal.returns-clause-pattern
returns-clause-pattern c = invariant_of-result c
