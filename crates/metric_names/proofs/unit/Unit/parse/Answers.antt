-- What is read as a unit is one, and each unit is read.
use Rattle.std.proofs.Common.{◌≡◌, subst, sym}
use Rattle.metric_names.specs.Units.{IsUnit}
use Rattle.metric_names.specs.NameLaws.{unit_of-IsUnit}
use Rattle.metric_names.proofs.Accepted.{IsUnit-unit_of}
use Rattle.metric_names.proofs.unit.Unit.parse.Goals as goal

pub returns-in_err-check-clause-accepts : goal.returns-in_err-check-clause-accepts
returns-in_err-check-clause-accepts c = λ is_unit.
    let read = IsUnit-unit_of c.args.text.now is_unit in
    let fault = c.in_err-check.ensures in
    let bytes = c.as_bytes.ensures.value in
    absurd cc

pub invariant_of-result : goal.invariant_of-result
invariant_of-result c =
    let same : c.in_ok-text.text ≡ c.as_bytes.result.now = cc (c.in_ok-text.ensures, c.as_bytes.ensures.value) in
    subst IsUnit (sym same) (unit_of-IsUnit c.as_bytes.result.now _ c.in_ok-check.ensures)

pub returns-clause-unit : goal.returns-clause-unit
returns-clause-unit c = invariant_of-result c
