-- What is read as a name is one, and each name is read.
use Rattle.std.proofs.Common.{◌≡◌, subst, sym}
use Rattle.metric_names.specs.Names.{IsName}
use Rattle.metric_names.specs.NameLaws.{name_of-IsName}
use Rattle.metric_names.proofs.Accepted.{IsName-name_of}
use Rattle.metric_names.proofs.name.Name.parse.Goals as goal

pub returns-in_err-check-clause-accepts : goal.returns-in_err-check-clause-accepts
returns-in_err-check-clause-accepts c = λ is_name.
    let read = IsName-name_of c.args.text.now is_name in
    let fault = c.in_err-check.ensures in
    let bytes = c.as_bytes.ensures.value in
    absurd cc

pub invariant_of-result : goal.invariant_of-result
invariant_of-result c =
    let same : c.in_ok-text.text ≡ c.as_bytes.result.now = cc (c.in_ok-text.ensures, c.as_bytes.ensures.value) in
    subst IsName (sym same) (name_of-IsName c.as_bytes.result.now _ c.in_ok-check.ensures)

pub returns-clause-name : goal.returns-clause-name
returns-clause-name c = invariant_of-result c
