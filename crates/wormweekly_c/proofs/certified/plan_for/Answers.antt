-- one of the texts is no UTF-8, or all are texts
use Rattle.std.proofs.Common.{ℕ, Bool, true, ◌&&◌, List, IfErr, sym, subst}
use Rattle.std.specs.Str.{is_utf8}
use Rattle.std.proofs.lemmas.Bool.{and_from, and_left, and_right}
use Rattle.std.proofs.lemmas.Str.{is_utf8-from_IsUtf8}
use Rattle.wormweekly_c.proofs.Utf8Laws.{not_utf8}
use Rattle.wormweekly_c.specs.Refusing.{IsWhy}
use Rattle.wormweekly_c.specs.Vouching.{HasVouchFault}
use Rattle.wormweekly_c.proofs.certified.plan_for.Goals as goal

pub returns-in_default-clause-why : goal.returns-in_default-clause-why
returns-in_default-clause-why c =
    and_left (is_utf8 c.args.catalogue.now) (is_utf8 c.args.config.now && is_utf8 c.args.certificate.now)
    (not_utf8 c.args.catalogue.now c.in_default.ensures.cases.0)

pub returns-in_default-from_utf8-clause-why : goal.returns-in_default-from_utf8-clause-why
returns-in_default-from_utf8-clause-why c =
    and_right (is_utf8 c.args.catalogue.now) (is_utf8 c.args.config.now && is_utf8 c.args.certificate.now)
    (and_left (is_utf8 c.args.config.now) (is_utf8 c.args.certificate.now) (not_utf8 c.args.config.now c.in_default-from_utf8.ensures.cases.0))

pub returns-in_default-from_utf8-2-clause-why : goal.returns-in_default-from_utf8-2-clause-why
returns-in_default-from_utf8-2-clause-why c =
    and_right (is_utf8 c.args.catalogue.now) (is_utf8 c.args.config.now && is_utf8 c.args.certificate.now)
    (and_right (is_utf8 c.args.config.now) (is_utf8 c.args.certificate.now) (not_utf8 c.args.certificate.now c.in_default-from_utf8-2.ensures.cases.0))

pub returns-clause-why : goal.returns-clause-why
returns-clause-why c =
    let catalogue = c.args.catalogue.now in
    let config = c.args.config.now in
    let certificate = c.args.certificate.now in
    let last = c.in-Ok-from_utf8-2.certificate.now in
    let texts = and_from (is_utf8 config) (is_utf8 certificate) (is_utf8-from_IsUtf8 config c.in-Ok-from_utf8.ensures.cases.1) (is_utf8-from_IsUtf8 certificate c.in-Ok-from_utf8-2.ensures.cases.1) in
    subst (λ (are : Bool). IfErr c.plan_of.result (IsWhy are (HasVouchFault catalogue config certificate)))
    (sym (and_from (is_utf8 catalogue) (is_utf8 config && is_utf8 certificate) (is_utf8-from_IsUtf8 catalogue c.in-Ok.ensures.cases.1) texts))
    (subst (λ (text : List ℕ). IfErr c.plan_of.result (IsWhy true (HasVouchFault catalogue config text))) c.in-Ok-from_utf8-2.ensures.cases.0
    (subst (λ (text : List ℕ). IfErr c.plan_of.result (IsWhy true (HasVouchFault catalogue text last))) c.in-Ok-from_utf8.ensures.cases.0
    (subst (λ (text : List ℕ). IfErr c.plan_of.result (IsWhy true (HasVouchFault text c.in-Ok-from_utf8.config.now last))) c.in-Ok.ensures.cases.0 c.plan_of.ensures.why)))
