-- a certificate is valid, and what is safe has one
use Rattle.std.proofs.Common.{sym, subst, ◌∙◌}
use Rattle.metric_bounds.specs.Safe.{AreDistinct}
use Rattle.metric_make.proofs.MadeValid.{concluded}
use Rattle.metric_make.proofs.making.make.Goals as goal

pub returns-clause-valid : goal.returns-clause-valid
returns-clause-valid c =
    let contents = c.args.catalogue.now in
    let distinct = subst (AreDistinct contents) (sym c.list.ensures.list) c.in_ok-are_distinct.ensures in
    let said = concluded contents c.args.config.now c.list.result.now c.certificate_of.result (c.list.ensures.list ∙ c.in_ok-resolved.ensures.list) distinct c.certificate_of.ensures.made c.certificate_of.ensures.found in
    said.valid

pub returns-clause-safe : goal.returns-clause-safe
returns-clause-safe c =
    let contents = c.args.catalogue.now in
    let distinct = subst (AreDistinct contents) (sym c.list.ensures.list) c.in_ok-are_distinct.ensures in
    let said = concluded contents c.args.config.now c.list.result.now c.certificate_of.result (c.list.ensures.list ∙ c.in_ok-resolved.ensures.list) distinct c.certificate_of.ensures.made c.certificate_of.ensures.found in
    said.safe

pub returns-clause-accepts : goal.returns-clause-accepts
returns-clause-accepts c =
    let contents = c.args.catalogue.now in
    let distinct = subst (AreDistinct contents) (sym c.list.ensures.list) c.in_ok-are_distinct.ensures in
    let said = concluded contents c.args.config.now c.list.result.now c.certificate_of.result (c.list.ensures.list ∙ c.in_ok-resolved.ensures.list) distinct c.certificate_of.ensures.made c.certificate_of.ensures.found in
    said.accepts
