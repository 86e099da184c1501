-- a collision is warned of exactly where two identities are one
use Rattle.std.proofs.Common.{◌++◌, List, sym, ap, ◌∙◌}
use Rattle.std.specs.List.{list_any}
use Rattle.metric_views.specs.declared.stream.Stream.{Stream}
use Rattle.metric_resolve.specs.Collisions.{collisions_of}
use Rattle.metric_resolve.specs.Unfit.{unfit_of}
use Rattle.metric_make.specs.Finding.{first_collision}
use Rattle.metric_make.proofs.Collided.{collided, distinct_from, is_collision, no_collision, some_collision}
use Rattle.metric_make.proofs.making.are_distinct.Goals as goal

pub returns-in-Some : goal.returns-in-Some
returns-in-Some c =
    let contents = c.args.catalogue.now in
    let config = c.args.config.now in
    let streams = c.args.resolved.now.list in
    let told = c.warnings.ensures ∙ c.requires.warnings ∙ ap (λ (s : List Stream). unfit_of contents config ++ collisions_of contents s) (sym c.requires.list) in
    let first = sym c.first_collision.ensures ∙ c.in-Some.is in (
      collided contents config streams (c.collisions_are_of_one_identity.ensures.exact contents streams)
          (ap (list_any is_collision) (sym told) ∙ some_collision c.warnings.result.now c.in-Some.fault first),
      ap first_collision (sym c.warnings.ensures) ∙ first,
    )

pub returns-in-None : goal.returns-in-None
returns-in-None c =
    let contents = c.args.catalogue.now in
    let config = c.args.config.now in
    let streams = c.args.resolved.now.list in
    let told = c.warnings.ensures ∙ c.requires.warnings ∙ ap (λ (s : List Stream). unfit_of contents config ++ collisions_of contents s) (sym c.requires.list) in
    distinct_from contents config streams (c.collisions_are_of_one_identity.ensures.exact contents streams) c.collisions_are_of_one_identity.ensures.same c.requires.named
    (ap (list_any is_collision) (sym told) ∙ no_collision c.warnings.result.now (sym c.first_collision.ensures ∙ c.in-None.is))
