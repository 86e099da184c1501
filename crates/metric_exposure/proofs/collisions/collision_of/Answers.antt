-- the names are the family with each end of its type
use Rattle.std.proofs.Common.{ℕ, List, Bor, sym, ◌∙◌}
use Rattle.metric_exposure.proofs.Ends.{claims_are}
use Rattle.metric_exposure.proofs.collisions.collision_of.Goals as goal

pub returns : goal.returns
returns c =
    let is = claims_are (λ (end : Bor (List ℕ)). end.now) c.args.family.now c.args.kind c.suffixes.result.now (sym c.is_empty.ensures ∙ c.if-is_empty.false) c.suffixes.ensures in
    rw is at c.collision_with.ensures
