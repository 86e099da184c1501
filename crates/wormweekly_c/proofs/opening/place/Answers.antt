-- one more is put
use Rattle.std.proofs.Common.{rules, ◌≡◌, length, ap, ◌∙◌}
use Rattle.std.specs.Prelude.{slice_set}
use Rattle.wormweekly_c.proofs.PlaceLaws.{place_step}
use Rattle.wormweekly_c.proofs.opening.place.Goals as goal

pub loop-one-preserved : goal.loop-one-preserved
loop-one-preserved g c =
    let step = place_step c.args.made.items c.args.places.now c.loop-one.made.items c.pop.new.self.items c.loop-one.places c.in-Some.one
    c.in-Some.ensures.items c.loop-one.invariant.left c.requires c.loop-one.invariant.put in
    let at : c.len-at.result ≡ length c.pop.new.self.items = search rules in
    record { left = step.0; put = ap (λ n. slice_set c.loop-one.places n c.in-Some.one) at ∙ step.1 }
