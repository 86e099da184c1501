-- a slip more
use Rattle.std.proofs.Common.{◌≡◌, ◌<◌, ℕ, ℤ, ◌+◌, pos, to_z, of_z, w64, List, [], ◌∷◌, ◌++◌, get_or, length, map, take, sym, ap, ◌∙◌, arith, rules}
use Rattle.std.proofs.lemmas.List.{append_assoc, map_more, take_all}
use Rattle.metric_history.specs.declared.slip.Slip.{Slip}
use Rattle.metric_seat.specs.declared.keys.Measurement.{Measurement}
use Rattle.metric_seat.specs.KeyRecordings.{slip_of_one}
use Rattle.metric_seat.proofs.notes.add_reserved.Goals as goal

noted_more : (before done new : List Slip) (slip : Slip) (all : List Measurement) (i : ℕ) (d : Measurement) → i < length all → slip ≡ slip_of_one (get_or all i d)
    → done ≡ before ++ map slip_of_one (take i all) → new ≡ done ++ slip ∷ [] → new ≡ before ++ map slip_of_one (take (i + 1) all)
noted_more before done new slip all i d below is so_far more =
    more ∙ ap (λ (slips : List Slip). slips ++ slip ∷ []) so_far
    ∙ append_assoc before (map slip_of_one (take i all)) (slip ∷ [])
    ∙ ap (λ (s : Slip). before ++ (map slip_of_one (take i all) ++ s ∷ [])) is
    ∙ ap (λ (slips : List Slip). before ++ slips) (sym (map_more slip_of_one all i d below))

abbrev nothing : Measurement
nothing = record { set = []; value = pos 0 }

pub loop-one-preserved : goal.loop-one-preserved
loop-one-preserved c =
    let one : Measurement = get_or c.args.all.now c.loop-one.one-index nothing in
    let read : to_z w64 (of_z w64 one.value) ≡ one.value = search rules in
    record {
      room = omega (arith, c.push_reserved.ensures.len, c.push_reserved.ensures.capacity, c.loop-one.invariant.room, c.loop-one-test.true);
      noted = noted_more c.args.slips.now.items c.loop-one.slips.items c.push_reserved.new.self.items _ c.args.all.now c.loop-one.one-index nothing c.loop-one-test.true
          (ap (λ (value : ℤ). slip_of_one (record { set = one.set; value = value })) read) c.loop-one.invariant.noted c.push_reserved.ensures.items;
    }

pub returns : goal.returns
returns c =
    c.loop-one.invariant.noted
    ∙ ap (λ (all : List Measurement). c.args.slips.now.items ++ map slip_of_one all) (take_all c.loop-one.one-index c.args.all.now c.loop-one-test.false)
