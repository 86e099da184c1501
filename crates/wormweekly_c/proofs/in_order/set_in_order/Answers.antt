-- one entry more, and the end
use Rattle.std.proofs.Common.{◌≡◌, ℕ, ◌+◌, ◌-◌, ◌<◌, List, [], ◌∷◌, ◌++◌, Some, length, drop, replicate, take, slice_set, arith, sym, ap, subst, ◌∙◌}
use Rattle.std.specs.Prelude.{IsSomeAnd}
use Rattle.std.proofs.lemmas.Bool.Decides.{nat_tests}
use Rattle.std.proofs.lemmas.List.{drop_more, take_more_set}
use Rattle.metric_contents.specs.declared.contents.Key.{Key}
use Rattle.metric_contents.specs.Encoding.{Given}
use Rattle.metric_contents.specs.EntryLaws.{entry_put}
use Rattle.wormweekly_c.specs.Attributes.{attributes_from}
use Rattle.wormweekly_c.proofs.TakenLaws.{AreEntries, all_taken, entries_before, taken_more}
use Rattle.wormweekly_c.proofs.in_order.set_in_order.Goals as goal

pub loop-place-preserved : goal.loop-place-preserved
loop-place-preserved c =
    let keys : List Key = c.args.keys.now in
    let place = c.loop-place.place in
    let key = c.index-keys-place.result in
    let set = c.loop-place.set in
    let front : List ℕ = take place set in
    let entry = c.in_ok-entry.entry in
    let few : place < 8 = omega arith in
    let (all, before) = entries_before set place few c.loop-place.invariant.set in
    let written : slice_set set place entry ≡ (front ++ entry ∷ []) ++ replicate (8 - (place + 1)) 0
    = ap (λ (s : List ℕ). slice_set s place entry) c.loop-place.invariant.set ∙ entry_put front place entry before few in
    let taken : take (place + 1) (slice_set set place entry) ≡ front ++ entry ∷ [] = take_more_set set place entry (omega arith) in
    let next : drop place keys ≡ key ∷ drop (place + 1) keys =
    drop_more keys place key (omega arith) ∙ ap (λ (k : Key). k ∷ drop (place + 1) keys) (sym c.index-keys-place.is) in
    let so_far : (attrs : List Given) → attributes_from c.loop-place.left.now c.loop-place.rest.now ≡ Some attrs
    → IsSomeAnd (attributes_from c.args.given.now c.args.texts.now) (AreEntries keys front (key ∷ drop (place + 1) keys) attrs)
    = subst (λ (ks : List Key). (attrs : List Given) → attributes_from c.loop-place.left.now c.loop-place.rest.now ≡ Some attrs
    → IsSomeAnd (attributes_from c.args.given.now c.args.texts.now) (AreEntries keys front ks attrs)) next c.loop-place.invariant.so_far in
    record {
      so_far = λ attrs is. subst (λ (entries : List ℕ). IsSomeAnd (attributes_from c.args.given.now c.args.texts.now) (AreEntries keys entries (drop (place + 1) keys) attrs)) (sym taken)
          (taken_more keys (drop (place + 1) keys) key front entry c.loop-place.left.now c.args.given.now c.in_ok-entry.others.now c.args.texts.now c.loop-place.rest.now c.in_ok-entry.after.now
          c.in_ok-entry.ensures so_far attrs is);
      set = written ∙ ap (λ (f : List ℕ). f ++ replicate (8 - (place + 1)) 0) (sym taken);
    }

pub returns-then-is_empty : goal.returns-then-is_empty
returns-then-is_empty c =
    let none : length c.loop-place.left.now ≡ 0 = grind (arith, nat_tests, c.if-is_empty.ensures) in
    all_taken c.args.keys.now c.loop-place.set c.loop-place.place c.args.given.now c.loop-place.left.now c.args.texts.now c.loop-place.rest.now c.requires.apart (omega arith)
    c.loop-place.invariant.set c.loop-place.invariant.so_far none
