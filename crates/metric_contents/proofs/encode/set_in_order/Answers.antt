-- one more entry
use Rattle.std.proofs.Common.{◌≡◌, ℕ, ◌+◌, ◌-◌, ◌<◌, List, [], ◌∷◌, ◌++◌, map, drop, replicate, take, slice_set, Option, arith, sym, ap, ◌∙◌}
use Rattle.std.proofs.lemmas.List.{at_drop_more, take_more_set}
use Rattle.std.specs.Option.{option_and_then}
use Rattle.metric_contents.specs.declared.contents.Key.{Key}
use Rattle.metric_contents.specs.Encoding.{Given}
use Rattle.metric_contents.specs.InOrder.{entries_after}
use Rattle.metric_contents.proofs.Mapped.{entries_before}
use Rattle.metric_contents.specs.EntryLaws.{entry_put}
use Rattle.metric_contents.proofs.encode.set_in_order.Goals as goal

pub loop-place-preserved : goal.loop-place-preserved
loop-place-preserved g c =
    let keys = c.args.keys.now in
    let place = c.loop-place.place in
    let key = c.index-keys-place.result in
    let set = c.loop-place.set in
    let front : List ℕ = take place set in
    let entry = c.in_ok-entry.entry in
    let left : List Given = map g.A.Attribute.given c.loop-place.left.now in
    let rest : List Given = map g.A.Attribute.given c.in_ok-entry.rest.now in
    let few : place < 8 = omega arith in
    let (all, before) = entries_before set place few c.loop-place.invariant.set in
    let written : slice_set set place entry ≡ (front ++ entry ∷ []) ++ replicate (8 - (place + 1)) 0
    = ap (λ (s : List ℕ). slice_set s place entry) c.loop-place.invariant.set ∙ entry_put front place entry before few in
    let taken : take (place + 1) (slice_set set place entry) ≡ front ++ entry ∷ [] = take_more_set set place entry (omega arith) in
    let next : entries_after front (drop place keys) left ≡ entries_after (front ++ entry ∷ []) (drop (place + 1) keys) rest
    = at_drop_more (λ (ks : List Key). entries_after front ks left) keys place key (omega arith)
    ∙ ap (λ (k : Key). entries_after front (k ∷ drop (place + 1) keys) left) (sym c.index-keys-place.is)
    ∙ ap (λ (o : Option (ℕ × List Given)). option_and_then (λ t. entries_after (front ++ t.0 ∷ []) (drop (place + 1) keys) t.1) o) (sym c.in_ok-entry.ensures) in
    record {
      exact = ap (λ (f : List ℕ). entries_after f (drop (place + 1) keys) rest) taken ∙ sym next ∙ c.loop-place.invariant.exact;
      set = written ∙ ap (λ (f : List ℕ). f ++ replicate (8 - (place + 1)) 0) (sym taken);
    }
