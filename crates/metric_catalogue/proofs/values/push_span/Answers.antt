-- one more number of the range
use Rattle.std.proofs.Common.{◌≡◌, ℕ, ◌+◌, List, [], ◌∷◌, ◌++◌, map, refl, sym, ap, ◌∙◌, append_assoc, arith, w64, to_z, of_z}
use Rattle.std.proofs.lemmas.List.FromFn.{map-range_with_len_more}
use Rattle.std.specs.List.{range_with_len}
use Rattle.metric_base.proofs.EachMore.{one_longer}
use Rattle.metric_names.specs.declared.value.AttrValue.{AttrValue}
use Rattle.metric_catalogue.specs.KeyValues.{nth_from}
use Rattle.metric_catalogue.proofs.values.push_span.Goals as goal

-- with one more number, the first of a range
put_more : (f : ℕ → AttrValue) (n : ℕ) (old done more : List AttrValue) (value : AttrValue) → done ≡ old ++ map f (range_with_len 0 n) → value ≡ f n → more ≡ done ++ value ∷ []
    → more ≡ old ++ map f (range_with_len 0 (n + 1))
put_more f n old done more value so_far same put =
    put ∙ ap (λ (xs : List AttrValue). xs ++ value ∷ []) so_far
    ∙ ap (λ (x : AttrValue). (old ++ map f (range_with_len 0 n)) ++ x ∷ []) same
    ∙ append_assoc old (map f (range_with_len 0 n)) (f n ∷ [])
    ∙ ap (λ (xs : List AttrValue). old ++ xs) (sym (map-range_with_len_more f 0 n n (omega arith)))

pub loop-place-preserved : goal.loop-place-preserved
loop-place-preserved c = record {
  more = let long = one_longer c.loop-place.values c.push.new.self c.in_ok-value.value _ c.in_ok-push.ensures.ok refl in omega (arith, long, c.loop-place.invariant.more);
  put = put_more (nth_from (to_z w64 (of_z w64 c.args.first))) c.loop-place.place c.args.values.now c.loop-place.values c.push.new.self c.in_ok-value.value
      c.loop-place.invariant.put c.in_ok-value.ensures c.in_ok-push.ensures.ok;
}
