-- Where no stream of the pages matches, this one does not.
use Rattle.std.proofs.Common.{◌≡◌, ◌∙◌, ℕ, Bool, true, false, List, Some, refl, sym, true≢false}
use Rattle.std.specs.Prelude.{slice_get}
use Rattle.std.specs.List.{list_any}
use Rattle.std.proofs.lemmas.Map.Keys.{any_passes_from_place}
use Rattle.metric_queries.specs.ByKeys.{served_matches}
use Rattle.metric_queries.proofs.laws.told_match_nothing.Goals as goal

none_at : {X : Type 0} (test : X → Bool) (xs : List X) (n : ℕ) (x : X) → slice_get xs n ≡ Some x → list_any test xs ≡ false → test x ≡ false
none_at test xs n x at none = by (test x) refl
  where
    by : (b : Bool) → test x ≡ b → b ≡ false
    by false e = refl
    by true e = absurd (true≢false (sym (any_passes_from_place test xs n x at e) ∙ none))

pub returns : goal.returns
returns c = λ known. λ selector. λ remarks. λ dialect. λ contents. λ streams. λ reader. λ number. λ place. λ stream. λ served. λ are. λ told. λ passes. λ at. λ is_served. record {
  asked = are.asked;
  are_asked = are.are_asked;
  none = c.keys_are_enough.ensures known.added.now dialect contents streams reader number stream served are.asked passes is_served
      (none_at (λ one. served_matches known.added.now one are.asked) known.served.now place served at (are.is_told told));
}
