-- One key more.
use Rattle.std.proofs.Common.{◌≡◌, ℕ, ◌+◌, Bool, true, false, List, [], ◌∷◌, ◌++◌, map, take, Option, Some, None, refl, sym, ap, ◌∙◌, append_assoc}
use Rattle.std.specs.Prelude.{slice_get}
use Rattle.std.specs.List.{flat_map, range_with_len}
use Rattle.std.specs.Option.{unwrap_or}
use Rattle.std.proofs.lemmas.List.{append-nil, map_push}
use Rattle.metric_contents.specs.declared.contents.Key.{Key}
use Rattle.metric_lines.specs.Keys.{kept_names}
use Rattle.metric_family.specs.Labels.{label_of}
use Rattle.metric_exposure.specs.declared.fault.ExposureFault.{ExposureFault}
use Rattle.metric_exposure.specs.KeyFaults.{kept_faults, key_faults, place_faults, taken_labels}
use Rattle.metric_exposure.proofs.Kept.{kept_more}
use Rattle.metric_exposure.proofs.Turns.{still, turn}

there : (o : Option Bool) → unwrap_or o false ≡ true → o ≡ Some true
there None e = absurd cc
there (Some true) e = refl
there (Some false) e = absurd cc

module _ (number : ℕ) (own : List (List ℕ)) (keys : List Key) (kept : List Bool) (n : ℕ) (key : Key) (at : slice_get keys n ≡ Some key) where
  -- a key that is kept
  own_place : unwrap_or (slice_get kept n) false ≡ true → place_faults number own keys kept n ≡ key_faults number n (taken_labels own (take n keys) (take n kept)) key
  unfolding place_faults
  own_place e = rw (at, there (slice_get kept n) e) refl

  pub faults_more : (labels : List (List ℕ)) (old now next : List ExposureFault) → unwrap_or (slice_get kept n) false ≡ true
      → labels ≡ own ++ map label_of (kept_names (take n keys) (take n kept))
      → now ≡ old ++ flat_map (place_faults number own keys kept) (range_with_len 0 n) → next ≡ now ++ key_faults number n labels key
      → next ≡ old ++ flat_map (place_faults number own keys kept) (range_with_len 0 (n + 1))
  unfolding taken_labels
  faults_more labels old now next e labelled before after =
      turn (place_faults number own keys kept) n old now next before
      (after ∙ ap (λ (ls : List (List ℕ)). now ++ key_faults number n ls key) labelled ∙ ap (λ (fs : List ExposureFault). now ++ fs) (sym (own_place e)))

  pub labels_more : (labels next : List (List ℕ)) (label : List ℕ) → unwrap_or (slice_get kept n) false ≡ true → labels ≡ own ++ map label_of (kept_names (take n keys) (take n kept))
      → label ≡ label_of key.name → next ≡ labels ++ label ∷ [] → next ≡ own ++ map label_of (kept_names (take (n + 1) keys) (take (n + 1) kept))
  labels_more labels next label e before named after =
      let names = kept_names (take n keys) (take n kept) in
      after ∙ ap (λ (ls : List (List ℕ)). ls ++ label ∷ []) before ∙ ap (λ (l : List ℕ). (own ++ map label_of names) ++ l ∷ []) named
      ∙ append_assoc own (map label_of names) (label_of key.name ∷ [])
      ∙ ap (λ (ls : List (List ℕ)). own ++ ls) (sym (ap (map label_of) (kept_more keys kept n key true at e) ∙ map_push label_of names key.name))

  -- a key that is not kept
  other_place : unwrap_or (slice_get kept n) false ≡ false → place_faults number own keys kept n ≡ []
  unfolding place_faults
  other_place e = by (slice_get keys n) (slice_get kept n) e
    where
      by : (k : Option Key) (o : Option Bool) → unwrap_or o false ≡ false → kept_faults number own keys kept n k o ≡ []
      by None o e = refl
      by (Some k) None e = refl
      by (Some k) (Some false) e = refl
      by (Some k) (Some true) e = absurd cc

  pub faults_same : (old now : List ExposureFault) → unwrap_or (slice_get kept n) false ≡ false → now ≡ old ++ flat_map (place_faults number own keys kept) (range_with_len 0 n)
      → now ≡ old ++ flat_map (place_faults number own keys kept) (range_with_len 0 (n + 1))
  faults_same old now e before = still (place_faults number own keys kept) n old now before (other_place e)

  pub labels_same : (labels : List (List ℕ)) → unwrap_or (slice_get kept n) false ≡ false → labels ≡ own ++ map label_of (kept_names (take n keys) (take n kept))
      → labels ≡ own ++ map label_of (kept_names (take (n + 1) keys) (take (n + 1) kept))
  labels_same labels e before =
      before ∙ ap (λ (ls : List (List ℕ)). own ++ ls) (sym (ap (map label_of) (kept_more keys kept n key false at e ∙ append-nil (kept_names (take n keys) (take n kept)))))
