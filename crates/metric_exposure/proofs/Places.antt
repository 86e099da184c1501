-- Places in which the text of a server's label may come to stand.
use Rattle.std.proofs.Common.{◌≡◌, ℕ, ◌+◌, Bool, true, false, cond, ◌&&◌, List, [], ◌∷◌, ◌++◌, filter, map, Option, Some, None, codes, refl, sym, ap, ◌∙◌, append_assoc}
use Rattle.std.specs.Prelude.{is_some}
use Rattle.std.specs.List.{list_all, range_with_len}
use Rattle.std.specs.Option.{option_map, unwrap_or}
use Rattle.std.proofs.lemmas.List.{append-nil, map-append}
use Rattle.std.proofs.lemmas.List.Elements.{filter-append}
use Rattle.std.proofs.lemmas.List.Folds.{list_all-append}
use Rattle.metric_contents.specs.declared.contents.Key.{Key}
use Rattle.metric_names.specs.Values.{value_text}
use Rattle.metric_contents.specs.declared.contents.Meter.{Meter}
use Rattle.metric_family.specs.Labels.{Label}
use Rattle.metric_family.specs.Words.{is_among, is_some as is_text}
use Rattle.metric_exposure.specs.KeyFaults.{scope_taken}
use Rattle.metric_exposure.specs.Renames.{exported, is_place, is_reached, key_as, may_take, takes}
use Rattle.metric_exposure.proofs.Turns.{range_more}

none_pass : {X : Type 0} (test : X → Bool) (xs : List X) → ((x : X) → test x ≡ false) → filter test xs ≡ []
none_pass test [] none = refl
none_pass test (x ∷ xs) none = rw (none x) (none_pass test xs none)

and_none : (b : Bool) → (b && false) ≡ false
and_none true = refl
and_none false = refl

and_true : (b : Bool) → (b && true) ≡ b
and_true true = refl
and_true false = refl

module _ (keys : List Key) (kept : List Bool) (own : List ℕ) where
  -- without a key of the label itself
  pub no_places : (n : ℕ) → None ≡ key_as keys kept own → map (λ (times : ℕ). exported times own) (filter (is_place keys kept own) (range_with_len 0 n)) ≡ []
  no_places n e =
      ap (map (λ (times : ℕ). exported times own)) (none_pass (is_place keys kept own) (range_with_len 0 n) (λ times.
      ap (λ (o : Option Key). is_reached keys kept own times && takes o (key_as keys kept (exported times own))) (sym e) ∙ and_none (is_reached keys kept own times)))

  -- what is told of one label more
  abbrev pub told : (List ℕ → Bool) → ℕ → Option Bool
  told among n = cond (is_reached keys kept own n) (option_map (may_take among) (key_as keys kept (exported n own))) None

  pub reached_more : (among : List ℕ → Bool) (n : ℕ) → is_some (told among n) ≡ is_reached keys kept own (n + 1)
  reached_more among n =
      by (is_reached keys kept own n) (key_as keys kept (exported n own))
      ∙ sym (ap (list_all there) (range_more n) ∙ list_all-append there (range_with_len 0 n) (n ∷ []))
    where
      there : ℕ → Bool
      there times = is_some (key_as keys kept (exported times own))

      by : (r : Bool) (o : Option Key) → is_some (cond r (option_map (may_take among) o) None) ≡ (r && (is_some o && true))
      by true None = refl
      by true (Some key) = refl
      by false o = refl

  place_of : (first : Key) (n : ℕ) → Some first ≡ key_as keys kept own → unwrap_or (told (is_among (map value_text first.values)) n) false ≡ is_place keys kept own n
  place_of first n e =
      by (is_reached keys kept own n) (key_as keys kept (exported n own))
      ∙ ap (λ (o : Option Key). is_reached keys kept own n && takes o (key_as keys kept (exported n own))) e
    where
      by : (r : Bool) (o : Option Key) → unwrap_or (cond r (option_map (may_take (is_among (map value_text first.values))) o) None) false ≡ (r && takes (Some first) o)
      by true None = refl
      by true (Some key) = refl
      by false o = refl

  abbrev pub name_if : Bool → ℕ → List (List ℕ)
  name_if b n = cond b (exported n own ∷ []) []

  abbrev pub so_far : ℕ → List (List ℕ)
  so_far n = map (λ (times : ℕ). exported times own) (filter (is_place keys kept own) (range_with_len 0 n))

  pub places_more : (first : Key) (n : ℕ) (places next : List (List ℕ)) → Some first ≡ key_as keys kept own → places ≡ so_far n
      → next ≡ places ++ name_if (unwrap_or (told (is_among (map value_text first.values)) n) false) n → next ≡ so_far (n + 1)
  places_more first n places next e before after =
      let test = is_place keys kept own in
      let name : ℕ → List ℕ = λ times. exported times own in
      after ∙ ap (λ (ps : List (List ℕ)). ps ++ name_if (unwrap_or (told (is_among (map value_text first.values)) n) false) n) before
      ∙ ap (λ b. so_far n ++ name_if b n) (place_of first n e) ∙ ap (λ (ps : List (List ℕ)). so_far n ++ ps) (by (test n))
      ∙ sym (ap (λ ns. map name (filter test ns)) (range_more n) ∙ ap (map name) (filter-append test (range_with_len 0 n) (n ∷ []))
      ∙ map-append name (filter test (range_with_len 0 n)) (filter test (n ∷ [])))
    where
      by : (b : Bool) → name_if b n ≡ map (λ (times : ℕ). exported times own) (cond b (n ∷ []) [])
      by true = refl
      by false = refl

-- the labels of a scope, one after the other
pub scope_written : (out : List (List ℕ)) (meter : Meter)
    → ((out ++ cond (is_text meter.name) (codes "otel_scope_name" ∷ []) []) ++ cond (is_text meter.version) (codes "otel_scope_version" ∷ []) [])
    ++ cond (is_text meter.schema_url) (codes "otel_scope_schema_url" ∷ []) [] ≡ out ++ scope_taken meter
scope_written out meter = by (is_text meter.name) (is_text meter.version) (is_text meter.schema_url)
  where
    one : Label
    one = (codes "otel_scope_name", meter.name)

    two : Label
    two = (codes "otel_scope_version", meter.version)

    three : Label
    three = (codes "otel_scope_schema_url", meter.schema_url)

    last : Bool → List Label
    last d = cond d (three ∷ []) []

    later : Bool → Bool → List Label
    later b d = cond b (two ∷ last d) (last d)

    by : (a b d : Bool)
        → ((out ++ cond a (one.0 ∷ []) []) ++ cond b (two.0 ∷ []) []) ++ cond d (three.0 ∷ []) [] ≡ out ++ map (λ (label : Label). label.0) (cond a (one ∷ later b d) (later b d))
    by true true true = simp append_assoc
    by true true false = simp (append_assoc, append-nil)
    by true false true = simp (append_assoc, append-nil)
    by true false false = simp (append_assoc, append-nil)
    by false true true = simp (append_assoc, append-nil)
    by false true false = simp (append_assoc, append-nil)
    by false false true = simp append-nil
    by false false false = simp append-nil
