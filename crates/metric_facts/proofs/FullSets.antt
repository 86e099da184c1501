-- The set key of attributes is a full set, and an allowed one.
use Rattle.std.proofs.Common.{◌≡◌, ℕ, zero, suc, ◌+◌, ◌-◌, ◌<◌, Bool, true, false, ◌&&◌, ◌||◌, cond, List, [], ◌∷◌, ◌++◌, Option, Some, None, Ok, length, map, refl, sym, ap, subst, ◌∙◌, arith}
use Rattle.std.specs.Prelude.{◌==◌, not, replicate, find, is_some, option_map, unwrap_or}
use Rattle.std.specs.List.{list_all, list_any}
use Rattle.std.proofs.lemmas.Bool.{and_from, and_parts, not-true, true≢false}
use Rattle.std.proofs.lemmas.Bool.Decides.{nat_tests}
use Rattle.metric_base.specs.StepLaws.{after_ok, ok_is, require_ok}
use Rattle.metric_names.specs.declared.value.AttrValue.{AttrValue}
use Rattle.metric_combinations.specs.Combinations.{permits}
use Rattle.metric_contents.specs.declared.contents.Key.{Key}
use Rattle.metric_contents.specs.declared.refusal.Refusal.TheVariants.{DuplicateKey, UnknownKey, UnknownValue, MissingKey, Combination}
use Rattle.metric_contents.specs.ByKeys.{is_allowed, values_by_keys}
use Rattle.metric_contents.specs.Encoding.{Given, allowed_set, is_of, has_repeated_key, is_declared, has_declared_value, is_complete, entry_of, entry_at, set_key, set_of}
use Rattle.metric_contents.specs.Places.{same_value, place}
use Rattle.metric_contents.specs.PlaceLaws.{position_from-within}
use Rattle.metric_facts.specs.Facts.{is_entry, is_full_set, key_facts, EncodesAllowedSets}

none_found : (p : Given → Bool) (attrs : List Given) → find p attrs ≡ None → list_any p attrs ≡ false
none_found p [] e = refl
none_found p (g ∷ attrs) e = at (p g) e (none_found p attrs)
  where
    at : (b : Bool) → cond b (Some g) (find p attrs) ≡ None → (find p attrs ≡ None → list_any p attrs ≡ false) → (b || list_any p attrs) ≡ false
    at true found rest = absurd cc
    at false found rest = rest found

-- an entry of a key that is given a declared value, or may be left out
entry_fits : (attrs : List Given) (key : Key) → is_allowed attrs key ≡ true → is_complete attrs key ≡ true → is_entry (key_facts key) (unwrap_or (entry_at attrs key) 0) ≡ true
entry_fits attrs key allowed complete = at (find (is_of key.name) attrs) refl allowed
  where
    placed : (value : AttrValue) (o : Option ℕ) → place key.values value ≡ o → is_some (option_map (λ number. number + 1) o) ≡ true
        → is_entry (key_facts key) (unwrap_or (option_map (λ number. number + 1) o) 0) ≡ true
    placed value None e some = absurd (true≢false (sym some))
    placed value (Some n) e some =
        let below : n < 0 + length key.values = position_from-within (same_value value) 0 key.values n e in
        grind (arith, nat_tests)

    optional : (b : Bool) → (b || list_any (is_of key.name) attrs) ≡ true → list_any (is_of key.name) attrs ≡ false → b ≡ true
    optional true e none = refl
    optional false e none = absurd (true≢false (sym e ∙ none))

    at : (found : Option Given) → find (is_of key.name) attrs ≡ found → is_some (entry_of key found) ≡ true → is_entry (key_facts key) (unwrap_or (entry_of key found) 0) ≡ true
    at None e some = optional key.optional complete (none_found (is_of key.name) attrs e)
    at (Some given) e some = placed given.1 (place key.values given.1) refl some

zeros : (n : ℕ) → list_all (λ entry. entry == 0) (replicate n 0) ≡ true
zeros zero = refl
zeros (suc n) = zeros n

entries_fit : (attrs : List Given) (keys : List Key) (n : ℕ) → list_all (is_allowed attrs) keys ≡ true → list_all (is_complete attrs) keys ≡ true
    → is_full_set (map key_facts keys) (map (λ key. unwrap_or (entry_at attrs key) 0) keys ++ replicate n 0) ≡ true
entries_fit attrs [] n allowed complete = zeros n
entries_fit attrs (key ∷ keys) n allowed complete =
    let a = and_parts (is_allowed attrs key) (list_all (is_allowed attrs) keys) allowed in
    let c = and_parts (is_complete attrs key) (list_all (is_complete attrs) keys) complete in
    ap (λ (b : Bool). b && is_full_set (map key_facts keys) (map (λ k. unwrap_or (entry_at attrs k) 0) keys ++ replicate n 0)) (entry_fits attrs key a.0 c.0)
    ∙ entries_fit attrs keys n a.1 c.1

full : (keys : List Key) (attrs : List Given) (set : List ℕ) → set_of keys attrs ≡ Ok set → is_full_set (map key_facts keys) set ≡ true
unfolding set_of
full keys attrs set made =
    let new = require_ok (not (has_repeated_key attrs)) DuplicateKey _ set made in
    let known = require_ok (list_all (is_declared keys) attrs) UnknownKey _ set new.1 in
    let valued = require_ok (list_all (has_declared_value keys) attrs) UnknownValue _ set known.1 in
    let complete = require_ok (list_all (is_complete attrs) keys) MissingKey _ set valued.1 in
    let allowed = sym (values_by_keys keys attrs (not-true (has_repeated_key attrs) new.0)) ∙ valued.0 in
    subst (λ (entries : List ℕ). is_full_set (map key_facts keys) entries ≡ true) (ok_is (set_key keys attrs) set (Ok (set_key keys attrs)) refl complete.1)
    (entries_fit attrs keys (8 - length keys) allowed complete.0)

pub encoded_sets_are_allowed : EncodesAllowedSets
unfolding allowed_set
encoded_sets_are_allowed instrument attrs set made =
    after_ok (set_of instrument.keys attrs) _ set made
    (λ own named rest.
    let allowed = require_ok (permits instrument.allowed own) Combination _ set rest in
    subst (λ (s : List ℕ). (is_full_set (map key_facts instrument.keys) s && permits instrument.allowed s) ≡ true) (ok_is own set (Ok own) refl allowed.1)
    (and_from (is_full_set (map key_facts instrument.keys) own) (permits instrument.allowed own) (full instrument.keys attrs own named) allowed.0))
