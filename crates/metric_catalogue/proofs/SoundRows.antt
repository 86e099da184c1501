-- What is read as allowed combinations is sound.
use Rattle.std.proofs.Common.{◌≡◌, ◌≢◌, ℕ, ℤ, zero, suc, pos, negsuc, ◌+◌, ◌-◌, ◌≤◌, Bool, true, not, ◌&&◌, List, [], ◌∷◌, ◌++◌, length, map, replicate, Option, Some, None, is_some, cond, Ok, refl, sym, ap, subst, ◌∙◌, arith, codes, IfSome}
use Rattle.std.proofs.lemmas.Bool.{and_parts}
use Rattle.std.proofs.lemmas.List.{length-append, length-map, length-replicate}
use Rattle.std.specs.List.{list_all}
use Rattle.std.specs.Prelude.{◌==◌, unsigned_abs}
use Rattle.std.specs.Str.{bytes_eq}
use Rattle.toml.specs.Data.{Data, Members, no_members, get_member}
use Rattle.metric_base.specs.Steps.{each}
use Rattle.metric_base.specs.StepLaws.{after_ok, require_ok, ok_is}
use Rattle.metric_combinations.specs.Combinations.{allows}
use Rattle.metric_table.specs.Fields.{all_integers_of, list_of}
use Rattle.metric_contents.specs.declared.contents.Key.{Key}
use Rattle.metric_catalogue.specs.declared.fault.CatalogueDefect.TheVariants.{BadCombination, DuplicateCombination}
use Rattle.metric_catalogue.specs.declared.fault.CatalogueFault.TheVariants.{At}
use Rattle.metric_catalogue.specs.declared.fault.CatalogueSpot.{CatalogueSpot}
use Rattle.metric_catalogue.specs.Allowed.{allowed_field, allowed_of, is_entry_of, is_row, row_of, row_set, rows_within, set_of_row}
use Rattle.metric_catalogue.specs.Faults.{entry_at, faults_at}
use Rattle.metric_catalogue.specs.Holding.{holder}
use Rattle.metric_contents.specs.KeySets.{is_key_entry, is_key_set}
use Rattle.metric_catalogue.specs.Sound.{AreSoundRows, IsSoundRow}
use Rattle.metric_catalogue.proofs.SoundLists.{IsNext, apart_by, list_few, made_sound, texts_apart}

-- a row has an entry for each key
row_length : (keys : List Key) (entries : List ℤ) → is_row keys entries ≡ true → length entries ≡ length keys
row_length [] [] e = refl
row_length [] (x ∷ xs) e = absurd cc
row_length (key ∷ keys) [] e = absurd cc
row_length (key ∷ keys) (x ∷ xs) e =
    let rest = row_length keys xs ((and_parts (is_entry_of key x) (is_row keys xs) e).1) in
    omega arith

entry_full : (key : Key) (entry : ℤ) → is_entry_of key entry ≡ true → is_key_entry key (unsigned_abs entry) ≡ true
entry_full key (pos n) e = e
entry_full key (negsuc n) e = absurd cc

zeros : (n : ℕ) → list_all (λ entry. entry == 0) (replicate n 0) ≡ true
zeros zero = refl
zeros (suc n) = zeros n

-- a row is a full set
row_full : (keys : List Key) (entries : List ℤ) (n : ℕ) → is_row keys entries ≡ true → is_key_set keys (map unsigned_abs entries ++ replicate n 0) ≡ true
row_full [] [] n e = zeros n
row_full [] (x ∷ xs) n e = absurd cc
row_full (key ∷ keys) [] n e = absurd cc
row_full (key ∷ keys) (x ∷ xs) n e =
    let (own, rest) = and_parts (is_entry_of key x) (is_row keys xs) e in
    ap (λ (b : Bool). b && is_key_set keys (map unsigned_abs xs ++ replicate n 0)) (entry_full key x own) ∙ row_full keys xs n rest

row_sound : (keys : List Key) (entries : List ℤ) → length keys ≤ 8 → is_row keys entries ≡ true → IsSoundRow keys (row_set entries)
row_sound keys entries few e =
    let front : List ℕ = map unsigned_abs entries in
    let back : List ℕ = replicate (8 - length entries) 0 in
    let all : length (front ++ back) ≡ length front + length back = length-append front back in
    let read : length front ≡ length entries = length-map entries unsigned_abs in
    let left : length back ≡ 8 - length entries = length-replicate {A = ℕ} (8 - length entries) 0 in
    let own = row_length keys entries e in
    record { full = row_full keys entries (8 - length entries) e; long = omega (arith, all, read, left, own, few) }

row_made : (at : CatalogueSpot) (keys : List Key) → length keys ≤ 8 → (before : List (List ℕ)) (d : Data) (set : List ℕ) → row_of at keys before d ≡ Ok set
    → IsNext (IsSoundRow keys) (λ row other. row ≢ other) before set
unfolding row_of set_of_row
row_made field keys few before d set e0 =
    let at = entry_at field (length before) in
    after_ok (set_of_row at keys d) _ set e0 (λ row made e1.
    let (new, e2) = require_ok (not (allows before row)) (At DuplicateCombination at) _ set e1 in
    after_ok (all_integers_of (faults_at at) d) _ row made (λ entries _ e3.
    let (fits, e4) = require_ok (is_row keys entries) (At BadCombination at) _ row e3 in
    let next : IsNext (IsSoundRow keys) (λ r o. r ≢ o) before row = record {
      sound = subst (IsSoundRow keys) (ok_is (row_set entries) row (Ok (row_set entries)) refl e4) (row_sound keys entries few fits);
      apart = apart_by (λ r o. r ≢ o) (λ r. bytes_eq r row) before row (λ o h. texts_apart o row h) new;
    } in
    subst (IsNext (IsSoundRow keys) (λ r o. r ≢ o) before) (ok_is row set (Ok row) refl e2) next))

-- the combinations that a few rows are
pub allowed_made : (at : CatalogueSpot) (keys : List Key) → length keys ≤ 8 → (rows : Option (List Data)) → IfSome rows (λ ds. length ds ≤ 4096)
    → (allowed : Option (List (List ℕ))) → allowed_of at keys rows ≡ Ok allowed → IfSome allowed (AreSoundRows keys)
allowed_made at keys few None listed allowed e = subst (λ (o : Option (List (List ℕ))). IfSome o (AreSoundRows keys)) (ok_is None allowed (Ok None) refl e) tt
allowed_made at keys few (Some rows) listed allowed e0 =
    after_ok (each (row_of at keys) [] rows) _ allowed e0 (λ sets made e1.
    subst (λ (o : Option (List (List ℕ))). IfSome o (AreSoundRows keys)) (ok_is (Some sets) allowed (Ok (Some sets)) refl e1)
    (made_sound 4096 (IsSoundRow keys) (λ r o. r ≢ o) (row_of at keys) (row_made at keys few) rows sets made listed))

-- without a group, a table without a field has none
pub held_none : (name : List ℕ) (table : Members) → get_member name table ≡ None → get_member name (holder name no_members table) ≡ None
held_none name table none = ap (λ (o : Option Data). get_member name (cond (is_some o) table no_members)) none

few_within : (at : CatalogueSpot) (d : Option Data) (rows : Option (List Data)) → rows_within at d ≡ Ok rows → IfSome rows (λ ds. length ds ≤ 4096)
few_within at None rows e = subst (λ (o : Option (List Data)). IfSome o (λ ds. length ds ≤ 4096)) (ok_is None rows (Ok None) refl e) tt
few_within at (Some d) rows e0 =
    after_ok (list_of (faults_at at) 4096 d) _ rows e0 (λ values made e1.
    subst (λ (o : Option (List Data)). IfSome o (λ ds. length ds ≤ 4096)) (ok_is (Some values) rows (Ok (Some values)) refl e1) (list_few (faults_at at) 4096 d values made))

-- a table lists a few rows
pub rows_few : (at : CatalogueSpot) (group table : Members) (rows : Option (List Data)) → allowed_field at group table ≡ Ok rows → IfSome rows (λ ds. length ds ≤ 4096)
unfolding allowed_field
rows_few at group table rows e = few_within at (get_member (codes "allowed") (holder (codes "allowed") group table)) rows e

-- a table that has no such field lists none
pub rows_none : (at : CatalogueSpot) (table : Members) (rows : Option (List Data)) → get_member (codes "allowed") table ≡ None → allowed_field at no_members table ≡ Ok rows → rows ≡ None
unfolding allowed_field
rows_none at table rows none e = sym (ok_is None rows (Ok None) refl (sym (ap (rows_within at) (held_none (codes "allowed") table none)) ∙ e))
