-- What is read as a key that is declared once, or as the keys of an instrument, is sound.
use Rattle.std.proofs.Common.{suc, ◌≡◌, ◌≢◌, ℕ, ◌≤◌, All, Bool, true, false, cond, not, ◌||◌, ◌==◌, List, [], ◌∷◌, length, Option, Some, None, Ok, refl, subst, arith, codes, unwrap_or}
use Rattle.std.specs.List.{find, list_all, list_any}
use Rattle.toml.specs.Data.{Data, Members, get_member, string, table as table_data}
use Rattle.metric_base.specs.Steps.{require_some}
use Rattle.metric_base.specs.StepLaws.{after_ok, require_ok, ok_is}
use Rattle.metric_table.specs.Fields.{optional_text}
use Rattle.metric_contents.specs.declared.contents.Key.{Key}
use Rattle.metric_contents.specs.KeyNames.{is_key}
use Rattle.metric_catalogue.specs.declared.shared_keys.SharedKey.{SharedKey}
use Rattle.metric_catalogue.specs.declared.fault.CatalogueDefect.TheVariants.{DuplicateKey, UnknownKey, WrongKind}
use Rattle.metric_catalogue.specs.declared.fault.CatalogueFault.TheVariants.{At}
use Rattle.metric_catalogue.specs.declared.fault.CataloguePlace.TheVariants as place
use Rattle.metric_catalogue.specs.declared.fault.CatalogueSpot.{CatalogueSpot}
use Rattle.metric_catalogue.specs.declared.fault.CatalogueField.TheVariants as fields
use Rattle.metric_catalogue.specs.Faults.{faults_at, field_at}
use Rattle.metric_catalogue.specs.Keys.{key_named}
use Rattle.metric_catalogue.specs.SharedKeys.{entries_field, entries_within, entry_place, has_id, is_table, key_by_id, key_entry, key_id, shared_key}
use Rattle.metric_catalogue.specs.Sound.{IsSoundKey}
use Rattle.metric_catalogue.proofs.PlainFiles.{some_made as value_made}
use Rattle.metric_catalogue.proofs.SoundKeys.{key_is_sound, key_made, next_key}
use Rattle.metric_catalogue.proofs.SoundLists.{IsNext, list_few}

abbrev pub IsSoundShared : SharedKey → Type 0
IsSoundShared shared = IsSoundKey shared.key

pub shared_made : (before : List SharedKey) (table : Members) (shared : SharedKey) → shared_key before table ≡ Ok shared → IsNext IsSoundShared (λ _ _. Unit {0}) before shared
unfolding shared_key
shared_made before table shared e0 =
    let at = place.SharedKey (length before) in
    after_ok (key_id at table) _ shared e0 (λ id _ e1.
    let (_, e2) = require_ok (not (list_any (has_id id) before)) (At DuplicateKey (field_at at fields.Id)) _ shared e1 in
    after_ok (optional_text (faults_at (field_at at fields.Name)) (codes "name") table) _ shared e2 (λ text _ e3.
    after_ok (key_named 3 at (unwrap_or text id) table) _ shared e3 (λ key made e4.
    let all : SharedKey = record { id = id; key = key } in
    record { sound = subst IsSoundShared (ok_is all shared (Ok all) refl e4) (key_is_sound 3 at (unwrap_or text id) table key made); apart = λ k d within. tt })))

-- what is found is one of the list
found_holds : {X : Type 0} (P : X → Type 0) (test : X → Bool) (xs : List X) (x : X) → find test xs ≡ Some x → All P xs → P x
found_holds P test [] x e all = absurd cc
found_holds {X} P test (y ∷ ys) x e all = by (test y) e (λ (found : find test ys ≡ Some x). found_holds P test ys x found (λ k d within. all (suc k) d (omega arith)))
  where
    by : (b : Bool) → cond b (Some y) (find test ys) ≡ Some x → (find test ys ≡ Some x → P x) → P x
    by true found rest = let same : y ≡ x = cc in subst P same (all 0 y (omega arith))
    by false found rest = rest found

by_id_made : (at : CatalogueSpot) (shared : List SharedKey) → All IsSoundShared shared → (before : List Key) (id : List ℕ) (key : Key) → key_by_id at shared before id ≡ Ok key
    → IsNext IsSoundKey (λ other k. other.name ≢ k.name) before key
unfolding key_by_id
by_id_made at shared known before id key e0 =
    after_ok (require_some (find (has_id id) shared) (At UnknownKey at)) _ key e0 (λ found is e1.
    let (new, e2) = require_ok (not (list_any (is_key found.key.name) before)) (At DuplicateKey at) _ key e1 in
    let sound = found_holds IsSoundShared (has_id id) shared found (value_made (find (has_id id) shared) (At UnknownKey at) found is) known in
    subst (IsNext IsSoundKey (λ o k. o.name ≢ k.name) before) (ok_is found.key key (Ok found.key) refl e2) (next_key before found.key sound new))

pub entry_made : (format : ℕ) (shared : List SharedKey) → All IsSoundShared shared → (instrument : ℕ) (before : List Key) (d : Data) (key : Key) → key_entry format shared instrument before d ≡ Ok key
    → IsNext IsSoundKey (λ other k. other.name ≢ k.name) before key
entry_made format shared known instrument before (table_data table) key e = key_made format instrument before table key e
entry_made format shared known instrument before (string id) key e = by_id_made (entry_place instrument before) shared known before id key e
entry_made format shared known instrument before _ key e = absurd cc

within_few : (at : CatalogueSpot) (d : Option Data) (entries : List Data) → entries_within at d ≡ Ok entries → length entries ≤ 8
within_few at None entries e = subst (λ (ds : List Data). length ds ≤ 8) (ok_is [] entries (Ok []) refl e) (omega arith)
within_few at (Some d) entries e = list_few (faults_at at) 8 d entries e

pub entries_few : (format : ℕ) (at : CatalogueSpot) (table : Members) (entries : List Data) → entries_field format at table ≡ Ok entries → length entries ≤ 8
unfolding entries_field
entries_few format at table entries e0 =
    after_ok (entries_within at (get_member (codes "key") table)) _ entries e0 (λ ds made e1.
    let (_, e2) = require_ok (format == 3 || list_all is_table ds) (At WrongKind at) _ entries e1 in
    subst (λ (es : List Data). length es ≤ 8) (ok_is ds entries (Ok ds) refl e2) (within_few at (get_member (codes "key") table) ds made))
