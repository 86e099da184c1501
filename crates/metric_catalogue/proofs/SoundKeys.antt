-- What is read as a text or a key is sound.
use Rattle.std.proofs.Common.{◌≡◌, ◌≢◌, ℕ, ℤ, ◌+◌, ◌<◌, ◌≤◌, All, map, Err, Bool, true, false, cond, not, ◌||◌, ◌==◌, List, [], ◌∷◌, ◌++◌, length, Option, Some, None, is_some, Ok, refl, sym, subst, ◌∙◌, arith, codes, nat_le, nat_lt, append_assoc, append-nil, true≢false, unwrap_or}
use Rattle.std.proofs.lemmas.Bool.Decides.{nat_tests}
use Rattle.std.proofs.lemmas.List.{length-append}
use Rattle.std.proofs.lemmas.List.FromFn.{length-map-range_with_len}
use Rattle.std.proofs.lemmas.List.Kept.{AllPairs-cons}
use Rattle.std.proofs.lemmas.List.Elements.{All-append, All-cons, All-from_recursion, All-push}
use Rattle.std.proofs.lemmas.List.Quantifiers.{all_pairs_push}
use Rattle.std.specs.List.{AllByRecursion, AllPairs, list_any, position_from, range_with_len}
use Rattle.std.specs.Str.{bytes_eq, chars}
use Rattle.toml.specs.Data.{Data, Members, string, integer, float, boolean, datetime, array, table as table_data}
use Rattle.metric_base.specs.Steps.{in_turn}
use Rattle.metric_base.specs.StepLaws.{after_ok, require_ok, ok_is}
use Rattle.metric_names.specs.declared.value.AttrValue.{AttrValue}
use Rattle.metric_names.specs.declared.value.AttrValue.TheVariants.{Text, Whole, Flag}
use Rattle.metric_table.specs.Fields.{field, list_of, optional_text, short_text, text_field}
use Rattle.metric_contents.specs.declared.contents.Key.{Key}
use Rattle.metric_catalogue.specs.declared.fault.CatalogueDefect.TheVariants.{BadName, DuplicateKey, DuplicateValue, MissingField, ReservedKey, TooMany, WrongKind}
use Rattle.metric_catalogue.specs.declared.fault.CatalogueFault.TheVariants.{At}
use Rattle.metric_catalogue.specs.declared.fault.CataloguePlace.{CataloguePlace}
use Rattle.metric_catalogue.specs.declared.fault.CataloguePlace.TheVariants as places
use Rattle.metric_catalogue.specs.declared.fault.CatalogueSpot.{CatalogueSpot}
use Rattle.metric_catalogue.specs.declared.fault.CatalogueField.TheVariants as fields
use Rattle.metric_catalogue.specs.Faults.{entry_at, faults_at, field_at}
use Rattle.metric_catalogue.specs.declared.values.Listing.{Listing}
use Rattle.metric_catalogue.specs.Keys.{key_name, key_named, key_of, only_key_fields, optional_field, values_with}
use Rattle.metric_catalogue.specs.KeyValues.{nothing_listed, nth_from, some_values, span_length, span_of, spread, value_at, values_field, values_listed, with_entry, with_span, with_table, with_value, with_values}
use Rattle.metric_contents.specs.KeyNames.{is_key}
use Rattle.metric_contents.specs.SameValues.{same_value-Decides}
use Rattle.metric_contents.specs.Places.{has_repeat, place, repeats_after, same_value}
use Rattle.metric_catalogue.specs.Sound.{IsFreeText, IsLabel, IsSoundKey, IsSoundList, IsSoundValue}
use Rattle.metric_catalogue.specs.Texts.{free_text, label_field, label_of, needed_text}
use Rattle.std.proofs.lemmas.Bool.{not-true, or_parts}
use Rattle.metric_catalogue.proofs.SoundLists.{IsNext, apart_by, texts_apart}

-- a short text is the text, and is a free text
short_made : (at : CatalogueSpot) (text name : List ℕ) → short_text (faults_at at) text ≡ Ok name → (text ≡ name) × IsFreeText name
unfolding short_text
short_made at text name e =
    let (short, e1) = require_ok (nat_le (length (chars text)) 1023) (At TooMany at) _ name e in
    let same = ok_is text name (Ok text) refl e1 in
    let few : IsFreeText text = grind (arith, nat_tests) in
    (same, subst IsFreeText same few)

pub needed_made : (at : CatalogueSpot) (name : List ℕ) (table : Members) (text : List ℕ) → needed_text at name table ≡ Ok text → IsFreeText text
unfolding needed_text
needed_made at name table text e0 =
    after_ok (text_field (faults_at at) name table) _ text e0 (λ t _ e1. (short_made at t text e1).1)

pub free_made : (at : CatalogueSpot) (name : List ℕ) (table : Members) (text : List ℕ) → free_text at name table ≡ Ok text → IsFreeText text
unfolding free_text
free_made at name table text e0 =
    after_ok (optional_text (faults_at at) name table) _ text e0 (λ t _ e1. (short_made at (unwrap_or t []) text e1).1)

-- the name of a key or a recorder is a label
pub named_made : (at : CatalogueSpot) (text name : List ℕ) → label_of at text ≡ Ok name → IsLabel name
named_made at text name e1 =
    let (full, e2) = require_ok (not (length text == 0)) (At BadName at) _ name e1 in
    let (same, free) = short_made at text name e2 in
    let some : 0 < length text = grind (arith, nat_tests) in
    record { some = subst (λ (t : List ℕ). 0 < length t) same some; free = free }

pub label_made : (at : CatalogueSpot) (field : List ℕ) (table : Members) (name : List ℕ) → label_field at field table ≡ Ok name → IsLabel name
unfolding label_field
label_made at field table name e0 = after_ok (text_field (faults_at at) field table) _ name e0 (λ text _ e1. named_made at text name e1)

name_made : (table_at : CataloguePlace) (text name : List ℕ) → key_name table_at text ≡ Ok name → IsLabel name × (name ≢ codes "otel.metric.overflow")
unfolding key_name
name_made table_at text name e0 =
    let at = field_at table_at fields.Name in
    after_ok (label_of at text) _ name e0 (λ label made e1.
    let (other, e2) = require_ok (not (bytes_eq label (codes "otel.metric.overflow"))) (At ReservedKey at) _ name e1 in
    let apart = texts_apart label (codes "otel.metric.overflow") (not-true (bytes_eq label (codes "otel.metric.overflow")) other) in
    (named_made at text name (made ∙ e2), subst (λ (t : List ℕ). t ≢ codes "otel.metric.overflow") (ok_is label name (Ok label) refl e2) apart))

value_made : (at : CatalogueSpot) (d : Data) (value : AttrValue) → value_at at d ≡ Ok value → IsSoundValue value
value_made at (string text) value e0 =
    after_ok (short_text (faults_at at) text) _ value e0 (λ short made e1. subst IsSoundValue (ok_is (Text short) value (Ok (Text short)) refl e1) (short_made at text short made).1)
value_made at (integer number) value e = subst IsSoundValue (ok_is (Whole number) value (Ok (Whole number)) refl e) tt
value_made at (boolean flag) value e = subst IsSoundValue (ok_is (Flag flag) value (Ok (Flag flag)) refl e) tt
value_made at _ value e = absurd cc

-- no value of a list is the one that has no place there
no_place : (value : AttrValue) (i : ℕ) (values : List AttrValue) → is_some (position_from (same_value value) i values) ≡ false → AllByRecursion (λ other. other ≢ value) values
no_place value i [] e = tt
no_place value i (other ∷ values) e = by (same_value value other) refl e (no_place value (i + 1) values)
  where
    by : (b : Bool) → same_value value other ≡ b → is_some (cond b (Some i) (position_from (same_value value) (i + 1) values)) ≡ false
        → (is_some (position_from (same_value value) (i + 1) values) ≡ false → AllByRecursion (λ o. o ≢ value) values) → (other ≢ value) × AllByRecursion (λ o. o ≢ value) values
    by true h e rest = absurd (true≢false e)
    by false h e rest = (λ same. true≢false (sym ((same_value-Decides value other).1 (sym same)) ∙ h), rest e)

-- values of which none stands before its own place differ
differ_after : (before left : List AttrValue) → AllPairs (λ value other. value ≢ other) before → repeats_after before left ≡ false → AllPairs (λ value other. value ≢ other) (before ++ left)
differ_after before [] all e = subst (AllPairs (λ (value other : AttrValue). value ≢ other)) (sym (append-nil before)) all
differ_after before (value ∷ left) all e =
    let (fresh, rest) = or_parts (is_some (place before value)) (repeats_after (before ++ value ∷ []) left) e in
    let apart = All-from_recursion (λ other. other ≢ value) before (no_place value 0 before fresh) in
    let more = all_pairs_push (λ v w. v ≢ w) before value all (λ k d within. apart k d within) in
    subst (AllPairs (λ (v w : AttrValue). v ≢ w)) (append_assoc before (value ∷ []) left) (differ_after (before ++ value ∷ []) left more rest)

-- values of which each is sound, as many as there may be
record AreListed (values : List AttrValue) : Type 0 where
  few : length values ≤ 1000
  each : All IsSoundValue values

-- the same with one more at least
abbrev AddsSome : List AttrValue → List AttrValue → Type 0
AddsSome before after = AreListed after × (length before + 1 ≤ length after)

-- each number of a range is a sound value
numbers_sound : (first : ℤ) (places : List ℕ) → All IsSoundValue (map (nth_from first) places)
numbers_sound first [] = λ k d within. absurd (omega arith)
numbers_sound first (place ∷ places) = All-cons IsSoundValue (nth_from first place) (map (nth_from first) places) tt (numbers_sound first places)

span_added : (list at : CatalogueSpot) (before : List AttrValue) (table : Members) (after : List AttrValue) → with_span list at before table ≡ Ok after → AreListed before → AddsSome before after
unfolding with_span
span_added list at before table after e0 sound =
    after_ok (span_of at table) _ after e0 (λ span _ e1.
    let (fits, e2) = require_ok (nat_le (length before + span_length span) 1000) (At TooMany list) _ after e1 in
    let more : List AttrValue = spread span in
    let made : List AttrValue = before ++ more in
    let long : length made ≡ length before + length more = length-append before more in
    let count : length more ≡ span_length span = length-map-range_with_len (nth_from span.0) 0 (span_length span) in
    let within : length before + span_length span ≤ 1000 = grind (arith, nat_tests) in
    let numbers : All IsSoundValue more = numbers_sound span.0 (range_with_len 0 (span_length span)) in
    let all : AreListed made = record { few = omega (arith, long, count, within); each = All-append IsSoundValue before more sound.each numbers } in
    let adds : AddsSome before made = (all, omega (arith, long, count)) in
    subst (AddsSome before) (ok_is made after (Ok made) refl e2) adds)

value_added : (list at : CatalogueSpot) (before : List AttrValue) (d : Data) (after : List AttrValue) → with_value list at before d ≡ Ok after → AreListed before → AddsSome before after
unfolding with_value
value_added list at before d after e0 sound =
    after_ok (value_at at d) _ after e0 (λ value read e1.
    let (fits, e2) = require_ok (nat_lt (length before) 1000) (At TooMany list) _ after e1 in
    let made : List AttrValue = before ++ value ∷ [] in
    let long : length made ≡ length before + 1 = length-append before (value ∷ []) in
    let within : length before < 1000 = grind (arith, nat_tests) in
    let all : AreListed made = record { few = omega (arith, long, within); each = All-push IsSoundValue before value sound.each (value_made at d value read) } in
    let adds : AddsSome before made = (all, omega (arith, long)) in
    subst (AddsSome before) (ok_is made after (Ok made) refl e2) adds)

table_added : (format : ℕ) (list at : CatalogueSpot) (before : List AttrValue) (table : Members) (after : List AttrValue) → with_table format list at before table ≡ Ok after → AreListed before → AddsSome before after
table_added format list at before table after e sound = by (format == 3) e
  where
    by : (b : Bool) → cond b (with_span list at before table) (Err (At WrongKind at)) ≡ Ok after → AddsSome before after
    by true told = span_added list at before table after told sound
    by false told = absurd cc

values_added : (format : ℕ) (list at : CatalogueSpot) (before : List AttrValue) (d : Data) (after : List AttrValue) → with_values format list at before d ≡ Ok after → AreListed before → AddsSome before after
values_added format list at before (table_data table) after e sound = table_added format list at before table after e sound
values_added format list at before (string x) after e sound = value_added list at before (string x) after e sound
values_added format list at before (integer x) after e sound = value_added list at before (integer x) after e sound
values_added format list at before (float x) after e sound = value_added list at before (float x) after e sound
values_added format list at before (boolean x) after e sound = value_added list at before (boolean x) after e sound
values_added format list at before (datetime x) after e sound = value_added list at before (datetime x) after e sound
values_added format list at before (array x) after e sound = value_added list at before (array x) after e sound

entry_added : (format : ℕ) (at : CatalogueSpot) (before : Listing) (d : Data) (after : Listing) → with_entry format at before d ≡ Ok after → AreListed before.values → AddsSome before.values after.values
unfolding with_entry
entry_added format at before d after e0 sound =
    after_ok (with_values format at (entry_at at before.entries) before.values d) _ after e0 (λ values made e1.
    let listing : Listing = record { entries = before.entries + 1; values = values } in
    let adds = values_added format at (entry_at at before.entries) before.values d values made sound in
    subst (λ (l : Listing). AddsSome before.values l.values) (ok_is listing after (Ok listing) refl e1) adds)

-- the values of all entries, of which each stands for one at least
entries_added : (format : ℕ) (at : CatalogueSpot) (before : Listing) (ds : List Data) (after : Listing) → in_turn (with_entry format at) before ds ≡ Ok after → AreListed before.values
    → AreListed after.values × (length before.values + length ds ≤ length after.values)
entries_added format at before [] after e sound =
    let same = ok_is before after (Ok before) refl e in
    let none : length before.values + 0 ≤ length before.values = omega arith in
    (subst (λ (l : Listing). AreListed l.values) same sound, subst (λ (l : Listing). length before.values + 0 ≤ length l.values) same none)
entries_added format at before (d ∷ ds) after e sound =
    after_ok (with_entry format at before d) _ after e (λ next made rest.
    let (listed, one) = entry_added format at before d next made sound in
    let (all, more) = entries_added format at next ds after rest listed in
    (all, omega (arith, one, more)))

some_made : (format : ℕ) (at : CatalogueSpot) (table : Members) (values : List AttrValue) → some_values format at table ≡ Ok values → (0 < length values) × AreListed values
unfolding some_values values_listed
some_made format at table values e0 =
    after_ok (field (faults_at at) (codes "values") table) _ values e0 (λ d _ e1.
    after_ok (list_of (faults_at at) 1000 d) _ values e1 (λ ds _ e2.
    let (full, e3) = require_ok (not (length ds == 0)) (At MissingField at) _ values e2 in
    after_ok (in_turn (with_entry format at) nothing_listed ds) _ values e3 (λ listing made e4.
    let some : 0 < length ds = grind (arith, nat_tests) in
    let none : AreListed [] = record { few = omega arith; each = λ k d within. absurd (omega arith) } in
    let (all, more) = entries_added format at nothing_listed ds listing made none in
    let long : 0 < length listing.values = omega (arith, some, more) in
    let same = ok_is listing.values values (Ok listing.values) refl e4 in
    (subst (λ (vs : List AttrValue). 0 < length vs) same long, subst AreListed same all))))

-- distinct values of which each is sound, and there is one
abbrev AreValues : List AttrValue → Type 0
AreValues values = (0 < length values) × IsSoundList 1000 IsSoundValue (λ value other. value ≢ other) values

values_made : (format : ℕ) (at : CatalogueSpot) (table : Members) (values : List AttrValue) → values_field format at table ≡ Ok values → AreValues values
unfolding values_field
values_made format at table values e0 =
    after_ok (some_values format at table) _ values e0 (λ vs made e1.
    let (distinct, e2) = require_ok (not (has_repeat vs)) (At DuplicateValue at) _ values e1 in
    let same = ok_is vs values (Ok vs) refl e2 in
    let (some, sound) = some_made format at table values (made ∙ e2) in
    let differ = differ_after [] vs (λ i j d before within. absurd (omega arith)) (not-true (has_repeat vs) distinct) in
    (some, record { few = sound.few; each = sound.each; apart = subst (AllPairs (λ (v w : AttrValue). v ≢ w)) same differ }))

-- one before them, which is none of them
value_more : (values : List AttrValue) (value : AttrValue) → length values < 1000 → IsSoundValue value → is_some (place values value) ≡ false → AreValues values → AreValues (value ∷ values)
value_more values value few one fresh (some, sound) =
    let others = All-from_recursion (λ other. other ≢ value) values (no_place value 0 values fresh) in
    let apart = AllPairs-cons (λ v w. v ≢ w) value values (λ k d within. λ same. others k d within (sym same)) sound.apart in
    (omega arith, record { few = omega arith; each = All-cons IsSoundValue value values one sound.each; apart = apart })

other_made : (at : CatalogueSpot) (values : List AttrValue) (other : Option (List ℕ)) (all : List AttrValue) → values_with at values other ≡ Ok all → AreValues values → AreValues all
other_made at values None all e sound = subst AreValues (ok_is values all (Ok values) refl e) sound
other_made at values (Some other) all e0 sound =
    after_ok (short_text (faults_at at) other) _ all e0 (λ short made e1.
    let is_among = is_some (place values (Text short)) in
    let (fits, e2) = require_ok (is_among || nat_lt (length values) 1000) (At TooMany at) _ all e1 in
    let made_of = cond is_among values (Text short ∷ values) in
    subst AreValues (ok_is made_of all (Ok made_of) refl e2) (by short (short_made at other short made).1 is_among refl fits))
  where
    by : (short : List ℕ) → IsFreeText short → (b : Bool) → is_some (place values (Text short)) ≡ b → (b || nat_lt (length values) 1000) ≡ true → AreValues (cond b values (Text short ∷ values))
    by short own true among fits = sound
    by short own false fresh fits = let few : length values < 1000 = grind (arith, nat_tests) in value_more values (Text short) few own fresh sound

-- what a key of a name declares
pub key_is_sound : (format : ℕ) (at : CataloguePlace) (text : List ℕ) (table : Members) (key : Key) → key_named format at text table ≡ Ok key → IsSoundKey key
unfolding key_named
key_is_sound format at text table key e0 =
    let other_at = field_at at fields.Other in
    after_ok (key_name at text) _ key e0 (λ name named e1.
    after_ok (values_field format (field_at at fields.Values) table) _ key e1 (λ values valued e2.
    after_ok (optional_text (faults_at other_at) (codes "other") table) _ key e2 (λ other _ e3.
    after_ok (values_with other_at values other) _ key e3 (λ all more e4.
    after_ok (optional_field (field_at at fields.Optional) table) _ key e4 (λ optional _ e5.
    let (label, own) = name_made at text name named in
    let (some, distinct) = other_made other_at values other all more (values_made format (field_at at fields.Values) table values valued) in
    let made : Key = record { name = name; values = all; optional = optional } in
    let sound : IsSoundKey made = record { name = label; not_reserved = own; some = some; values = distinct } in
    subst IsSoundKey (ok_is made key (Ok made) refl e5) sound)))))

-- a key whose name no earlier one has
pub next_key : (before : List Key) (key : Key) → IsSoundKey key → not (list_any (is_key key.name) before) ≡ true → IsNext IsSoundKey (λ other k. other.name ≢ k.name) before key
next_key before key sound new = record {
  sound = sound;
  apart = apart_by (λ o k. o.name ≢ k.name) (is_key key.name) before key (λ o h. texts_apart o.name key.name h) new;
}

pub key_made : (format instrument : ℕ) (before : List Key) (table : Members) (key : Key) → key_of format instrument before table ≡ Ok key → IsNext IsSoundKey (λ other k. other.name ≢ k.name) before key
unfolding key_of
key_made format instrument before table key e0 =
    let at = places.Key instrument (length before) in
    let name_at = field_at at fields.Name in
    after_ok (only_key_fields at table) _ key e0 (λ _ _ e1.
    after_ok (text_field (faults_at name_at) (codes "name") table) _ key e1 (λ text _ e2.
    after_ok (key_named format at text table) _ key e2 (λ made named e3.
    let (new, e4) = require_ok (not (list_any (is_key made.name) before)) (At DuplicateKey name_at) _ key e3 in
    subst (IsNext IsSoundKey (λ o k. o.name ≢ k.name) before) (ok_is made key (Ok made) refl e4) (next_key before made (key_is_sound format at text table made named) new))))
