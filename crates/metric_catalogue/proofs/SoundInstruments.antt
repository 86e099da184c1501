-- What is read as an instrument is sound.
use Rattle.std.proofs.Common.{◌≡◌, ◌≢◌, ℕ, ℤ, pos, negsuc, ◌-◌, ◌-ℤ◌, ◌++◌, unsigned_abs, ◌≤ℤ◌, ◌<◌, ◌≤◌, ◌^◌, All, Bool, true, false, not, ◌&&◌, ◌||◌, ◌==◌, List, [], length, Option, Some, None, Result, Ok, Err, refl, sym, ap, subst, ◌∙◌, arith, codes, int_le, IsTrue, IfSome, eq-eqb, true≢false, unwrap_or, cond, nat_lt, is_some}
use Rattle.std.proofs.lemmas.Bool.Decides.{nat_tests}
use Rattle.std.proofs.lemmas.Int.{ints}
use Rattle.std.proofs.lemmas.Slice.Eq.{bytes_eq-Decides}
use Rattle.std.specs.List.{list_any}
use Rattle.std.specs.Str.{bytes_eq}
use Rattle.toml.specs.Data.{Data, Members, get_member}
use Rattle.metric_base.specs.Boundaries.{is_rising}
use Rattle.metric_base.specs.Steps.{each, with_fault}
use Rattle.metric_base.specs.StepLaws.{after_ok, require_ok, ok_is}
use Rattle.metric_names.specs.NameLaws.{name_of-IsName, unit_of-IsUnit}
use Rattle.metric_names.specs.Names.{folded, IsName, IsSameName, name_of}
use Rattle.metric_names.specs.Units.{IsUnit, unit_of}
use Rattle.metric_table.specs.Fields.{integer_of, integers_of, list_of, optional_text, text_field}
use Rattle.metric_contents.specs.declared.contents.Instrument.{Instrument}
use Rattle.metric_contents.specs.declared.contents.Key.{Key}
use Rattle.metric_contents.specs.declared.contents.Kind.{Kind}
use Rattle.metric_catalogue.specs.declared.instruments.Head.{Head}
use Rattle.metric_catalogue.specs.declared.instruments.Limits.{Limits}
use Rattle.metric_catalogue.specs.declared.fault.CatalogueDefect.TheVariants.{BadBoundaries, BadName, BadRange, BadUnit, DuplicateInstrument}
use Rattle.metric_catalogue.specs.declared.fault.CatalogueFault.TheVariants.{At}
use Rattle.metric_catalogue.specs.declared.fault.CataloguePlace.{CataloguePlace}
use Rattle.metric_catalogue.specs.declared.fault.CatalogueSpot.{CatalogueSpot}
use Rattle.metric_catalogue.specs.declared.fault.CatalogueField.TheVariants as fields
use Rattle.metric_catalogue.specs.declared.fault.CataloguePlace.TheVariants as place
use Rattle.metric_catalogue.specs.Faults.{faults_at, field_at}
use Rattle.metric_catalogue.specs.Instruments.{advice_field, boundaries_of, boundaries_within, description_field, head_of, instrument_name, instrument_of, is_instrument, is_range, keys_for, kind_field, only_instrument_fields, limits_field, pair_field, range_field, spare_field, spare_name, spare_spot, spare_within, unit_field}
use Rattle.metric_catalogue.specs.Allowed.{allowed_field, allowed_of}
use Rattle.metric_catalogue.specs.Holding.{holder}
use Rattle.metric_catalogue.specs.SharedKeys.{entries_field, key_entry}
use Rattle.metric_catalogue.specs.declared.shared_keys.SharedKey.{SharedKey}
use Rattle.metric_contents.specs.Kinds.{is_gauge, is_monotonic}
use Rattle.metric_contents.specs.Most.{above, apart_total, below, lesser, most_within, safe_total}
use Rattle.metric_catalogue.specs.Unsaid.{says, unsaid}
use Rattle.metric_catalogue.specs.Recorders.{amount_from}
use Rattle.metric_catalogue.specs.Sound.{AreBoundaries, AreInstrumentsApart, AreSoundRows, IsFreeText, IsSoundInstrument, IsSoundKey, IsSoundList}
use Rattle.metric_catalogue.proofs.PlainFiles.{some_made}
use Rattle.metric_catalogue.proofs.SoundKeys.{free_made}
use Rattle.metric_catalogue.proofs.SoundShared.{IsSoundShared, entries_few, entry_made}
use Rattle.metric_catalogue.proofs.SoundRows.{allowed_made, rows_few}
use Rattle.metric_catalogue.proofs.SoundLists.{IsNext, apart_by, each_length, list_few, made_sound}

-- what a range is
range_is : (kind : Kind) (lo hi : ℤ) → is_range kind (lo, hi) ≡ true → (lo ≤ℤ hi) × (IsTrue (is_monotonic kind) → pos 0 ≤ℤ lo)
range_is kind lo hi e = by (int_le lo hi) refl (is_monotonic kind) refl e
  where
    by : (ordered : Bool) → int_le lo hi ≡ ordered → (monotonic : Bool) → is_monotonic kind ≡ monotonic → (ordered && (not monotonic || int_le (pos 0) lo)) ≡ true → (lo ≤ℤ hi) × (IsTrue (is_monotonic kind) → pos 0 ≤ℤ lo)
    by true p true q h = (grind (arith, ints), λ _. grind (arith, ints))
    by true p false q h = (grind (arith, ints), λ r. absurd cc)
    by false p m q h = absurd cc

range_made : (at : CataloguePlace) (kind : Kind) (group table : Members) (range : ℤ × ℤ) → range_field at kind group table ≡ Ok range → is_range kind range ≡ true
unfolding range_field
range_made table_at kind group table range e0 =
    let at = field_at table_at fields.Range in
    after_ok (pair_field at (holder (codes "range") group table)) _ range e0 (λ pair _ e1.
    let (fits, e2) = require_ok (is_range kind pair) (At BadRange at) _ range e1 in
    subst (λ (r : ℤ × ℤ). is_range kind r ≡ true) (ok_is pair range (Ok pair) refl e2) fits)

boundaries_made : (at : CatalogueSpot) (d : Data) (boundaries : List ℤ) → boundaries_of at d ≡ Ok boundaries → AreBoundaries boundaries
unfolding boundaries_of integers_of
boundaries_made at d boundaries e0 =
    after_ok (integers_of (faults_at at) 128 d) _ boundaries e0 (λ read made e1.
    let (rising, e2) = require_ok (is_rising read) (At BadBoundaries at) _ boundaries e1 in
    let few : length read ≤ 128 =
    after_ok (list_of (faults_at at) 128 d) _ read made (λ values listed e3.
    let short = list_few (faults_at at) 128 d values listed in
    let long = each_length (λ _ x. integer_of (faults_at at) x) [] values read e3 in
    omega arith) in
    let sound : AreBoundaries read = record { few = few; rising = rising } in
    subst AreBoundaries (ok_is read boundaries (Ok read) refl e2) sound)

within_made : (at : CatalogueSpot) (d : Option Data) (advice : Option (List ℤ)) → boundaries_within at d ≡ Ok advice → IfSome advice AreBoundaries
within_made at None advice e = subst (λ (o : Option (List ℤ)). IfSome o AreBoundaries) (ok_is None advice (Ok None) refl e) tt
within_made at (Some d) advice e0 =
    after_ok (boundaries_of at d) _ advice e0 (λ boundaries made e1.
    subst (λ (o : Option (List ℤ)). IfSome o AreBoundaries) (ok_is (Some boundaries) advice (Ok (Some boundaries)) refl e1) (boundaries_made at d boundaries made))

advice_made : (at : CataloguePlace) (group table : Members) (advice : Option (List ℤ)) → advice_field at group table ≡ Ok advice → IfSome advice AreBoundaries
unfolding advice_field
advice_made at group table advice e = within_made (field_at at fields.Boundaries) (get_member (codes "boundaries") (holder (codes "boundaries") group table)) advice e

-- what a check of a text answered in the words of the table
told : {D E : Type 0} (f : D → E) (r : Result (List ℕ) D) (text : List ℕ) → with_fault f r ≡ Ok text → r ≡ Ok text
told f (Ok t) text e = ap Ok (ok_is t text (Ok t) refl e)
told f (Err d) text e = absurd cc

-- what is read as a name or a unit is one
name_made : (format : ℕ) (at : CataloguePlace) (table : Members) (name : List ℕ) → instrument_name format at table ≡ Ok name → IsName name
unfolding instrument_name
name_made format table_at table name e0 =
    let at = field_at table_at fields.Name in
    after_ok (only_instrument_fields format table_at table) _ name e0 (λ _ _ e1.
    after_ok (text_field (faults_at at) (codes "name") table) _ name e1 (λ text _ e2.
    name_of-IsName text name (told (λ _. At BadName at) (name_of text) name e2)))

unit_made : (at : CataloguePlace) (group table : Members) (unit : List ℕ) → unit_field at group table ≡ Ok unit → IsUnit unit
unfolding unit_field
unit_made table_at group table unit e0 =
    let at = field_at table_at fields.Unit in
    after_ok (optional_text (faults_at at) (codes "unit") (holder (codes "unit") group table)) _ unit e0 (λ text _ e1.
    unit_of-IsUnit (unwrap_or text []) unit (told (λ _. At BadUnit at) (unit_of (unwrap_or text [])) unit e1))

-- what names and describes an instrument
record IsSoundHead (head : Head) : Type 0 where
  name : IsName head.name
  unit : IsUnit head.unit
  description : IsFreeText head.description

head_made : (format : ℕ) (at : CataloguePlace) (group table : Members) (head : Head) → head_of format at group table ≡ Ok head → IsSoundHead head
unfolding head_of
head_made format at group table head e0 =
    after_ok (instrument_name format at table) _ head e0 (λ name named e1.
    after_ok (kind_field at group table) _ head e1 (λ kind _ e2.
    after_ok (unit_field at group table) _ head e2 (λ unit united e3.
    after_ok (description_field at group table) _ head e3 (λ description described e4.
    let made : Head = record { name = name; kind = kind; unit = unit; description = description } in
    let sound : IsSoundHead made = record { name = name_made format at table name named; unit = unit_made at group table unit united; description = free_made (field_at at fields.Description) (codes "description") (holder (codes "description") group table) description described } in
    subst IsSoundHead (ok_is made head (Ok made) refl e4) sound))))

-- an instrument of another name without case, or of another meter
names_apart : (meter : ℕ) (name : List ℕ) (other : Instrument) → is_instrument meter name other ≡ false → other.meter ≡ meter → ¬ IsSameName other.name name
names_apart meter name other e same_meter same_name =
    let one : (other.meter == meter) ≡ true = eq-eqb other.meter meter same_meter in
    let two : bytes_eq (folded other.name) (folded name) ≡ true = (bytes_eq-Decides (folded other.name) (folded name)).1 same_name in
    true≢false (sym (rw (one, two) refl) ∙ e)

-- what is read as an amount
pub amount_made : (z : ℤ) (n : ℕ) → amount_from z ≡ Some n → n < 2 ^ 63
amount_made (negsuc m) n e = absurd cc
amount_made (pos m) n e = by (nat_lt m (2 ^ 63)) refl e
  where
    by : (b : Bool) → nat_lt m (2 ^ 63) ≡ b → cond b (Some m) None ≡ Some n → n < 2 ^ 63
    by true h e = let same : m ≡ n = cc in grind (arith, nat_tests)
    by false h e = absurd cc

spare_within_made : (at : CatalogueSpot) (otherwise : ℕ) → otherwise < 2 ^ 63 → (d : Option Data) (spare : ℕ) → spare_within at otherwise d ≡ Ok spare → spare < 2 ^ 63
spare_within_made at otherwise few None spare e = subst (λ (n : ℕ). n < 2 ^ 63) (ok_is otherwise spare (Ok otherwise) refl e) few
spare_within_made at otherwise few (Some d) spare e0 =
    after_ok (integer_of (faults_at at) d) _ spare e0 (λ z _ told.
    amount_made z spare (some_made (amount_from z) (At BadRange at) spare told))

spare_made : (format otherwise : ℕ) → otherwise < 2 ^ 63 → (at : CataloguePlace) (group table : Members) (spare : ℕ) → spare_field format otherwise at group table ≡ Ok spare → spare < 2 ^ 63
unfolding spare_field
spare_made format otherwise few at group table spare e = spare_within_made (spare_spot format at) otherwise few (get_member (spare_name format) (holder (spare_name format) group table)) spare e

-- the lesser of two numbers is at most the first
lesser_few : (most : ℕ) (o : Option ℕ) → lesser most o ≤ most
lesser_few most None = omega arith
lesser_few most (Some other) = by (nat_lt other most) refl
  where
    by : (b : Bool) → nat_lt other most ≡ b → cond b other most ≤ most
    by true is = let less : other < most = grind (arith, nat_tests) in omega (arith, less)
    by false is = omega arith

safe_few : (kind : Kind) (lo hi : ℤ) → safe_total kind lo hi < 2 ^ 63
safe_few kind lo hi = by (is_gauge kind)
  where
    apart : apart_total lo hi < 2 ^ 63
    apart = let few = lesser_few (2 ^ 63 - 1) (most_within (2 ^ 64 - 1) (unsigned_abs (hi -ℤ lo))) in omega (arith, few)

    by : (gauge : Bool) → cond gauge (apart_total lo hi) (lesser (lesser (apart_total lo hi) (most_within (2 ^ 63 - 1) (above hi))) (most_within (2 ^ 63) (below lo))) < 2 ^ 63
    by true = apart
    by false =
        let one = lesser_few (apart_total lo hi) (most_within (2 ^ 63 - 1) (above hi)) in
        let two = lesser_few (lesser (apart_total lo hi) (most_within (2 ^ 63 - 1) (above hi))) (most_within (2 ^ 63) (below lo)) in
        omega (arith, apart, one, two)

-- a budget that nobody says is within the limit of budgets
unsaid_few : (format : ℕ) (recorders : List Members) (meter name : List ℕ) (kind : Kind) (range : ℤ × ℤ) → unsaid format recorders meter name kind range < 2 ^ 63
unsaid_few format recorders meter name kind range = by (format == 3) (list_any (says name (meter ++ (codes "/" ++ name))) recorders)
  where
    by : (third said : Bool) → cond third (cond said 0 (safe_total kind range.0 range.1)) 0 < 2 ^ 63
    by false said = omega arith
    by true true = omega arith
    by true false = safe_few kind range.0 range.1

-- keys of distinct names, as many as there may be
abbrev pub AreSoundKeys : List Key → Type 0
AreSoundKeys keys = IsSoundList 8 IsSoundKey (λ o k. o.name ≢ k.name) keys

-- the keys of an instrument, or of its group
keys_made : (format : ℕ) (shared : List SharedKey) → All IsSoundShared shared → (number : ℕ) (common : List Key) → AreSoundKeys common → (table : Members) (entries : List Data) → length entries ≤ 8
    → (keys : List Key) → keys_for format shared number common table entries ≡ Ok keys → AreSoundKeys keys
keys_made format shared known number common shares table entries few keys e = by (is_some (get_member (codes "key") table)) e
  where
    by : (b : Bool) → cond b (each (key_entry format shared number) [] entries) (Ok common) ≡ Ok keys → AreSoundKeys keys
    by true told = made_sound 8 IsSoundKey (λ o k. o.name ≢ k.name) (key_entry format shared number) (entry_made format shared known number) entries keys told few
    by false told = subst AreSoundKeys (ok_is common keys (Ok common) refl told) shares

-- keys of distinct names, combinations of these keys, and a spare budget
record AreSoundLimits (limits : Limits) : Type 0 where
  keys : IsSoundList 8 IsSoundKey (λ o k. o.name ≢ k.name) limits.keys
  allowed : IfSome limits.allowed (AreSoundRows limits.keys)
  spare : limits.spare < 2 ^ 63

-- those of an instrument whose name is not taken
limits_made : (format : ℕ) (shared : List SharedKey) → All IsSoundShared shared → (number : ℕ) (is_taken : Bool) (otherwise : ℕ) → otherwise < 2 ^ 63 → (group : Members) (common : List Key) → AreSoundKeys common → (table : Members) (limits : Limits)
    → limits_field format shared number is_taken otherwise group common table ≡ Ok limits → (not is_taken ≡ true) × AreSoundLimits limits
unfolding limits_field
limits_made format shared known number is_taken otherwise few group common shares table limits e0 =
    let at = place.Instrument number in
    after_ok (entries_field format (field_at at fields.Key) table) _ limits e0 (λ entries listed e1.
    after_ok (allowed_field (field_at at fields.Allowed) group table) _ limits e1 (λ rows told_rows e2.
    after_ok (spare_field format otherwise at group table) _ limits e2 (λ spare spared e3.
    let (new, e4) = require_ok (not is_taken) (At DuplicateInstrument (field_at at fields.Name)) _ limits e3 in
    after_ok (keys_for format shared number common table entries) _ limits e4 (λ keys keyed e5.
    after_ok (allowed_of (field_at at fields.Allowed) keys rows) _ limits e5 (λ allowed combined e6.
    let sound_keys = keys_made format shared known number common shares table entries (entries_few format (field_at at fields.Key) table entries listed) keys keyed in
    let made : Limits = record { keys = keys; allowed = allowed; spare = spare } in
    let sound : AreSoundLimits made = record {
      keys = sound_keys;
      allowed = allowed_made (field_at at fields.Allowed) keys sound_keys.few rows (rows_few (field_at at fields.Allowed) group table rows told_rows) allowed combined;
      spare = spare_made format otherwise few at group table spare spared;
    } in
    (new, subst AreSoundLimits (ok_is made limits (Ok made) refl e6) sound))))))

pub instrument_made : (format : ℕ) (shared : List SharedKey) → All IsSoundShared shared → (recorders : List Members) (meter meters : ℕ) → meter < meters → (meter_name : List ℕ) (group : Members) (common : List Key) → AreSoundKeys common → (before : List Instrument) (table : Members) (instrument : Instrument)
    → instrument_of format shared recorders meter meter_name group common before table ≡ Ok instrument
    → IsNext (IsSoundInstrument meters) AreInstrumentsApart before instrument
unfolding instrument_of
instrument_made format shared sound_shared recorders meter meters known meter_name group common shares before table instrument e0 =
    let at = place.Instrument (length before) in
    after_ok (head_of format at group table) _ instrument e0 (λ head headed e1.
    after_ok (range_field at head.kind group table) _ instrument e1 (λ range ranged e2.
    after_ok (advice_field at group table) _ instrument e2 (λ advice advised e3.
    let otherwise = unsaid format recorders meter_name head.name head.kind range in
    after_ok (limits_field format shared (length before) (list_any (is_instrument meter head.name) before) otherwise group common table) _ instrument e3 (λ limits limited e4.
    let few = unsaid_few format recorders meter_name head.name head.kind range in
    let (new, sound_limits) = limits_made format shared sound_shared (length before) (list_any (is_instrument meter head.name) before) otherwise few group common shares table limits limited in
    let (ordered, not_negative) = range_is head.kind range.0 range.1 (range_made at head.kind group table range ranged) in
    let sound_head = head_made format at group table head headed in
    let made : Instrument = record { meter = meter; name = head.name; kind = head.kind; unit = head.unit; description = head.description; lo = range.0; hi = range.1; advice = advice; keys = limits.keys; allowed = limits.allowed; spare = limits.spare } in
    let next : IsNext (IsSoundInstrument meters) AreInstrumentsApart before made = record {
      sound = record {
        known = known;
        name = sound_head.name;
        unit = sound_head.unit;
        description = sound_head.description;
        ordered = ordered;
        not_negative = not_negative;
        advice = advice_made at group table advice advised;
        keys = sound_limits.keys;
        allowed = sound_limits.allowed;
        spare = sound_limits.spare;
      };
      apart = apart_by AreInstrumentsApart (is_instrument meter head.name) before made (names_apart meter head.name) new;
    } in
    subst (IsNext (IsSoundInstrument meters) AreInstrumentsApart before) (ok_is made instrument (Ok made) refl e4) next))))
