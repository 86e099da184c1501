-- In a file of format 1 no instrument lists combinations or has a spare budget.
use Rattle.std.proofs.Common.{◌≡◌, ℕ, All, Bool, true, false, cond, not, List, [], ◌∷◌, ◌++◌, length, Option, Some, None, Ok, codes, refl, sym, ap, subst, ◌∙◌, arith}
use Rattle.std.proofs.lemmas.Bool.Decides.{nat_tests}
use Rattle.std.specs.Prelude.{◌==◌}
use Rattle.std.specs.List.{enumerate_from, list_any}
use Rattle.toml.specs.Data.{Members, no_members, get_member}
use Rattle.metric_base.specs.Steps.{each, in_turn, require_some}
use Rattle.metric_base.specs.StepLaws.{after_ok, in_turn_keeps, ok_is, require_ok}
use Rattle.metric_table.specs.FieldLaws.{none_other}
use Rattle.metric_table.specs.Fields.{tables_field}
use Rattle.metric_contents.specs.declared.contents.Instrument.{Instrument}
use Rattle.metric_catalogue.specs.declared.instruments.Head.{Head}
use Rattle.metric_catalogue.specs.declared.instruments.Limits.{Limits}
use Rattle.metric_catalogue.specs.declared.meters.Metered.{Metered}
use Rattle.metric_catalogue.specs.declared.fault.CatalogueDefect.TheVariants.{DuplicateInstrument, DuplicateMeter}
use Rattle.metric_catalogue.specs.declared.fault.CatalogueFault.TheVariants.{At}
use Rattle.metric_catalogue.specs.declared.fault.CataloguePlace.{CataloguePlace}
use Rattle.metric_catalogue.specs.declared.fault.CatalogueSpot.{CatalogueSpot}
use Rattle.metric_catalogue.specs.declared.fault.CatalogueField.TheVariants as fields
use Rattle.metric_catalogue.specs.declared.fault.CataloguePlace.TheVariants as place
use Rattle.metric_catalogue.specs.Allowed.{allowed_field, allowed_of}
use Rattle.metric_catalogue.specs.Catalogues.{nothing_metered}
use Rattle.metric_catalogue.specs.Faults.{faults_at, field_at}
use Rattle.metric_catalogue.specs.Instruments.{advice_field, head_of, instrument_fields, instrument_name, instrument_of, is_instrument, keys_for, limits_field, only_instrument_fields, range_field, spare_field, spare_within}
use Rattle.metric_catalogue.specs.SharedKeys.{entries_field}
use Rattle.metric_catalogue.specs.declared.shared_keys.SharedKey.{SharedKey}
use Rattle.metric_catalogue.specs.Groups.{groups_field, instruments_added, with_group}
use Rattle.metric_catalogue.specs.Meters.{is_meter, meter_of, with_meter}
use Rattle.metric_catalogue.proofs.SoundLists.{each_sound}
use Rattle.metric_catalogue.proofs.SoundRows.{held_none, rows_none}

-- what an instrument of format 1 is
abbrev IsFirst : Instrument → Type 0
IsFirst instrument = (instrument.allowed ≡ None) × (instrument.spare ≡ 0)

-- the instrument lists combinations or has a spare budget only in a format beyond the first
abbrev IsPlain : ℕ → Instrument → Type 0
IsPlain format instrument = format ≡ 1 → IsFirst instrument

-- a table without a field for either
abbrev LacksBoth : Members → Type 0
LacksBoth table = (get_member (codes "allowed") table ≡ None) × (get_member (codes "spare") table ≡ None)

-- a table of format 1 has no field for them
fields_none : (at : CataloguePlace) (table : Members) (done : Unit {0}) → only_instrument_fields 1 at table ≡ Ok done → LacksBoth table
unfolding only_instrument_fields instrument_fields
fields_none at table done e = (
  none_other (faults_at (field_at at fields.Unknown)) (instrument_fields 1) (codes "allowed") table done e refl,
  none_other (faults_at (field_at at fields.Unknown)) (instrument_fields 1) (codes "spare") table done e refl,
)

name_none : (at : CataloguePlace) (table : Members) (name : List ℕ) → instrument_name 1 at table ≡ Ok name → LacksBoth table
unfolding instrument_name
name_none at table name e0 = after_ok (only_instrument_fields 1 at table) _ name e0 (λ done made _. fields_none at table done made)

head_none : (at : CataloguePlace) (table : Members) (head : Head) → head_of 1 at no_members table ≡ Ok head → LacksBoth table
unfolding head_of
head_none at table head e0 = after_ok (instrument_name 1 at table) _ head e0 (λ name made _. name_none at table name made)

spare_none : (at : CataloguePlace) (table : Members) (spare : ℕ) → get_member (codes "spare") table ≡ None → spare_field 1 0 at no_members table ≡ Ok spare → spare ≡ 0
unfolding spare_field
spare_none at table spare none e = sym (ok_is 0 spare (Ok 0) refl (sym (ap (spare_within (field_at at fields.Spare) 0) (held_none (codes "spare") table none)) ∙ e))

limits_none : (shared : List SharedKey) (number : ℕ) (is_taken : Bool) (table : Members) (limits : Limits) → LacksBoth table
    → limits_field 1 shared number is_taken 0 no_members [] table ≡ Ok limits → (limits.allowed ≡ None) × (limits.spare ≡ 0)
unfolding limits_field
limits_none shared number is_taken table limits (no_rows, no_spare) e0 =
    let at = place.Instrument number in
    after_ok (entries_field 1 (field_at at fields.Key) table) _ limits e0 (λ entries _ e1.
    after_ok (allowed_field (field_at at fields.Allowed) no_members table) _ limits e1 (λ rows listed e2.
    after_ok (spare_field 1 0 at no_members table) _ limits e2 (λ spare spared e3.
    let (_, e4) = require_ok (not is_taken) (At DuplicateInstrument (field_at at fields.Name)) _ limits e3 in
    after_ok (keys_for 1 shared number [] table entries) _ limits e4 (λ keys _ e5.
    after_ok (allowed_of (field_at at fields.Allowed) keys rows) _ limits e5 (λ allowed combined e6.
    let made : Limits = record { keys = keys; allowed = allowed; spare = spare } in
    let same : limits ≡ made = sym (ok_is made limits (Ok made) refl e6) in
    let empty : allowed ≡ None = sym (ok_is None allowed (Ok None) refl (sym (ap (allowed_of (field_at at fields.Allowed) keys) (rows_none (field_at at fields.Allowed) table rows no_rows listed)) ∙ combined)) in
    (ap (λ (l : Limits). l.allowed) same ∙ empty, ap (λ (l : Limits). l.spare) same ∙ spare_none at table spare no_spare spared))))))

instrument_none : (shared : List SharedKey) (recorders : List Members) (meter : ℕ) (name : List ℕ) (before : List Instrument) (table : Members) (instrument : Instrument)
    → instrument_of 1 shared recorders meter name no_members [] before table ≡ Ok instrument → IsFirst instrument
unfolding instrument_of
instrument_none shared recorders meter name before table instrument e0 =
    let at = place.Instrument (length before) in
    after_ok (head_of 1 at no_members table) _ instrument e0 (λ head headed e1.
    after_ok (range_field at head.kind no_members table) _ instrument e1 (λ range _ e2.
    after_ok (advice_field at no_members table) _ instrument e2 (λ advice _ e3.
    after_ok (limits_field 1 shared (length before) (list_any (is_instrument meter head.name) before) 0 no_members [] table) _ instrument e3 (λ limits limited e4.
    let made : Instrument = record { meter = meter; name = head.name; kind = head.kind; unit = head.unit; description = head.description; lo = range.0; hi = range.1; advice = advice; keys = limits.keys; allowed = limits.allowed; spare = limits.spare } in
    let same : instrument ≡ made = sym (ok_is made instrument (Ok made) refl e4) in
    let (no_rows, no_spare) = limits_none shared (length before) (list_any (is_instrument meter head.name) before) table limits (head_none at table head headed) limited in
    (ap (λ (i : Instrument). i.allowed) same ∙ no_rows, ap (λ (i : Instrument). i.spare) same ∙ no_spare)))))

instruments_plain : (format : ℕ) (shared : List SharedKey) (recorders : List Members) (meter : ℕ) (name : List ℕ) (before : List Instrument) (tables : List Members) (after : List Instrument)
    → each (instrument_of format shared recorders meter name no_members []) before tables ≡ Ok after → All (IsPlain format) before → All (IsPlain format) after
instruments_plain format shared recorders meter name before tables after e plain =
    (each_sound (IsPlain format) (λ _ _. Unit {0}) (instrument_of format shared recorders meter name no_members [])
    (λ earlier table instrument made. record {
      sound = λ first. instrument_none shared recorders meter name earlier table instrument (subst (λ (f : ℕ). instrument_of f shared recorders meter name no_members [] earlier table ≡ Ok instrument) first made);
      apart = λ k d within. tt;
    })
    before tables after e (record { each = plain; apart = λ i j d before within. tt })).each

-- in format 3 an instrument may be any, and in another there are no groups
added_plain : (format : ℕ) (shared : List SharedKey) (recorders : List Members) (meter : ℕ) (name : List ℕ) (at : CatalogueSpot) (table : Members) (tables groups : List Members) (before after : List Instrument)
    → groups_field format at table ≡ Ok groups → instruments_added format shared recorders meter name tables groups before ≡ Ok after → All (IsPlain format) before → All (IsPlain format) after
unfolding instruments_added
added_plain format shared recorders meter name at table tables groups before after grouped e0 plain =
    after_ok (each (instrument_of format shared recorders meter name no_members []) before tables) _ after e0 (λ own made e1.
    by (format == 3) refl grouped own (instruments_plain format shared recorders meter name before tables own made plain) e1)
  where
    by : (b : Bool) → (format == 3) ≡ b → cond b (tables_field (faults_at at) 64 (codes "group") table) (Ok []) ≡ Ok groups → (own : List Instrument) → All (IsPlain format) own
        → in_turn (with_group shared recorders meter name) own (enumerate_from 0 groups) ≡ Ok after → All (IsPlain format) after
    by true third told own all e = λ k d within first. let three : format ≡ 3 = grind (arith, nat_tests) in absurd (omega (arith, three, first))
    by false third told own all e =
        let none : [] ≡ groups = ok_is [] groups (Ok []) refl told in
        let left = subst (λ (gs : List Members). in_turn (with_group shared recorders meter name) own (enumerate_from 0 gs) ≡ Ok after) (sym none) e in
        subst (All (IsPlain format)) (ok_is own after (Ok own) refl left) all

meter_plain : (format : ℕ) (shared : List SharedKey) (recorders : List Members) (before : Metered) (table : Members) (after : Metered) → with_meter format shared recorders before table ≡ Ok after
    → All (IsPlain format) before.instruments → All (IsPlain format) after.instruments
unfolding with_meter
meter_plain format shared recorders before table after e0 plain =
    let number = length before.meters in
    let at = place.Meter number in
    after_ok (meter_of (format == 3) at table) _ after e0 (λ meter _ e1.
    after_ok (tables_field (faults_at (field_at at fields.Instrument)) _ (codes "instrument") table) _ after e1 (λ tables _ e2.
    after_ok (groups_field format (field_at at fields.Group) table) _ after e2 (λ groups grouped e3.
    let (_, e4) = require_ok (not (list_any (is_meter meter) before.meters)) (At DuplicateMeter (field_at at fields.Name)) _ after e3 in
    after_ok (instruments_added format shared recorders number meter.name tables groups before.instruments) _ after e4 (λ instruments made e5.
    let all : Metered = record { meters = before.meters ++ meter ∷ []; instruments = instruments } in
    subst (λ (m : Metered). All (IsPlain format) m.instruments) (ok_is all after (Ok all) refl e5)
    (added_plain format shared recorders number meter.name (field_at at fields.Group) table tables groups before.instruments instruments grouped made plain)))))

-- no instrument of the meters of a file of format 1 lists combinations or has a spare budget
pub meters_plain : (format : ℕ) (shared : List SharedKey) (recorders : List Members) (tables : List Members) (metered : Metered) → in_turn (with_meter format shared recorders) nothing_metered tables ≡ Ok metered
    → format ≡ 1 → All (λ instrument. (instrument.allowed ≡ None) × (instrument.spare ≡ 0)) metered.instruments
meters_plain format shared recorders tables metered e first =
    let plain = in_turn_keeps (λ (m : Metered). All (IsPlain format) m.instruments) (with_meter format shared recorders) (meter_plain format shared recorders) nothing_metered tables metered e (λ k d within. absurd (omega arith)) in
    λ k d within. plain k d within first

-- a needed value that was there
pub some_made : {A E : Type 0} (o : Option A) (e : E) (x : A) → require_some o e ≡ Ok x → o ≡ Some x
some_made None e x h = absurd cc
some_made (Some y) e x h = ap Some (ok_is y x (Ok y) refl h)
