-- What is read as a catalogue is sound.
use Rattle.std.proofs.Common.{◌≡◌, ◌≢◌, ℕ, ℤ, pos, negsuc, ◌+◌, ◌-◌, ◌<◌, ◌≤◌, ◌^◌, ◌⊎◌, inl, inr, Bool, true, false, not, cond, All, List, [], ◌∷◌, ◌++◌, length, map, get_or, Option, Some, None, Ok, refl, sym, ap, subst, ◌∙◌, ◌==◌, arith, codes, nat_lt, eq-eqb, true≢false}
use Rattle.std.proofs.lemmas.Bool.Decides.{nat_tests}
use Rattle.std.proofs.lemmas.List.{length-append, length-map}
use Rattle.std.proofs.lemmas.Slice.Eq.{bytes_eq-Decides}
use Rattle.std.specs.List.{enumerate_from, list_any, position_from}
use Rattle.std.specs.Str.{bytes_eq}
use Rattle.toml.specs.Data.{Members, no_members}
use Rattle.metric_base.specs.Steps.{in_turn, each}
use Rattle.metric_base.specs.StepLaws.{after_ok, in_turn_keeps, require_ok, ok_is}
use Rattle.metric_table.specs.Fields.{only, tables_field}
use Rattle.metric_contents.specs.declared.contents.Budget.{Budget}
use Rattle.metric_contents.specs.declared.contents.Contents.{Contents}
use Rattle.metric_contents.specs.declared.contents.Instrument.{Instrument}
use Rattle.metric_contents.specs.declared.contents.Key.{Key}
use Rattle.metric_contents.specs.declared.contents.Meter.{Meter}
use Rattle.metric_contents.specs.declared.contents.Recorder.{Recorder}
use Rattle.metric_catalogue.specs.declared.meters.Metered.{Metered}
use Rattle.metric_catalogue.specs.declared.named.Named.{Named}
use Rattle.metric_catalogue.specs.declared.fault.CatalogueDefect.TheVariants.{BadRange, DuplicateBudget, DuplicateMeter, DuplicateRecorder, UnknownInstrument}
use Rattle.metric_catalogue.specs.declared.fault.CatalogueFault.TheVariants.{At}
use Rattle.metric_catalogue.specs.declared.fault.CataloguePlace.{CataloguePlace}
use Rattle.metric_catalogue.specs.declared.fault.CatalogueField.TheVariants as fields
use Rattle.metric_catalogue.specs.declared.fault.CataloguePlace.TheVariants as place
use Rattle.metric_catalogue.specs.Catalogues.{contents_declared, contents_of, declared_format, format_of_top, nothing_metered, recorders_declared}
use Rattle.metric_catalogue.specs.Faults.{entry_at, faults_at, field_at}
use Rattle.metric_catalogue.specs.Groups.{common_keys, group_fields, group_keys, groups_field, instruments_added, lacks_keys, with_group}
use Rattle.metric_catalogue.specs.Instruments.{instrument_of}
use Rattle.metric_catalogue.specs.Meters.{is_meter, meter_of, only_meter_fields, with_meter}
use Rattle.metric_catalogue.specs.Recorders.{amount_field, amount_from, budget_fields, budget_of, budgeted, budgets_field, is_recorder, number_below, number_field, recorder_fields, recorder_name, recorder_of}
use Rattle.metric_contents.specs.Budgets.{is_budget}
use Rattle.metric_catalogue.specs.Sound.{AreInstrumentsApart, IsLabel, IsSound, IsSoundBudget, IsSoundInstrument, IsSoundKey, IsSoundList, IsSoundMeter, IsSoundRecorder}
use Rattle.metric_catalogue.specs.Texts.{free_text, needed_text}
use Rattle.metric_catalogue.proofs.PlainFiles.{meters_plain, some_made}
use Rattle.metric_catalogue.proofs.SoundInstruments.{AreSoundKeys, amount_made, instrument_made}
use Rattle.metric_catalogue.proofs.SoundKeys.{free_made, label_made, needed_made}
use Rattle.metric_catalogue.specs.declared.shared_keys.SharedKey.{SharedKey}
use Rattle.metric_catalogue.specs.Seats.{named_in, seats_declared}
use Rattle.metric_catalogue.specs.SharedKeys.{entries_field, key_entry, shared_key}
use Rattle.metric_catalogue.proofs.SoundSeats.{seats_sound}
use Rattle.metric_catalogue.proofs.SoundShared.{IsSoundShared, entries_few, entry_made, shared_made}
use Rattle.metric_catalogue.proofs.SoundLists.{AreSound, IsNext, apart_by, each_length, each_sound, made_sound, sound_none, sound_push, tables_few, texts_apart}

-- the meters so far, and their instruments
record IsSoundSoFar (m : Metered) : Type 0 where
  meters : AreSound IsSoundMeter (λ meter other. meter ≢ other) m.meters
  instruments : AreSound (IsSoundInstrument (length m.meters)) AreInstrumentsApart m.instruments
  few : length m.instruments ≤ 512

texts_made : (is_shared : Bool) (at : CataloguePlace) (table : Members) (meter : Meter) → meter_of is_shared at table ≡ Ok meter → IsSoundMeter meter
unfolding meter_of
texts_made is_shared at table meter e0 =
    after_ok (only_meter_fields is_shared at table) _ meter e0 (λ _ _ e1.
    after_ok (needed_text (field_at at fields.Name) (codes "name") table) _ meter e1 (λ name named e2.
    after_ok (free_text (field_at at fields.Version) (codes "version") table) _ meter e2 (λ version versioned e3.
    after_ok (free_text (field_at at fields.SchemaUrl) (codes "schema_url") table) _ meter e3 (λ schema_url located e4.
    let made : Meter = record { name = name; version = version; schema_url = schema_url } in
    let sound : IsSoundMeter made = record {
      name = needed_made (field_at at fields.Name) (codes "name") table name named;
      version = free_made (field_at at fields.Version) (codes "version") table version versioned;
      schema_url = free_made (field_at at fields.SchemaUrl) (codes "schema_url") table schema_url located;
    } in
    subst IsSoundMeter (ok_is made meter (Ok made) refl e4) sound))))

same_bytes : (text : List ℕ) → bytes_eq text text ≡ true
same_bytes text = (bytes_eq-Decides text text).1 refl

-- a meter is told apart from those that are not the same
meters_apart : (meter other : Meter) → is_meter meter other ≡ false → other ≢ meter
meters_apart meter other e same =
    let alike : is_meter meter meter ≡ true = rw (same_bytes meter.name, same_bytes meter.version, same_bytes meter.schema_url) refl in
    true≢false (sym alike ∙ ap (is_meter meter) (sym same) ∙ e)

-- an instrument of one of some meters is of one of more
one_more : (meters : ℕ) (instrument : Instrument) → IsSoundInstrument meters instrument → IsSoundInstrument (meters + 1) instrument
one_more meters instrument sound = record {
  known = omega (arith, sound.known);
  name = sound.name;
  unit = sound.unit;
  description = sound.description;
  ordered = sound.ordered;
  not_negative = sound.not_negative;
  advice = sound.advice;
  keys = sound.keys;
  allowed = sound.allowed;
  spare = sound.spare;
}

-- the instruments so far of a number of meters
record AreInstruments (meters : ℕ) (instruments : List Instrument) : Type 0 where
  sound : AreSound (IsSoundInstrument meters) AreInstrumentsApart instruments
  few : length instruments ≤ 512

-- the instruments of some tables, with the fields and the keys of a group
tables_added : (format : ℕ) (shared : List SharedKey) → All IsSoundShared shared → (recorders : List Members) (meter : ℕ) (name : List ℕ) (group : Members) (common : List Key) → AreSoundKeys common
    → (before : List Instrument) (tables : List Members) (after : List Instrument) → length tables ≤ 512 - length before
    → each (instrument_of format shared recorders meter name group common) before tables ≡ Ok after → AreInstruments (meter + 1) before → AreInstruments (meter + 1) after
tables_added format shared known recorders meter name group common shares before tables after short made so_far =
    let step = instrument_of format shared recorders meter name group common in
    let count = each_length step before tables after made in
    let next = instrument_made format shared known recorders meter (meter + 1) (omega arith) name group common shares in
    record {
      sound = each_sound (IsSoundInstrument (meter + 1)) AreInstrumentsApart step next before tables after made so_far.sound;
      few = omega (arith, count, short, so_far.few);
    }

-- no keys at all
no_keys : AreSoundKeys []
no_keys = let none = sound_none IsSoundKey (λ o k. o.name ≢ k.name) in record { few = omega arith; each = none.each; apart = none.apart }

-- the keys of a group
common_made : (shared : List SharedKey) → All IsSoundShared shared → (group : Members) (first : Option ℕ) (keys : List Key) → common_keys shared group first ≡ Ok keys → AreSoundKeys keys
unfolding group_keys
common_made shared known group None keys e = subst AreSoundKeys (ok_is [] keys (Ok []) refl e) no_keys
common_made shared known group (Some number) keys e0 =
    let at = field_at (place.Instrument number) fields.Key in
    after_ok (entries_field 3 at group) _ keys e0 (λ entries listed e1.
    made_sound 8 IsSoundKey (λ o k. o.name ≢ k.name) (key_entry 3 shared number) (entry_made 3 shared known number) entries keys e1 (entries_few 3 at group entries listed))

group_made : (shared : List SharedKey) → All IsSoundShared shared → (recorders : List Members) (meter : ℕ) (name : List ℕ) (before : List Instrument) (numbered : ℕ × Members) (after : List Instrument)
    → with_group shared recorders meter name before numbered ≡ Ok after → AreInstruments (meter + 1) before → AreInstruments (meter + 1) after
unfolding with_group
group_made shared known recorders meter name before numbered after e0 so_far =
    let group = numbered.1 in
    let at = entry_at (field_at (place.Meter meter) fields.Group) numbered.0 in
    after_ok (only (faults_at at) group_fields group) _ after e0 (λ _ _ e1.
    after_ok (tables_field (faults_at at) (512 - length before) (codes "instrument") group) _ after e1 (λ tables listed e2.
    after_ok (common_keys shared group (position_from lacks_keys (length before) tables)) _ after e2 (λ common keyed e3.
    let shares = common_made shared known group (position_from lacks_keys (length before) tables) common keyed in
    let short = tables_few (faults_at at) (512 - length before) (codes "instrument") group tables listed in
    tables_added 3 shared known recorders meter name group common shares before tables after short e3 so_far)))

-- the instruments of a meter and of its groups
added_made : (format : ℕ) (shared : List SharedKey) → All IsSoundShared shared → (recorders : List Members) (meter : ℕ) (name : List ℕ) (tables groups : List Members) (before after : List Instrument)
    → length tables ≤ 512 - length before → instruments_added format shared recorders meter name tables groups before ≡ Ok after → AreInstruments (meter + 1) before → AreInstruments (meter + 1) after
unfolding instruments_added
added_made format shared known recorders meter name tables groups before after short e0 so_far =
    after_ok (each (instrument_of format shared recorders meter name no_members []) before tables) _ after e0 (λ own made e1.
    let first = tables_added format shared known recorders meter name no_members [] no_keys before tables own short made so_far in
    in_turn_keeps (AreInstruments (meter + 1)) (with_group shared recorders meter name) (group_made shared known recorders meter name) own (enumerate_from 0 groups) after e1 first)

meter_made : (format : ℕ) (shared : List SharedKey) → All IsSoundShared shared → (recorders : List Members) (before : Metered) (table : Members) (after : Metered) → with_meter format shared recorders before table ≡ Ok after → IsSoundSoFar before
    → IsSoundSoFar after × (length after.meters ≡ length before.meters + 1)
unfolding with_meter
meter_made format shared sound_shared recorders before table after e0 so_far =
    let number = length before.meters in
    let at = place.Meter number in
    after_ok (meter_of (format == 3) at table) _ after e0 (λ meter textual e1.
    after_ok (tables_field (faults_at (field_at at fields.Instrument)) (512 - length before.instruments) (codes "instrument") table) _ after e1 (λ tables listed e2.
    after_ok (groups_field format (field_at at fields.Group) table) _ after e2 (λ groups _ e3.
    let (new, e4) = require_ok (not (list_any (is_meter meter) before.meters)) (At DuplicateMeter (field_at at fields.Name)) _ after e3 in
    after_ok (instruments_added format shared recorders number meter.name tables groups before.instruments) _ after e4 (λ instruments made e5.
    let all : Metered = record { meters = before.meters ++ meter ∷ []; instruments = instruments } in
    let long : length all.meters ≡ number + 1 = length-append before.meters (meter ∷ []) in
    let short = tables_few (faults_at (field_at at fields.Instrument)) (512 - length before.instruments) (codes "instrument") table tables listed in
    let earlier : AreInstruments (number + 1) before.instruments = record {
      sound = record {
        each = λ k d within. one_more number (get_or before.instruments k d) (so_far.instruments.each k d within);
        apart = so_far.instruments.apart;
      };
      few = so_far.few;
    } in
    let later = added_made format shared sound_shared recorders number meter.name tables groups before.instruments instruments short made earlier in
    let next : IsNext IsSoundMeter (λ m o. m ≢ o) before.meters meter = record {
      sound = texts_made (format == 3) at table meter textual;
      apart = apart_by (λ m o. m ≢ o) (is_meter meter) before.meters meter (meters_apart meter) new;
    } in
    let sound : IsSoundSoFar all = record {
      meters = sound_push IsSoundMeter (λ m o. m ≢ o) before.meters meter so_far.meters next;
      instruments = subst (λ (n : ℕ). AreSound (IsSoundInstrument n) AreInstrumentsApart instruments) (sym long) later.sound;
      few = later.few;
    } in
    let same = ok_is all after (Ok all) refl e5 in
    (subst IsSoundSoFar same sound, subst (λ (m : Metered). length m.meters ≡ number + 1) same long)))))

-- all the meters of a file
meters_made : (format : ℕ) (shared : List SharedKey) → All IsSoundShared shared → (recorders : List Members) (before : Metered) (tables : List Members) (after : Metered) → in_turn (with_meter format shared recorders) before tables ≡ Ok after
    → IsSoundSoFar before → IsSoundSoFar after × (length after.meters ≡ length before.meters + length tables)
meters_made format shared sound_shared recorders before [] after e so_far =
    let same = ok_is before after (Ok before) refl e in
    let none : length before.meters ≡ length before.meters + 0 = omega arith in
    (subst IsSoundSoFar same so_far, subst (λ (m : Metered). length m.meters ≡ length before.meters + 0) same none)
meters_made format shared sound_shared recorders before (table ∷ tables) after e so_far =
    after_ok (with_meter format shared recorders before table) _ after e (λ next made rest.
    let (sound, one) = meter_made format shared sound_shared recorders before table next made so_far in
    let (all, more) = meters_made format shared sound_shared recorders next tables after rest sound in
    (all, omega arith))

below_made : (count : ℕ) (z : ℤ) (n : ℕ) → number_below count z ≡ Some n → n < count
below_made count (negsuc m) n e = absurd cc
below_made count (pos m) n e = by (nat_lt m count) refl e
  where
    by : (b : Bool) → nat_lt m count ≡ b → cond b (Some m) None ≡ Some n → n < count
    by true h e = let same : m ≡ n = cc in grind (arith, nat_tests)
    by false h e = absurd cc

-- a budget for another instrument
numbers_apart : (instrument : ℕ) (other : Budget) → is_budget instrument other ≡ false → other.instrument ≢ instrument
numbers_apart instrument other e = λ same. true≢false (sym (eq-eqb other.instrument instrument same) ∙ e)

budget_made : (recorder count : ℕ) (before : List Budget) (table : Members) (budget : Budget) → budget_of recorder count before table ≡ Ok budget
    → IsNext (IsSoundBudget count) (λ o b. o.instrument ≢ b.instrument) before budget
unfolding budget_of budgeted amount_field
budget_made recorder count before table budget e0 =
    let at = place.Budget recorder (length before) in
    let numbered_at = field_at at fields.Instrument in
    let counted_at = field_at at fields.Amount in
    after_ok (only (faults_at (field_at at fields.Unknown)) budget_fields table) _ budget e0 (λ _ _ e1.
    after_ok (budgeted numbered_at count table) _ budget e1 (λ instrument numbered e2.
    after_ok (amount_field counted_at table) _ budget e2 (λ amount counted e3.
    let (new, e4) = require_ok (not (list_any (is_budget instrument) before)) (At DuplicateBudget numbered_at) _ budget e3 in
    let known : instrument < count =
    after_ok (number_field numbered_at (codes "instrument") table) _ instrument numbered (λ z _ told.
    below_made count z instrument (some_made (number_below count z) (At UnknownInstrument numbered_at) instrument told)) in
    let limited : amount < 2 ^ 63 =
    after_ok (number_field counted_at (codes "amount") table) _ amount counted (λ z _ told.
    amount_made z amount (some_made (amount_from z) (At BadRange counted_at) amount told)) in
    let made : Budget = record { instrument = instrument; amount = amount } in
    let next : IsNext (IsSoundBudget count) (λ o b. o.instrument ≢ b.instrument) before made = record {
      sound = record { known = known; limited = limited };
      apart = apart_by (λ o b. o.instrument ≢ b.instrument) (is_budget instrument) before made (numbers_apart instrument) new;
    } in
    subst (IsNext (IsSoundBudget count) (λ o b. o.instrument ≢ b.instrument) before) (ok_is made budget (Ok made) refl e4) next)))

-- budgets of distinct instruments, of a recorder whose name is not taken
budgets_made : (number count : ℕ) (is_taken : Bool) (table : Members) (budgets : List Budget) → budgets_field number count is_taken table ≡ Ok budgets
    → (not is_taken ≡ true) × IsSoundList 512 (IsSoundBudget count) (λ o b. o.instrument ≢ b.instrument) budgets
unfolding budgets_field
budgets_made number count is_taken table budgets e0 =
    let at = place.Recorder number in
    after_ok (tables_field (faults_at (field_at at fields.Budget)) 512 (codes "budget") table) _ budgets e0 (λ tables listed e1.
    let (new, e2) = require_ok (not is_taken) (At DuplicateRecorder (field_at at fields.Name)) _ budgets e1 in
    let few = tables_few (faults_at (field_at at fields.Budget)) 512 (codes "budget") table tables listed in
    (new, made_sound 512 (IsSoundBudget count) (λ o b. o.instrument ≢ b.instrument) (budget_of number count) (budget_made number count) tables budgets e2 few))

recorder_name_made : (at : CataloguePlace) (table : Members) (name : List ℕ) → recorder_name at table ≡ Ok name → IsLabel name
unfolding recorder_name
recorder_name_made at table name e0 =
    after_ok (only (faults_at (field_at at fields.Unknown)) recorder_fields table) _ name e0 (λ _ _ named. label_made (field_at at fields.Name) (codes "name") table name named)

recorder_made : (count : ℕ) (before : List Recorder) (table : Members) (recorder : Recorder) → recorder_of count before table ≡ Ok recorder
    → IsNext (IsSoundRecorder count) (λ o r. o.name ≢ r.name) before recorder
unfolding recorder_of
recorder_made count before table recorder e0 =
    let at = place.Recorder (length before) in
    after_ok (recorder_name at table) _ recorder e0 (λ name named e1.
    after_ok (budgets_field (length before) count (list_any (is_recorder name) before) table) _ recorder e1 (λ budgets budgeted e2.
    let (new, sound_budgets) = budgets_made (length before) count (list_any (is_recorder name) before) table budgets budgeted in
    let made : Recorder = record { name = name; budgets = budgets } in
    let next : IsNext (IsSoundRecorder count) (λ o r. o.name ≢ r.name) before made = record {
      sound = record {
        name = recorder_name_made at table name named;
        budgets = sound_budgets;
      };
      apart = apart_by (λ o r. o.name ≢ r.name) (is_recorder name) before made (λ o h. texts_apart o.name name h) new;
    } in
    subst (IsNext (IsSoundRecorder count) (λ o r. o.name ≢ r.name) before) (ok_is made recorder (Ok made) refl e2) next))

-- the recorders beside some instruments
recorders_made : (format : ℕ) (m : Metered) (tables : List Members) (recorders : List Recorder) → length m.instruments ≤ 512 → length tables ≤ 64 → recorders_declared format m tables ≡ Ok recorders
    → IsSoundList 64 (IsSoundRecorder (length m.instruments)) (λ o r. o.name ≢ r.name) recorders
recorders_made format m tables recorders few_named few e = by (format == 3) e
  where
    named : List Named
    named = map (named_in m.meters) m.instruments

    by : (b : Bool) → cond b (seats_declared named tables) (each (recorder_of (length m.instruments)) [] tables) ≡ Ok recorders → IsSoundList 64 (IsSoundRecorder (length m.instruments)) (λ o r. o.name ≢ r.name) recorders
    by true told =
        let count : length named ≡ length m.instruments = length-map m.instruments (named_in m.meters) in
        subst (λ (n : ℕ). IsSoundList 64 (IsSoundRecorder n) (λ o r. o.name ≢ r.name) recorders) count (seats_sound named tables recorders (omega (arith, count, few_named)) told)
    by false told = made_sound 64 (IsSoundRecorder (length m.instruments)) (λ o r. o.name ≢ r.name) (recorder_of (length m.instruments)) (recorder_made (length m.instruments)) tables recorders told few

abbrev one_if : Bool → ℕ
one_if first = cond first 1 2

one_or_two : (first : Bool) → (one_if first ≡ 1) ⊎ (one_if first ≡ 2)
one_or_two true = inl refl
one_or_two false = inr refl

only_first : (format : ℕ) → declared_format format ≡ 1 → format ≡ 1
only_first format e = by (format == 1) refl e
  where
    by : (b : Bool) → (format == 1) ≡ b → one_if b ≡ 1 → format ≡ 1
    by true is one = grind (arith, nat_tests)
    by false is one = absurd (omega (arith, one))

-- what a few tables declare in a format
declared_made : (format : ℕ) (keys meters recorders : List Members) (c : Contents) → length meters ≤ 64 → length recorders ≤ 64 → contents_declared format keys meters recorders ≡ Ok c → IsSound c
unfolding contents_declared
declared_made format keys meters recorders c few_meters few_recorders e0 =
    after_ok (each shared_key [] keys) _ c e0 (λ shared keyed e1.
    after_ok (in_turn (with_meter format shared recorders) nothing_metered meters) _ c e1 (λ metered made e2.
    after_ok (recorders_declared format metered recorders) _ c e2 (λ declared recorded e3.
    let known : All IsSoundShared shared = (each_sound IsSoundShared (λ _ _. Unit {0}) shared_key shared_made [] keys shared keyed (sound_none IsSoundShared (λ _ _. Unit {0}))).each in
    let first : IsSoundSoFar nothing_metered = record {
      meters = sound_none IsSoundMeter (λ m o. m ≢ o);
      instruments = sound_none (IsSoundInstrument 0) AreInstrumentsApart;
      few = omega arith;
    } in
    let (all, long) = meters_made format shared known recorders nothing_metered meters metered made first in
    let read : Contents = record { format = declared_format format; meters = metered.meters; instruments = metered.instruments; recorders = declared } in
    let sound : IsSound read = record {
      format = one_or_two (format == 1);
      plain = λ one. meters_plain format shared recorders meters metered made (only_first format one);
      meters = record { few = omega arith; each = all.meters.each; apart = all.meters.apart };
      instruments = record { few = all.few; each = all.instruments.each; apart = all.instruments.apart };
      recorders = recorders_made format metered recorders declared all.few few_recorders recorded;
    } in
    subst IsSound (ok_is read c (Ok read) refl e3) sound)))

pub contents_made : (is_shared : Bool) (table : Members) (c : Contents) → contents_of is_shared table ≡ Ok c → IsSound c
unfolding contents_of
contents_made is_shared table c e0 =
    after_ok (format_of_top is_shared table) _ c e0 (λ format _ e1.
    after_ok (tables_field (faults_at (field_at place.Top fields.Key)) 512 (codes "key") table) _ c e1 (λ keys _ e2.
    after_ok (tables_field (faults_at (field_at place.Top fields.Meter)) 64 (codes "meter") table) _ c e2 (λ meters metered e3.
    after_ok (tables_field (faults_at (field_at place.Top fields.Recorder)) 64 (codes "recorder") table) _ c e3 (λ recorders recorded e4.
    let few_meters = tables_few (faults_at (field_at place.Top fields.Meter)) 64 (codes "meter") table meters metered in
    let few_recorders = tables_few (faults_at (field_at place.Top fields.Recorder)) 64 (codes "recorder") table recorders recorded in
    declared_made format keys meters recorders c few_meters few_recorders e4))))
