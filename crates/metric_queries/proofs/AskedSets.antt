-- Which sets and which samples of a stream are asked for.
use Rattle.std.proofs.Common.{◌≡◌, ◌≢◌, ℕ, zero, suc, ◌+◌, ◌-◌, ◌<◌, ◌≤◌, Bool, true, false, cond, not, ◌&&◌, ◌||◌, List, [], ◌∷◌, ◌++◌, codes, length, map, get_or, Option, Some, None, refl, sym, ap, subst, ◌∙◌, ◌==◌, arith}
use Rattle.std.specs.Prelude.{nat_le, nat_lt, slice_get, slice_index_or}
use Rattle.std.specs.List.{cons_option, flat_map, list_all, list_any, zip}
use Rattle.std.specs.Option.{option_map, option_map_or}
use Rattle.std.specs.Str.{bytes_eq}
use Rattle.std.proofs.lemmas.Bool.Decides.{nat_tests}
use Rattle.std.proofs.lemmas.List.Folds.{list_all-append, list_any-append}
use Rattle.std.proofs.lemmas.Slice.Eq.{bytes_eq-Decides}
use Rattle.metric_combinations.specs.Combinations.{permits}
use Rattle.metric_combinations.specs.Restrictions.{restricted}
use Rattle.metric_names.specs.declared.value.AttrValue.{AttrValue}
use Rattle.metric_names.specs.Values.{value_text}
use Rattle.metric_contents.specs.declared.contents.Contents.{Contents}
use Rattle.metric_contents.specs.declared.contents.Instrument.{Instrument}
use Rattle.metric_contents.specs.declared.contents.Key.{Key}
use Rattle.metric_contents.specs.declared.contents.Meter.{Meter}
use Rattle.metric_facts.specs.Facts.{is_entry, is_full_set, key_facts}
use Rattle.metric_bounds.specs.Sets.{sets_of}
use Rattle.metric_views.specs.declared.stream.Stream.{Stream}
use Rattle.metric_lines.specs.Keys.{attributes_of, kept_names, value_at}
use Rattle.metric_family.specs.declared.metric_type.MetricType.{MetricType}
use Rattle.metric_family.specs.declared.metric_type.MetricType.TheVariants.{Counter, Gauge, Histogram}
use Rattle.metric_family.specs.Families.{family, type_of}
use Rattle.metric_family.specs.Grammar.{IsLabel}
use Rattle.metric_family.specs.Labels.{Label, attribute_label, label_of, point_labels, scope_labels, shown}
use Rattle.metric_family.specs.Words.{is_among, is_some}
use Rattle.metric_exposition.specs.declared.dialect.Dialect.{Dialect}
use Rattle.metric_exposure.specs.Exposures.{reserved_of}
use Rattle.metric_exposure.specs.KeyFaults.{reserved_labels, scope_taken, type_labels}
use Rattle.metric_exposure.specs.Laws.{LabelsAreSound, NamesAreSound, Passes, text_at}
use Rattle.metric_exposure.specs.Renames.{merged_labels, server_labels}
use Rattle.metric_exposure.specs.Sources.{boundaries_of, keys_of, meter_of}
use Rattle.metric_exposure.proofs.Passing.{key_passes}
use Rattle.metric_exposure.proofs.Renamed.{text_shown}
use Rattle.metric_exposure.proofs.Series.{Tells, among_last, and_first, and_second, or_first, shown_keys, suc_is, tells_of}
use Rattle.metric_exposure.proofs.Shown.{absent, any_of, entry_text, pick, pick_none, text_by, text_kept}
use Rattle.metric_queries.specs.ByKeys.{IsServed, has_mark, has_set, is_fixed, is_free, is_histogram, is_judged, is_row_asked, is_sample_asked, is_text_asked, mask_of, masks_of, overflow_labels, served_matches, takes_at, takes_fixed, takes_overflow}
use Rattle.metric_queries.specs.Laws.{KeysAreEnough, SetsAreFound}
use Rattle.metric_queries.specs.Lines.{CanBeOf, CanMatch, IsLine, IsSetOf, fulfils, line_labels}
use Rattle.metric_queries.specs.Matching.{is_open, kept_labels, name_label}
use Rattle.metric_queries.specs.Samples.{plain, plain_if, samples_by, samples_of, tells_count, tells_created, tells_sum}
use Rattle.metric_queries.specs.Tests.{takes}
use Rattle.metric_queries.specs.declared.asked.Asked.{Asked}
use Rattle.metric_queries.specs.declared.sample.Sample.{Sample}
use Rattle.metric_queries.specs.declared.served.Served.{Served}
use Rattle.metric_queries.proofs.Texts.{flipped}
use Rattle.metric_queries.proofs.LineTexts.{AreTexts, all_at, both, entry_at, first, last, none_where, or_second, some_is, text_none}

-- ---- a set that is asked for

pub all_where : {X : Type 0} (p : X → Bool) (xs : List X) → ((i : ℕ) (x : X) → slice_get xs i ≡ Some x → p x ≡ true) → list_all p xs ≡ true
all_where p [] so = refl
all_where p (x ∷ xs) so = both (p x) (list_all p xs) (so zero x refl) (all_where p xs (λ i y at. so (suc i) y at))

pub record Held {X : Type 0} (p : X → Bool) (xs : List X) : Type 0 where
  pub place : ℕ
  pub item : X
  pub at : slice_get xs place ≡ Some item
  pub holds : p item ≡ true

pub held_of : {X : Type 0} (p : X → Bool) (xs : List X) → list_any p xs ≡ true → Held p xs
held_of p [] e = absurd cc
held_of p (x ∷ xs) e = by (p x) refl (held_of p xs)
  where
    by : (b : Bool) → p x ≡ b → (list_any p xs ≡ true → Held p xs) → Held p (x ∷ xs)
    by true f later = record { place = zero; item = x; at = refl; holds = f }
    by false f later =
        let rest = later (sym (ap (λ b. b || list_any p xs) f) ∙ e) in
        record { place = suc rest.place; item = rest.item; at = rest.at; holds = rest.holds }

value_of : (test : AttrValue → Bool) (values : List AttrValue) (n : ℕ) → get_or (map test values) n false ≡ true → (value : AttrValue) × (slice_get values n ≡ Some value)
value_of test [] n e = absurd cc
value_of test (x ∷ values) zero e = (x, refl)
value_of test (x ∷ values) (suc n) e = value_of test values n e

below : (values : List AttrValue) (n : ℕ) (value : AttrValue) → slice_get values n ≡ Some value → n < length values
below [] n value at = absurd cc
below (x ∷ values) zero value at = omega arith
below (x ∷ values) (suc n) value at = let less = below values n value at in omega (arith, less)

-- an entry that is asked for is one of the key, and its text is taken
entry_asked : (judged : Bool) (key : Key) (asked : List Asked) (entry : ℕ) → get_or (mask_of judged key asked) entry false ≡ true
    → (is_entry (key_facts key) entry ≡ true) × (is_text_asked judged (label_of key.name) asked (entry_text key entry) ≡ true)
entry_asked judged key asked zero e = (and_first key.optional _ e, and_second key.optional _ e)
entry_asked judged key asked (suc n) e =
    let test = λ (text : List ℕ). is_text_asked judged (label_of key.name) asked text in
    let value = value_of (λ v. test (value_text v)) key.values n e in
    let within = below key.values n value.0 value.1 in
    let most : nat_le (suc n) (length key.values) ≡ true = grind (arith, nat_tests) in
    let valid : is_entry (key_facts key) (suc n) ≡ true = rw (suc_is n) most in
    let less : suc n - 1 ≡ n = omega arith in
    let at : value_at key.values (suc n) ≡ Some value.0 = rw (suc_is n, less) value.1 in
    (valid, ap (λ o. test (text_by o)) at ∙ sym (entry_at (λ v. test (value_text v)) key.values n value.0 value.1) ∙ e)

entry_some : (mask : List Bool) → list_any (λ is_asked. is_asked) mask ≡ true → (i : ℕ) × (get_or mask i false ≡ true)
entry_some [] e = absurd cc
entry_some (true ∷ mask) e = (zero, refl)
entry_some (false ∷ mask) e = let rest = entry_some mask e in (suc rest.0, rest.1)

pub record Chosen (added labels : List (List ℕ)) (asked : List Asked) (keys : List Key) (kept : List Bool) (allowed : Option (List (List ℕ))) : Type 0 where
  pub set : List ℕ
  pub full : is_full_set (map key_facts keys) set ≡ true
  pub row : is_row_asked (masks_of added labels keys kept asked) set ≡ true
  pub permitted : permits allowed set ≡ true

module _ (added labels : List (List ℕ)) (asked : List Asked) where
  -- without a list of combinations: of each key an entry that is asked for
  chosen_each : (keys : List Key) (kept : List Bool) → length kept ≡ length keys → has_set (masks_of added labels keys kept asked) None ≡ true → Chosen added labels asked keys kept None
  chosen_each [] kept same e = record { set = []; full = refl; row = refl; permitted = refl }
  chosen_each (key ∷ keys) [] same e = absurd (omega (arith, same))
  chosen_each (key ∷ keys) (b ∷ kept) same e =
      let judged = is_judged added labels b (label_of key.name) in
      let mask = mask_of judged key asked in
      let masks = masks_of added labels keys kept asked in
      let entry = entry_some mask (and_first (list_any (λ is_asked. is_asked) mask) (has_set masks None) e) in
      let less : length kept ≡ length keys = omega (arith, same) in
      let rest = chosen_each keys kept less (and_second (list_any (λ is_asked. is_asked) mask) (has_set masks None) e) in
      record {
        set = entry.0 ∷ rest.set;
        full = both (is_entry (key_facts key) entry.0) (is_full_set (map key_facts keys) rest.set) (entry_asked judged key asked entry.0 entry.1).0 rest.full;
        row = both (get_or mask entry.0 false) (is_row_asked masks rest.set) entry.1 rest.row;
        permitted = refl;
      }

  pub chosen_of : (keys : List Key) (kept : List Bool) (allowed : Option (List (List ℕ))) → length kept ≡ length keys
      → ((rows : List (List ℕ)) → allowed ≡ Some rows → list_all (is_full_set (map key_facts keys)) rows ≡ true)
      → has_set (masks_of added labels keys kept asked) allowed ≡ true → Chosen added labels asked keys kept allowed
  chosen_of keys kept None same full e = chosen_each keys kept same e
  chosen_of keys kept (Some rows) same full e =
      let found = held_of (is_row_asked (masks_of added labels keys kept asked)) rows e in
      record {
        set = found.item;
        full = all_at (is_full_set (map key_facts keys)) rows found.place found.item (full rows refl) found.at;
        row = found.holds;
        permitted = any_of (λ row. bytes_eq row found.item) rows found.place found.item found.at ((bytes_eq-Decides found.item found.item).1 refl);
      }

  -- the matchers of a kept key's label take its text
  pub key_takes : (text : List ℕ → List ℕ) (keys : List Key) (kept : List Bool) (set : List ℕ) → AreTexts text keys kept set
      → is_row_asked (masks_of added labels keys kept asked) set ≡ true → is_full_set (map key_facts keys) set ≡ true
      → (label : List ℕ) → is_among (map label_of (kept_names keys kept)) label ≡ true → is_open added labels label ≡ false → takes_at label (text label) asked ≡ true
  key_takes text [] kept set texts row full label own judged = absurd cc
  key_takes text (key ∷ keys) [] set texts row full label own judged = absurd cc
  key_takes text (key ∷ keys) (b ∷ kept) [] texts row full label own judged = absurd cc
  key_takes text (key ∷ keys) (false ∷ kept) (entry ∷ set) texts row full label own judged =
      let mask = mask_of (is_judged added labels false (label_of key.name)) key asked in
      key_takes text keys kept set texts.1 (and_second (get_or mask entry false) _ row) (and_second (is_entry (key_facts key) entry) _ full) label own judged
  key_takes text (key ∷ keys) (true ∷ kept) (entry ∷ set) texts row full label own judged =
      by (bytes_eq label (label_of key.name)) refl
      (key_takes text keys kept set texts.1 (and_second (get_or mask entry false) _ row) (and_second (is_entry (key_facts key) entry) _ full) label)
    where
      is_so : Bool
      is_so = is_judged added labels true (label_of key.name)

      mask : List Bool
      mask = mask_of is_so key asked

      by : (b : Bool) → bytes_eq label (label_of key.name) ≡ b
          → (is_among (map label_of (kept_names keys kept)) label ≡ true → is_open added labels label ≡ false → takes_at label (text label) asked ≡ true)
          → takes_at label (text label) asked ≡ true
      by false other later = later (sym (ap (λ b. b || is_among (map label_of (kept_names keys kept)) label) other) ∙ own) judged
      by true same later =
          let is = (bytes_eq-Decides label (label_of key.name)).0 same in
          let told = (entry_asked is_so key asked entry (and_first (get_or mask entry false) _ row)).1 in
          let so : is_so ≡ true = ap not (sym (ap (is_open added labels) is) ∙ judged) in
          let taken_text : takes_at (label_of key.name) (entry_text key entry) asked ≡ true = sym (ap (λ b. not b || takes_at (label_of key.name) (entry_text key entry) asked) so) ∙ told in
          ap (λ (l : List ℕ). takes_at l (text l) asked) is ∙ ap (λ (t : List ℕ). takes_at (label_of key.name) t asked) (texts.0 refl) ∙ taken_text

-- ---- the samples

-- a sample has a name, and boundaries where there are buckets
abbrev pub is_sound : MetricType → Sample → Bool
is_sound type sample = is_some sample.name && (is_histogram type || list_all (λ mark. length mark == 0) sample.marks)

some_name : (name suffix : List ℕ) → is_some name ≡ true → is_some (name ++ suffix) ≡ true
some_name [] suffix e = absurd cc
some_name (c ∷ name) suffix e = some_is c (name ++ suffix)

sound_plain : (type : MetricType) (name suffix : List ℕ) → is_some name ≡ true → is_sound type (plain name suffix) ≡ true
sound_plain type name suffix e = both (is_some (name ++ suffix)) (is_histogram type || true) (some_name name suffix e) (last (is_histogram type) true refl)

sound_if : (type : MetricType) (b : Bool) (name suffix : List ℕ) → is_some name ≡ true → list_all (is_sound type) (plain_if b name suffix) ≡ true
sound_if type true name suffix e = both (is_sound type (plain name suffix)) true (sound_plain type name suffix e) refl
sound_if type false name suffix e = refl

sound_join : (type : MetricType) (xs ys : List Sample) → list_all (is_sound type) xs ≡ true → list_all (is_sound type) ys ≡ true → list_all (is_sound type) (xs ++ ys) ≡ true
sound_join type xs ys e f = list_all-append (is_sound type) xs ys ∙ both (list_all (is_sound type) xs) (list_all (is_sound type) ys) e f

pub sound_samples : (dialect : Dialect) (stream : Stream) (name : List ℕ) (type : MetricType) → is_some name ≡ true → list_all (is_sound type) (samples_by dialect stream name type) ≡ true
sound_samples dialect stream name Gauge e = both (is_sound Gauge (plain name [])) true (sound_plain Gauge name [] e) refl
sound_samples dialect stream name Counter e =
    both (is_sound Counter (plain name (codes "_total"))) (list_all (is_sound Counter) (plain_if (tells_created dialect) name (codes "_created")))
    (sound_plain Counter name (codes "_total") e) (sound_if Counter (tells_created dialect) name (codes "_created") e)
sound_samples dialect stream name Histogram e =
    let sum = plain_if (tells_sum dialect stream) name (codes "_sum") in
    let count = plain_if (tells_count dialect stream) name (codes "_count") in
    let created = plain_if (tells_created dialect) name (codes "_created") in
    both (is_some (name ++ codes "_bucket") && true) (list_all (is_sound Histogram) (sum ++ (count ++ created)))
    (both (is_some (name ++ codes "_bucket")) true (some_name name (codes "_bucket") e) refl)
    (sound_join Histogram sum (count ++ created) (sound_if Histogram (tells_sum dialect stream) name (codes "_sum") e)
    (sound_join Histogram count created (sound_if Histogram (tells_count dialect stream) name (codes "_count") e) (sound_if Histogram (tells_created dialect) name (codes "_created") e)))

pub no_mark : (type : MetricType) (sample : Sample) (number : ℕ) (mark : List ℕ) → is_sound type sample ≡ true → slice_get sample.marks number ≡ Some mark → is_histogram type ≡ false → mark ≡ []
no_mark type sample number mark sound at other =
    let marks = and_second (is_some sample.name) (is_histogram type || list_all (λ mark. length mark == 0) sample.marks) sound in
    let none = sym (ap (λ b. b || list_all (λ mark. length mark == 0) sample.marks) other) ∙ marks in
    none_where mark (all_at (λ mark. length mark == 0) sample.marks number mark none at)

-- where there are no buckets a sample has one boundary, the empty one
abbrev pub has_none : Sample → Bool
has_none sample = list_any (λ mark. length mark == 0) sample.marks

none_if : (b : Bool) (name suffix : List ℕ) → list_all has_none (plain_if b name suffix) ≡ true
none_if true name suffix = refl
none_if false name suffix = refl

pub none_samples : (dialect : Dialect) (stream : Stream) (name : List ℕ) (type : MetricType) → is_histogram type ≡ false → list_all has_none (samples_by dialect stream name type) ≡ true
none_samples dialect stream name Gauge e = refl
none_samples dialect stream name Counter e = none_if (tells_created dialect) name (codes "_created")
none_samples dialect stream name Histogram e = absurd cc

-- a boundary of a sample that is asked for
pub record Marked (type : MetricType) (asked : List Asked) (sample : Sample) : Type 0 where
  pub number : ℕ
  pub mark : List ℕ
  pub at : slice_get sample.marks number ≡ Some mark
  pub taken : is_histogram type ≡ true → takes_at (codes "le") mark asked ≡ true
  pub unmarked : is_histogram type ≡ false → mark ≡ []

pub marked_of : (type : MetricType) (asked : List Asked) (sample : Sample) → has_mark type asked sample ≡ true → (is_histogram type ≡ false → has_none sample ≡ true) → Marked type asked sample
marked_of type asked sample e none = by (is_histogram type) refl
  where
    by : (b : Bool) → is_histogram type ≡ b → Marked type asked sample
    by true hist =
        let found = held_of (λ mark. takes_at (codes "le") mark asked) sample.marks (sym (ap (λ b. not b || list_any (λ mark. takes_at (codes "le") mark asked) sample.marks) hist) ∙ e) in
        record { number = found.place; mark = found.item; at = found.at; taken = λ h. found.holds; unmarked = λ h. let wrong : true ≡ false = sym hist ∙ h in absurd cc }
    by false other =
        let found = held_of (λ mark. length mark == 0) sample.marks (none other) in
        record { number = found.place; mark = found.item; at = found.at; taken = λ h. let wrong : true ≡ false = sym h ∙ other in absurd cc; unmarked = λ h. none_where found.item found.holds }

-- ---- the labels that no key has

le_first : (type : MetricType) → is_histogram type ≡ true → is_among (type_labels type) (codes "le") ≡ true
le_first Counter e = absurd cc
le_first Gauge e = absurd cc
le_first Histogram e = refl

pub le_taken : (contents : Contents) (stream : Stream) → is_histogram (type_of stream) ≡ true → is_among (reserved_of contents stream) (codes "le") ≡ true
unfolding reserved_of reserved_labels
le_taken contents stream e =
    let mark : List ℕ = codes "le" in
    let type = type_labels (type_of stream) in
    let scope = option_map_or scope_taken (meter_of contents stream) [] in
    let merged = flat_map (merged_labels (keys_of contents stream) stream.kept) server_labels in
    list_any-append (bytes_eq mark) (type ++ scope) merged
    ∙ first (is_among (type ++ scope) mark) (is_among merged mark) (list_any-append (bytes_eq mark) type scope ∙ first (is_among type mark) (is_among scope mark) (le_first (type_of stream) e))

pub no_scope : (contents : Contents) (stream : Stream) (meter : Meter) (label : List ℕ) → meter_of contents stream ≡ Some meter → is_among (reserved_of contents stream) label ≡ false
    → text_at (scope_labels meter) label ≡ []
unfolding reserved_of reserved_labels
no_scope contents stream meter label is free =
    let type = type_labels (type_of stream) in
    let scope = option_map_or scope_taken (meter_of contents stream) [] in
    let merged = flat_map (merged_labels (keys_of contents stream) stream.kept) server_labels in
    let front = or_first (is_among (type ++ scope) label) (is_among merged label) (sym (list_any-append (bytes_eq label) (type ++ scope) merged) ∙ free) in
    let back = or_second (is_among type label) (is_among scope label) (sym (list_any-append (bytes_eq label) type scope) ∙ front) in
    let own : is_among (scope_taken meter) label ≡ false = sym (ap (λ (o : Option Meter). is_among (option_map_or scope_taken o []) label) is) ∙ back in
    sym (text_shown (scope_labels meter) label) ∙ text_none (shown (scope_labels meter)) label own

pub not_name : (label : List ℕ) → IsLabel label → bytes_eq label name_label ≡ false
not_name label sound = by (bytes_eq label name_label) refl
  where
    by : (b : Bool) → bytes_eq label name_label ≡ b → b ≡ false
    by false e = refl
    by true e = absurd ((subst IsLabel ((bytes_eq-Decides label name_label).0 e) sound).2 (refl, refl))
