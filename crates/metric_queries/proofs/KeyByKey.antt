-- Which lines there can be is found key by key: none more, and each.
use Rattle.std.proofs.Common.{◌≡◌, ◌≢◌, ℕ, zero, suc, ◌+◌, ◌-◌, ◌<◌, ◌≤◌, Bool, true, false, cond, not, ◌&&◌, ◌||◌, List, [], ◌∷◌, ◌++◌, codes, length, map, get_or, Option, Some, None, refl, sym, ap, subst, ◌∙◌, ◌==◌, arith}
use Rattle.std.specs.Prelude.{nat_le, nat_lt, slice_get, slice_index_or}
use Rattle.std.specs.List.{cons_option, flat_map, list_all, list_any, zip}
use Rattle.std.specs.Option.{option_map, option_map_or}
use Rattle.std.specs.Str.{bytes_eq}
use Rattle.std.proofs.lemmas.Bool.Decides.{nat_tests}
use Rattle.std.proofs.lemmas.List.Folds.{list_all-append, list_any-append}
use Rattle.std.proofs.lemmas.Slice.Eq.{bytes_eq-Decides}
use Rattle.metric_combinations.specs.Combinations.{permits}
use Rattle.metric_combinations.specs.Restrictions.{restricted}
use Rattle.metric_names.specs.declared.value.AttrValue.{AttrValue}
use Rattle.metric_names.specs.Values.{value_text}
use Rattle.metric_contents.specs.declared.contents.Contents.{Contents}
use Rattle.metric_contents.specs.declared.contents.Instrument.{Instrument}
use Rattle.metric_contents.specs.declared.contents.Key.{Key}
use Rattle.metric_contents.specs.declared.contents.Meter.{Meter}
use Rattle.metric_facts.specs.Facts.{is_entry, is_full_set, key_facts}
use Rattle.metric_bounds.specs.Sets.{sets_of}
use Rattle.metric_views.specs.declared.stream.Stream.{Stream}
use Rattle.metric_lines.specs.Keys.{attributes_of, kept_names, value_at}
use Rattle.metric_family.specs.declared.metric_type.MetricType.{MetricType}
use Rattle.metric_family.specs.declared.metric_type.MetricType.TheVariants.{Counter, Gauge, Histogram}
use Rattle.metric_family.specs.Families.{family, type_of}
use Rattle.metric_family.specs.Grammar.{IsLabel}
use Rattle.metric_family.specs.Labels.{Label, attribute_label, label_of, point_labels, scope_labels, shown}
use Rattle.metric_family.specs.Words.{is_among, is_some}
use Rattle.metric_exposition.specs.declared.dialect.Dialect.{Dialect}
use Rattle.metric_exposure.specs.Exposures.{reserved_of}
use Rattle.metric_exposure.specs.KeyFaults.{reserved_labels, scope_taken, type_labels}
use Rattle.metric_exposure.specs.Laws.{LabelsAreSound, NamesAreSound, Passes, text_at}
use Rattle.metric_exposure.specs.Renames.{merged_labels, server_labels}
use Rattle.metric_exposure.specs.Sources.{boundaries_of, keys_of, meter_of}
use Rattle.metric_exposure.proofs.Passing.{key_passes}
use Rattle.metric_exposure.proofs.Renamed.{text_shown}
use Rattle.metric_exposure.proofs.Series.{Tells, among_last, and_first, and_second, or_first, shown_keys, suc_is, tells_of}
use Rattle.metric_exposure.proofs.Shown.{absent, any_of, entry_text, pick, pick_none, text_by, text_kept}
use Rattle.metric_queries.specs.ByKeys.{IsServed, has_mark, has_set, is_fixed, is_free, is_histogram, is_judged, is_row_asked, is_sample_asked, is_text_asked, mask_of, masks_of, overflow_labels, served_matches, takes_at, takes_fixed, takes_overflow}
use Rattle.metric_queries.specs.Laws.{KeysAreEnough, SetsAreFound}
use Rattle.metric_queries.specs.Lines.{CanBeOf, CanMatch, IsLine, IsSetOf, fulfils, line_labels}
use Rattle.metric_queries.specs.Matching.{is_open, kept_labels, name_label}
use Rattle.metric_queries.specs.Samples.{plain, plain_if, samples_by, samples_of, tells_count, tells_created, tells_sum}
use Rattle.metric_queries.specs.Tests.{takes}
use Rattle.metric_queries.specs.declared.asked.Asked.{Asked}
use Rattle.metric_queries.specs.declared.sample.Sample.{Sample}
use Rattle.metric_queries.specs.declared.served.Served.{Served}
use Rattle.metric_queries.proofs.Texts.{flipped}
use Rattle.metric_queries.proofs.LineTexts.{AreTexts, all_at, all_so, and_false, are_texts, both, first, judged_take, last, less_is, less_so, neither, not_true, or_second, series_none, set_found, some_is, taken, text_behind, text_both, unless, where_so}
use Rattle.metric_queries.proofs.AskedSets.{Held, Marked, all_where, chosen_of, has_none, held_of, is_sound, key_takes, le_taken, marked_of, no_mark, no_scope, none_samples, not_name, sound_samples}

-- ---- a line of a stream

module _ (added : List (List ℕ)) (contents : Contents) (stream : Stream) (meter : Meter) (name mark : List ℕ)
    (is_meter : meter_of contents stream ≡ Some meter) (named : is_some name ≡ true) (unmarked : is_histogram (type_of stream) ≡ false → mark ≡ [])
    (set : Option (List ℕ)) where
  abbrev keys : List Key
  keys = keys_of contents stream

  abbrev type : MetricType
  type = type_of stream

  abbrev labels : List (List ℕ)
  labels = kept_labels contents stream

  abbrev points : List Label
  points = point_labels meter keys stream.kept set

  abbrev line : List Label
  line = line_labels contents stream meter name mark set

  -- whether a label is that of a boundary that is there
  no_boundary : (label : List ℕ) → (is_histogram type && bytes_eq label (codes "le")) ≡ false → (bytes_eq (codes "le") label && is_some mark) ≡ false
  no_boundary label e = by (is_histogram type) refl e
    where
      by : (b : Bool) → is_histogram type ≡ b → (b && bytes_eq label (codes "le")) ≡ false → (bytes_eq (codes "le") label && is_some mark) ≡ false
      by true f e = ap (λ b. b && is_some mark) (flipped (codes "le") label e)
      by false f e = ap (λ (text : List ℕ). bytes_eq (codes "le") label && is_some text) (unmarked f) ∙ and_false (bytes_eq (codes "le") label)

  -- the text of another label
  text_free : (label : List ℕ) → is_free added type labels label ≡ false → (is_open added labels label ≡ false) × (text_at line label ≡ text_at points label)
  text_free label free =
      let sample = or_first (bytes_eq label name_label || (is_histogram type && bytes_eq label (codes "le"))) (is_open added labels label) free in (
        or_second (bytes_eq label name_label || (is_histogram type && bytes_eq label (codes "le"))) (is_open added labels label) free,
        text_behind name mark label points (or_first (bytes_eq label name_label) _ sample) (no_boundary label (or_second (bytes_eq label name_label) _ sample)),
      )

  points_none : (label : List ℕ) → text_at (point_labels meter keys stream.kept None) label ≡ text_at (overflow_labels meter) label
  unfolding point_labels
  points_none label = refl

  abbrev series : List ℕ → List Label
  series s = map attribute_label (attributes_of keys stream.kept s)

  points_some : (s label : List ℕ) → text_at (point_labels meter keys stream.kept (Some s)) label ≡ pick (text_at (series s) label) (text_at (scope_labels meter) label)
  unfolding point_labels
  points_some s label = text_both (series s) (scope_labels meter) label

  at_set : (o : Option (List ℕ)) (label : List ℕ) → set ≡ o → text_at points label ≡ text_at (point_labels meter keys stream.kept o) label
  at_set o label is = ap (λ (s : Option (List ℕ)). text_at (point_labels meter keys stream.kept s) label) is

  no_le : Tells (reserved_of contents stream) keys stream.kept → is_histogram type ≡ true → (o : Option (List ℕ)) → text_at (point_labels meter keys stream.kept o) (codes "le") ≡ []
  no_le tells hist None = points_none (codes "le")
  no_le tells hist (Some s) =
      points_some s (codes "le")
      ∙ ap (λ (text : List ℕ). pick text (text_at (scope_labels meter) (codes "le")))
      (sym (text_shown (series s) (codes "le")) ∙ absent (reserved_of contents stream) (codes "le") keys stream.kept s tells (le_taken contents stream hist))

  mark_text : Tells (reserved_of contents stream) keys stream.kept → is_histogram type ≡ true → text_at line (codes "le") ≡ mark
  mark_text tells hist = by mark
    where
      by : (text : List ℕ) → cond (is_some text) text (text_at points (codes "le")) ≡ text
      by [] = no_le tells hist set
      by (c ∷ text) = ap (λ b. cond b (c ∷ text) (text_at points (codes "le"))) (some_is c text)

  no_le_label : (label : List ℕ) → is_among (reserved_of contents stream) label ≡ false → (is_histogram type && bytes_eq label (codes "le")) ≡ false
  no_le_label label free = by (is_histogram type) refl (bytes_eq label (codes "le")) refl
    where
      by : (b : Bool) → is_histogram type ≡ b → (d : Bool) → bytes_eq label (codes "le") ≡ d → (b && d) ≡ false
      by false e d f = refl
      by true e false f = refl
      by true e true f =
          let same = (bytes_eq-Decides label (codes "le")).0 f in
          let wrong : true ≡ false = sym (le_taken contents stream e) ∙ ap (is_among (reserved_of contents stream)) (sym same) ∙ free in
          cc

  set_text : (recorded : List ℕ) → set ≡ Some (restricted stream.kept recorded)
      → (label : List ℕ) → is_among (name_label ∷ reserved_of contents stream) label ≡ false → text_at line label ≡ text_at (shown (series (restricted stream.kept recorded))) label
  set_text recorded is label free =
      let own = series (restricted stream.kept recorded) in
      let other = or_first (bytes_eq label name_label) (is_among (reserved_of contents stream) label) free in
      let rest = or_second (bytes_eq label name_label) (is_among (reserved_of contents stream) label) free in
      text_behind name mark label points other (no_boundary label (no_le_label label rest))
      ∙ at_set (Some (restricted stream.kept recorded)) label is
      ∙ points_some (restricted stream.kept recorded) label
      ∙ ap (pick (text_at own label)) (no_scope contents stream meter label is_meter rest)
      ∙ pick_none (text_at own label)
      ∙ sym (text_shown own label)

  label_texts : Tells (name_label ∷ reserved_of contents stream) keys stream.kept → (recorded : List ℕ) → set ≡ Some (restricted stream.kept recorded)
      → AreTexts (text_at line) keys stream.kept recorded
  label_texts tells recorded is =
      are_texts (name_label ∷ reserved_of contents stream) keys stream.kept recorded tells (text_at line) (set_text recorded is)

  -- ---- of a line that fulfils what is asked

  module _ (asked : List Asked) (fulfilled : list_all (fulfils added (kept_labels contents stream) (line_labels contents stream meter name mark set)) asked ≡ true) where
    name_taken : takes_at name_label name asked ≡ true
    name_taken = taken added labels asked line fulfilled name_label name refl (ap (λ b. cond b name (text_at ((codes "le", mark) ∷ points) name_label)) named)

    over : set ≡ None → takes_overflow added type labels meter asked ≡ true
    over is = all_so (fulfils added labels line) (λ one. is_free added type labels one.label || takes one.test (text_at (overflow_labels meter) one.label)) each asked fulfilled
      where
        each : (one : Asked) → fulfils added labels line one ≡ true → (is_free added type labels one.label || takes one.test (text_at (overflow_labels meter) one.label)) ≡ true
        each one f = unless (is_free added type labels one.label) (takes one.test (text_at (overflow_labels meter) one.label)) (λ free.
            let facts = text_free one.label free in
            ap (takes one.test) (sym (facts.1 ∙ at_set None one.label is ∙ points_none one.label))
            ∙ sym (ap (λ b. b || takes one.test (text_at line one.label)) facts.0) ∙ f)

    fixed : (s : List ℕ) → set ≡ Some s → takes_fixed added type labels (scope_labels meter) asked ≡ true
    fixed s is = judged_take added labels asked line fulfilled (is_fixed added type labels) (text_at (scope_labels meter)) (λ label at.
        let none = not_true (is_free added type labels label || is_among labels label) at in
        let facts = text_free label (or_first (is_free added type labels label) (is_among labels label) none) in
        let own = or_second (is_free added type labels label) (is_among labels label) none in (
          facts.0,
          facts.1 ∙ at_set (Some s) label is ∙ points_some s label ∙ ap (λ (text : List ℕ). pick text (text_at (scope_labels meter) label)) (series_none keys stream.kept s label own),
        ))

    mark_taken : Tells (reserved_of contents stream) keys stream.kept → is_histogram type ≡ true → takes_at (codes "le") mark asked ≡ true
    mark_taken tells hist = taken added labels asked line fulfilled (codes "le") mark refl (mark_text tells hist)

    sample_asked : Tells (reserved_of contents stream) keys stream.kept → (sample : Sample) → sample.name ≡ name → (number : ℕ) → slice_get sample.marks number ≡ Some mark
        → is_sample_asked type asked sample ≡ true
    sample_asked tells sample same number at =
        both (takes_at name_label sample.name asked) (has_mark type asked sample)
        (ap (λ (text : List ℕ). takes_at name_label text asked) same ∙ name_taken)
        (where_so (is_histogram type) (list_any (λ text. takes_at (codes "le") text asked) sample.marks) (λ hist.
        any_of (λ text. takes_at (codes "le") text asked) sample.marks number mark at (mark_taken tells hist)))

    set_taken : Tells (name_label ∷ reserved_of contents stream) keys stream.kept → (recorded : List ℕ) → set ≡ Some (restricted stream.kept recorded)
        → is_full_set (map key_facts keys) recorded ≡ true → (allowed : Option (List (List ℕ))) → permits allowed recorded ≡ true
        → has_set (masks_of added labels keys stream.kept asked) allowed ≡ true
    set_taken tells recorded is full allowed permitted =
        set_found added labels asked line fulfilled keys stream.kept recorded allowed (label_texts tells recorded is) full permitted

    point_asked : Tells (name_label ∷ reserved_of contents stream) keys stream.kept → (instrument : Instrument) → slice_get contents.instruments stream.instrument ≡ Some instrument
        → (o : Option (List ℕ)) → set ≡ o → CanBeOf contents stream o
        → ((takes_fixed added type labels (scope_labels meter) asked && has_set (masks_of added labels keys stream.kept asked) instrument.allowed)
        || (nat_lt stream.limit (sets_of contents stream) && takes_overflow added type labels meter asked)) ≡ true
    point_asked tells instrument own None is can =
        last (takes_fixed added type labels (scope_labels meter) asked && has_set (masks_of added labels keys stream.kept asked) instrument.allowed)
        (nat_lt stream.limit (sets_of contents stream) && takes_overflow added type labels meter asked)
        (both (nat_lt stream.limit (sets_of contents stream)) (takes_overflow added type labels meter asked) (less_is stream.limit (sets_of contents stream) can) (over is))
    point_asked tells instrument own (Some s) is can =
        let same : can.instrument ≡ instrument = cc (can.is_own, own) in
        first (takes_fixed added type labels (scope_labels meter) asked && has_set (masks_of added labels keys stream.kept asked) instrument.allowed)
        (nat_lt stream.limit (sets_of contents stream) && takes_overflow added type labels meter asked)
        (both (takes_fixed added type labels (scope_labels meter) asked) (has_set (masks_of added labels keys stream.kept asked) instrument.allowed)
        (fixed s is)
        (set_taken tells can.recorded (is ∙ ap Some can.is_seen) can.is_full instrument.allowed (sym (ap (λ (i : Instrument). permits i.allowed can.recorded) same) ∙ can.is_permitted)))

  -- ---- of a selector that matches key by key

  free_of : (one : Asked) → bytes_eq one.label name_label ≡ false → (is_histogram type && bytes_eq one.label (codes "le")) ≡ false → is_open added labels one.label ≡ false
      → is_free added type labels one.label ≡ false
  free_of one e f g =
      neither (bytes_eq one.label name_label || (is_histogram type && bytes_eq one.label (codes "le"))) (is_open added labels one.label)
      (neither (bytes_eq one.label name_label) (is_histogram type && bytes_eq one.label (codes "le")) e f) g

  name_text : text_at line name_label ≡ name
  name_text = ap (λ b. cond b name (text_at ((codes "le", mark) ∷ points) name_label)) named

  module _ (asked : List Asked) (tells : Tells (reserved_of contents stream) keys stream.kept)
      (is_name : takes_at name_label name asked ≡ true) (is_mark : is_histogram type ≡ true → takes_at (codes "le") mark asked ≡ true) where
    -- a matcher of the name, of a boundary that is there, of a label that is not judged, and any other
    fulfils_by : (i : ℕ) (one : Asked) → slice_get asked i ≡ Some one → (is_free added type labels one.label ≡ false → takes one.test (text_at line one.label) ≡ true)
        → (a : Bool) → bytes_eq one.label name_label ≡ a → (h : Bool) → is_histogram type ≡ h → (b : Bool) → bytes_eq one.label (codes "le") ≡ b
        → (c : Bool) → is_open added labels one.label ≡ c → fulfils added labels line one ≡ true
    fulfils_by i one at other true named_so h hist b le c opened =
        let same = (bytes_eq-Decides one.label name_label).0 named_so in
        let one_takes = all_at (λ it. not (bytes_eq it.label name_label) || takes it.test name) asked i one is_name at in
        last (is_open added labels one.label) (takes one.test (text_at line one.label))
        (ap (takes one.test) (ap (text_at line) same ∙ name_text) ∙ sym (ap (λ x. not x || takes one.test name) named_so) ∙ one_takes)
    fulfils_by i one at other false named_so true hist true le c opened =
        let same = (bytes_eq-Decides one.label (codes "le")).0 le in
        let one_takes = all_at (λ it. not (bytes_eq it.label (codes "le")) || takes it.test mark) asked i one (is_mark hist) at in
        last (is_open added labels one.label) (takes one.test (text_at line one.label))
        (ap (takes one.test) (ap (text_at line) same ∙ mark_text tells hist) ∙ sym (ap (λ x. not x || takes one.test mark) le) ∙ one_takes)
    fulfils_by i one at other false named_so h hist b le true opened = first (is_open added labels one.label) (takes one.test (text_at line one.label)) opened
    fulfils_by i one at other false named_so false hist b le false opened =
        last (is_open added labels one.label) (takes one.test (text_at line one.label)) (other (free_of one named_so (ap (λ x. x && bytes_eq one.label (codes "le")) hist) opened))
    fulfils_by i one at other false named_so true hist false le false opened =
        last (is_open added labels one.label) (takes one.test (text_at line one.label))
        (other (free_of one named_so (ap (λ x. is_histogram type && x) le ∙ and_false (is_histogram type)) opened))

    fulfilled_of : ((i : ℕ) (one : Asked) → slice_get asked i ≡ Some one → is_free added type labels one.label ≡ false → takes one.test (text_at line one.label) ≡ true)
        → list_all (fulfils added labels line) asked ≡ true
    fulfilled_of other = all_where (fulfils added labels line) asked (λ i one at.
        fulfils_by i one at (other i one at) (bytes_eq one.label name_label) refl (is_histogram type) refl (bytes_eq one.label (codes "le")) refl (is_open added labels one.label) refl)

    over_fulfils : set ≡ None → takes_overflow added type labels meter asked ≡ true → list_all (fulfils added labels line) asked ≡ true
    over_fulfils is all = fulfilled_of (λ i one at free.
        let one_takes = all_at (λ it. is_free added type labels it.label || takes it.test (text_at (overflow_labels meter) it.label)) asked i one all at in
        ap (takes one.test) ((text_free one.label free).1 ∙ at_set None one.label is ∙ points_none one.label)
        ∙ sym (ap (λ x. x || takes one.test (text_at (overflow_labels meter) one.label)) free) ∙ one_takes)

    module _ (recorded : List ℕ) (is : set ≡ Some (restricted stream.kept recorded)) (fixed_take : takes_fixed added type labels (scope_labels meter) asked ≡ true)
        (row : is_row_asked (masks_of added labels keys stream.kept asked) recorded ≡ true) (full : is_full_set (map key_facts keys) recorded ≡ true)
        (named_tells : Tells (name_label ∷ reserved_of contents stream) keys stream.kept) where
      of_fixed : (i : ℕ) (one : Asked) → slice_get asked i ≡ Some one → is_free added type labels one.label ≡ false → is_among labels one.label ≡ false
          → takes one.test (text_at line one.label) ≡ true
      of_fixed i one at free own =
          let scope = text_at (scope_labels meter) one.label in
          let one_takes = all_at (λ it. not (is_fixed added type labels it.label) || takes it.test (text_at (scope_labels meter) it.label)) asked i one fixed_take at in
          let is_so : is_fixed added type labels one.label ≡ true = ap not (neither (is_free added type labels one.label) (is_among labels one.label) free own) in
          ap (takes one.test) ((text_free one.label free).1 ∙ at_set (Some (restricted stream.kept recorded)) one.label is ∙ points_some (restricted stream.kept recorded) one.label
          ∙ ap (λ (text : List ℕ). pick text scope) (series_none keys stream.kept (restricted stream.kept recorded) one.label own))
          ∙ sym (ap (λ x. not x || takes one.test scope) is_so) ∙ one_takes

      of_key : (i : ℕ) (one : Asked) → slice_get asked i ≡ Some one → is_free added type labels one.label ≡ false → is_among labels one.label ≡ true
          → takes one.test (text_at line one.label) ≡ true
      of_key i one at free own =
          let text = text_at line one.label in
          let all = key_takes added labels asked (text_at line) keys stream.kept recorded (label_texts named_tells recorded is) row full one.label own (text_free one.label free).0 in
          let one_takes = all_at (λ it. not (bytes_eq it.label one.label) || takes it.test text) asked i one all at in
          sym (ap (λ x. not x || takes one.test text) ((bytes_eq-Decides one.label one.label).1 refl)) ∙ one_takes

      other_takes : (i : ℕ) (one : Asked) → slice_get asked i ≡ Some one → is_free added type labels one.label ≡ false → (b : Bool) → is_among labels one.label ≡ b
          → takes one.test (text_at line one.label) ≡ true
      other_takes i one at free false own = of_fixed i one at free own
      other_takes i one at free true own = of_key i one at free own

      set_fulfils : list_all (fulfils added labels line) asked ≡ true
      set_fulfils = fulfilled_of (λ i one at free. other_takes i one at free (is_among labels one.label) refl)

-- ---- all together

some_of : (text : List ℕ) → text ≢ [] → is_some text ≡ true
some_of [] e = absurd (e refl)
some_of (c ∷ text) e = some_is c text

sound_all : (dialect : Dialect) (stream : Stream) → is_some (family stream) ≡ true → list_all (is_sound (type_of stream)) (samples_of dialect stream) ≡ true
unfolding samples_of
sound_all dialect stream named = sound_samples dialect stream (family stream) (type_of stream) named

module _ (sound : LabelsAreSound) (contents : Contents) (streams : List Stream) (reader number : ℕ) (stream : Stream) (passes : Passes contents streams reader number stream) where
  tells : Tells (reserved_of contents stream) (keys_of contents stream) stream.kept
  tells = tells_of (reserved_of contents stream) (keys_of contents stream) stream.kept (key_passes contents streams reader number stream passes)

  tells_named : Tells (name_label ∷ reserved_of contents stream) (keys_of contents stream) stream.kept
  tells_named = tells_of (name_label ∷ reserved_of contents stream) (keys_of contents stream) stream.kept (λ place key at kept.
      let clear = key_passes contents streams reader number stream passes place key at kept in
      (neither (bytes_eq (label_of key.name) name_label) _ (not_name (label_of key.name) (sound contents streams reader number stream place key passes at kept)) clear.0, clear.1))

-- what is found of a stream with these
abbrev matches_by : List (List ℕ) → List Asked → MetricType → List Sample → List (List ℕ) → Meter → List Key → List Bool → Option (List (List ℕ)) → Bool → Bool
matches_by added asked type samples labels meter keys kept allowed over =
    list_any (is_sample_asked type asked) samples
    && ((takes_fixed added type labels (scope_labels meter) asked && has_set (masks_of added labels keys kept asked) allowed)
    || (over && takes_overflow added type labels meter asked))

pub keys_are_enough : NamesAreSound → LabelsAreSound → KeysAreEnough
keys_are_enough names sound added dialect contents streams reader number stream served asked passes is told can =
    let l = can.is_line in
    let labels = kept_labels contents stream in
    let fulfilled : list_all (fulfils added labels (line_labels contents stream l.meter l.sample.name l.mark l.set)) asked ≡ true =
    sym (ap (λ (line : List Label). list_all (fulfils added labels line) asked) l.is_labels) ∙ can.fulfilled in
    let family_is = some_of (family stream) (names contents streams reader number stream passes).0 in
    let good = all_at (is_sound (type_of stream)) (samples_of dialect stream) l.place l.sample (sound_all dialect stream family_is) l.is_sample in
    let named = and_first (is_some l.sample.name) _ good in
    let unmarked = no_mark (type_of stream) l.sample l.number l.mark good l.is_mark in
    let sample = sample_asked added contents stream l.meter l.sample.name l.mark l.is_meter named unmarked l.set asked fulfilled (tells sound contents streams reader number stream passes) l.sample refl l.number l.is_mark in
    let samples = any_of (is_sample_asked (type_of stream) asked) (samples_of dialect stream) l.place l.sample l.is_sample sample in
    let point = point_asked added contents stream l.meter l.sample.name l.mark l.is_meter named unmarked l.set asked fulfilled (tells_named sound contents streams reader number stream passes) served.instrument.now is.is_instrument l.set refl l.can_be in
    let keys : served.instrument.now.keys ≡ keys_of contents stream = sym (ap (λ (o : Option Instrument). option_map_or (λ (instrument : Instrument). instrument.keys) o []) is.is_instrument) in
    let meter : served.meter.now ≡ l.meter = cc (l.is_meter, is.is_meter) in
    let kept : served.stream.now.kept ≡ stream.kept = ap (λ (s : Stream). s.kept) is.is_stream in
    let same : served_matches added served asked
    ≡ matches_by added asked (type_of stream) (samples_of dialect stream) labels l.meter (keys_of contents stream) stream.kept served.instrument.now.allowed (nat_lt stream.limit (sets_of contents stream)) =
    λ i. matches_by added asked (is.is_kind i) (is.are_samples i) (is.are_labels i) (meter i) (keys i) (kept i) served.instrument.now.allowed (is.is_overflow i) in
    let matched = same ∙ both _ _ samples point in
    let wrong : true ≡ false = sym matched ∙ told in
    cc

none_all : (dialect : Dialect) (stream : Stream) → is_histogram (type_of stream) ≡ false → list_all has_none (samples_of dialect stream) ≡ true
unfolding samples_of
none_all dialect stream e = none_samples dialect stream (family stream) (type_of stream) e

pub sets_are_found : NamesAreSound → LabelsAreSound → SetsAreFound
sets_are_found names sound added dialect contents streams reader number stream served asked passes long rows is matches =
    by (takes_fixed added type labels (scope_labels meter) asked && has_set masks allowed) refl
  where
    type : MetricType
    type = type_of stream

    labels : List (List ℕ)
    labels = kept_labels contents stream

    meter : Meter
    meter = served.meter.now

    keys : List Key
    keys = keys_of contents stream

    masks : List (List Bool)
    masks = masks_of added labels keys stream.kept asked

    allowed : Option (List (List ℕ))
    allowed = served.instrument.now.allowed

    over : Bool
    over = nat_lt stream.limit (sets_of contents stream)

    matched : matches_by added asked type (samples_of dialect stream) labels meter keys stream.kept allowed over ≡ true
    matched =
        let keys_is : served.instrument.now.keys ≡ keys = sym (ap (λ (o : Option Instrument). option_map_or (λ (instrument : Instrument). instrument.keys) o []) is.is_instrument) in
        let kept_is : served.stream.now.kept ≡ stream.kept = ap (λ (s : Stream). s.kept) is.is_stream in
        let same : served_matches added served asked ≡ matches_by added asked type (samples_of dialect stream) labels meter keys stream.kept allowed over =
        λ i. matches_by added asked (is.is_kind i) (is.are_samples i) (is.are_labels i) meter (keys_is i) (kept_is i) allowed (is.is_overflow i) in
        sym same ∙ matches

    sample : Held (is_sample_asked type asked) (samples_of dialect stream)
    sample = held_of (is_sample_asked type asked) (samples_of dialect stream) (and_first _ _ matched)

    mark : Marked type asked sample.item
    mark = marked_of type asked sample.item (and_second (takes_at name_label sample.item.name asked) _ sample.holds)
        (λ other. all_at has_none (samples_of dialect stream) sample.place sample.item (none_all dialect stream other) sample.at)

    named : is_some sample.item.name ≡ true
    named =
        let family_is = some_of (family stream) (names contents streams reader number stream passes).0 in
        and_first (is_some sample.item.name) _ (all_at (is_sound type) (samples_of dialect stream) sample.place sample.item (sound_all dialect stream family_is) sample.at)

    line : Option (List ℕ) → List Label
    line set = line_labels contents stream meter sample.item.name mark.mark set

    found : (set : Option (List ℕ)) → CanBeOf contents stream set → list_all (fulfils added labels (line set)) asked ≡ true → CanMatch added dialect contents stream asked
    found set can fulfilled = record {
      line = line set;
      is_line = record {
        meter = meter;
        is_meter = is.is_meter;
        sample = sample.item;
        place = sample.place;
        is_sample = sample.at;
        mark = mark.mark;
        number = mark.number;
        is_mark = mark.at;
        set = set;
        can_be = can;
        is_labels = refl;
      };
      fulfilled = fulfilled;
    }

    name_taken_so : takes_at name_label sample.item.name asked ≡ true
    name_taken_so = and_first (takes_at name_label sample.item.name asked) _ sample.holds

    by : (b : Bool) → (takes_fixed added type labels (scope_labels meter) asked && has_set masks allowed) ≡ b → CanMatch added dialect contents stream asked
    by true e =
        let chosen = chosen_of added labels asked keys stream.kept allowed long (λ listed is_listed. rows served.instrument.now listed is.is_instrument is_listed) (and_second (takes_fixed added type labels (scope_labels meter) asked) _ e) in
        let set = Some (restricted stream.kept chosen.set) in
        found set (record { instrument = served.instrument.now; is_own = is.is_instrument; recorded = chosen.set; is_full = chosen.full; is_permitted = chosen.permitted; is_seen = refl })
        (set_fulfils added contents stream meter sample.item.name mark.mark is.is_meter named mark.unmarked set asked (tells sound contents streams reader number stream passes) name_taken_so mark.taken
        chosen.set refl (and_first (takes_fixed added type labels (scope_labels meter) asked) _ e) chosen.row chosen.full (tells_named sound contents streams reader number stream passes))
    by false e =
        let rest : (over && takes_overflow added type labels meter asked) ≡ true = sym (ap (λ b. b || (over && takes_overflow added type labels meter asked)) e) ∙ and_second (list_any (is_sample_asked type asked) (samples_of dialect stream)) _ matched in
        let more : stream.limit < sets_of contents stream = less_so stream.limit (sets_of contents stream) (and_first over _ rest) in
        found None more
        (over_fulfils added contents stream meter sample.item.name mark.mark is.is_meter named mark.unmarked None asked (tells sound contents streams reader number stream passes) name_taken_so mark.taken refl (and_second over _ rest))
