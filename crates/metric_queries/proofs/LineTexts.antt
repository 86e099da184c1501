-- The texts that a line has under its labels, and what they fulfil.
use Rattle.std.proofs.Common.{◌≡◌, ◌≢◌, ℕ, zero, suc, ◌+◌, ◌-◌, ◌<◌, ◌≤◌, Bool, true, false, cond, not, ◌&&◌, ◌||◌, List, [], ◌∷◌, ◌++◌, codes, length, map, get_or, Option, Some, None, refl, sym, ap, subst, ◌∙◌, ◌==◌, arith}
use Rattle.std.specs.Prelude.{nat_le, nat_lt, slice_get, slice_index_or}
use Rattle.std.specs.List.{cons_option, flat_map, list_all, list_any, zip}
use Rattle.std.specs.Option.{option_map, option_map_or}
use Rattle.std.specs.Str.{bytes_eq}
use Rattle.std.proofs.lemmas.Bool.Decides.{nat_tests}
use Rattle.std.proofs.lemmas.List.Folds.{list_all-append, list_any-append}
use Rattle.std.proofs.lemmas.Slice.Eq.{bytes_eq-Decides}
use Rattle.metric_combinations.specs.Combinations.{permits}
use Rattle.metric_combinations.specs.Restrictions.{restricted}
use Rattle.metric_names.specs.declared.value.AttrValue.{AttrValue}
use Rattle.metric_names.specs.Values.{value_text}
use Rattle.metric_contents.specs.declared.contents.Contents.{Contents}
use Rattle.metric_contents.specs.declared.contents.Instrument.{Instrument}
use Rattle.metric_contents.specs.declared.contents.Key.{Key}
use Rattle.metric_contents.specs.declared.contents.Meter.{Meter}
use Rattle.metric_facts.specs.Facts.{is_entry, is_full_set, key_facts}
use Rattle.metric_bounds.specs.Sets.{sets_of}
use Rattle.metric_views.specs.declared.stream.Stream.{Stream}
use Rattle.metric_lines.specs.Keys.{attributes_of, kept_names, value_at}
use Rattle.metric_family.specs.declared.metric_type.MetricType.{MetricType}
use Rattle.metric_family.specs.declared.metric_type.MetricType.TheVariants.{Counter, Gauge, Histogram}
use Rattle.metric_family.specs.Families.{family, type_of}
use Rattle.metric_family.specs.Grammar.{IsLabel}
use Rattle.metric_family.specs.Labels.{Label, attribute_label, label_of, point_labels, scope_labels, shown}
use Rattle.metric_family.specs.Words.{is_among, is_some}
use Rattle.metric_exposition.specs.declared.dialect.Dialect.{Dialect}
use Rattle.metric_exposure.specs.Exposures.{reserved_of}
use Rattle.metric_exposure.specs.KeyFaults.{reserved_labels, scope_taken, type_labels}
use Rattle.metric_exposure.specs.Laws.{LabelsAreSound, NamesAreSound, Passes, text_at}
use Rattle.metric_exposure.specs.Renames.{merged_labels, server_labels}
use Rattle.metric_exposure.specs.Sources.{boundaries_of, keys_of, meter_of}
use Rattle.metric_exposure.proofs.Passing.{key_passes}
use Rattle.metric_exposure.proofs.Renamed.{text_shown}
use Rattle.metric_exposure.proofs.Series.{Tells, among_last, and_first, and_second, or_first, shown_keys, suc_is, tells_of}
use Rattle.metric_exposure.proofs.Shown.{absent, any_of, entry_text, pick, pick_none, text_by, text_kept}
use Rattle.metric_queries.specs.ByKeys.{IsServed, has_mark, has_set, is_fixed, is_free, is_histogram, is_judged, is_row_asked, is_sample_asked, is_text_asked, mask_of, masks_of, overflow_labels, served_matches, takes_at, takes_fixed, takes_overflow}
use Rattle.metric_queries.specs.Laws.{KeysAreEnough, SetsAreFound}
use Rattle.metric_queries.specs.Lines.{CanBeOf, CanMatch, IsLine, IsSetOf, fulfils, line_labels}
use Rattle.metric_queries.specs.Matching.{is_open, kept_labels, name_label}
use Rattle.metric_queries.specs.Samples.{plain, plain_if, samples_by, samples_of, tells_count, tells_created, tells_sum}
use Rattle.metric_queries.specs.Tests.{takes}
use Rattle.metric_queries.specs.declared.asked.Asked.{Asked}
use Rattle.metric_queries.specs.declared.sample.Sample.{Sample}
use Rattle.metric_queries.specs.declared.served.Served.{Served}
use Rattle.metric_queries.proofs.Texts.{flipped}

-- ---- tests

pub both : (a b : Bool) → a ≡ true → b ≡ true → (a && b) ≡ true
both true b e f = f
both false b e f = absurd cc

pub first : (a b : Bool) → a ≡ true → (a || b) ≡ true
first true b e = refl
first false b e = absurd cc

pub last : (a b : Bool) → b ≡ true → (a || b) ≡ true
last true b e = refl
last false b e = e

pub or_second : (a b : Bool) → (a || b) ≡ false → b ≡ false
or_second true b e = absurd cc
or_second false b e = e

pub neither : (a b : Bool) → a ≡ false → b ≡ false → (a || b) ≡ false
neither true b e f = absurd cc
neither false b e f = f

pub unless : (a b : Bool) → (a ≡ false → b ≡ true) → (a || b) ≡ true
unless true b f = refl
unless false b f = f refl

pub where_so : (a b : Bool) → (a ≡ true → b ≡ true) → (not a || b) ≡ true
where_so true b f = f refl
where_so false b f = refl

pub not_true : (a : Bool) → not a ≡ true → a ≡ false
not_true true e = absurd cc
not_true false e = refl

pub and_false : (a : Bool) → (a && false) ≡ false
and_false true = refl
and_false false = refl

pub all_so : {X : Type 0} (p q : X → Bool) → ((x : X) → p x ≡ true → q x ≡ true) → (xs : List X) → list_all p xs ≡ true → list_all q xs ≡ true
all_so p q so [] e = refl
all_so p q so (x ∷ xs) e = both (q x) (list_all q xs) (so x (and_first (p x) (list_all p xs) e)) (all_so p q so xs (and_second (p x) (list_all p xs) e))

any_so : {X : Type 0} (p q : X → Bool) → ((x : X) → p x ≡ true → q x ≡ true) → (xs : List X) → list_any p xs ≡ true → list_any q xs ≡ true
any_so p q so [] e = absurd cc
any_so p q so (x ∷ xs) e = by (p x) refl (any_so p q so xs)
  where
    by : (b : Bool) → p x ≡ b → (list_any p xs ≡ true → list_any q xs ≡ true) → (q x || list_any q xs) ≡ true
    by true f later = first (q x) (list_any q xs) (so x f)
    by false f later = last (q x) (list_any q xs) (later (sym (ap (λ b. b || list_any p xs) f) ∙ e))

pub all_at : {X : Type 0} (p : X → Bool) (xs : List X) (i : ℕ) (x : X) → list_all p xs ≡ true → slice_get xs i ≡ Some x → p x ≡ true
all_at p [] i x e at = absurd cc
all_at p (y ∷ xs) zero x e at = let same : y ≡ x = cc in sym (ap p same) ∙ and_first (p y) (list_all p xs) e
all_at p (y ∷ xs) (suc i) x e at = all_at p xs i x (and_second (p y) (list_all p xs) e) at

pub less_is : (a b : ℕ) → a < b → nat_lt a b ≡ true
less_is a b e = grind (arith, nat_tests)

pub less_so : (a b : ℕ) → nat_lt a b ≡ true → a < b
less_so a b e = grind (arith, nat_tests)

-- ---- texts of labels

pub some_is : (c : ℕ) (text : List ℕ) → is_some (c ∷ text) ≡ true
some_is c text = grind (arith, nat_tests)

pub none_where : (text : List ℕ) → (length text == 0) ≡ true → text ≡ []
none_where [] e = refl
none_where (c ∷ text) e = let wrong : false ≡ true = sym (suc_is (length text)) ∙ e in absurd cc

pub text_none : (labels : List Label) (name : List ℕ) → is_among (map (λ (label : Label). label.0) labels) name ≡ false → text_at labels name ≡ []
text_none [] name e = refl
text_none (label ∷ labels) name e =
    ap (λ b. cond (b && is_some label.1) label.1 (text_at labels name)) (flipped label.0 name (or_first (bytes_eq name label.0) _ e))
    ∙ text_none labels name (or_second (bytes_eq name label.0) _ e)

pub text_both : (xs ys : List Label) (name : List ℕ) → text_at (xs ++ ys) name ≡ pick (text_at xs name) (text_at ys name)
text_both [] ys name = refl
text_both (x ∷ xs) ys name = by (bytes_eq x.0 name) x.1 (text_both xs ys name)
  where
    by : (b : Bool) (text : List ℕ) → text_at (xs ++ ys) name ≡ pick (text_at xs name) (text_at ys name)
        → cond (b && is_some text) text (text_at (xs ++ ys) name) ≡ pick (cond (b && is_some text) text (text_at xs name)) (text_at ys name)
    by false text later = later
    by true [] later = later
    by true (c ∷ text) later =
        ap (λ b. cond b (c ∷ text) (text_at (xs ++ ys) name)) (some_is c text)
        ∙ sym (ap (λ b. pick (cond b (c ∷ text) (text_at xs name)) (text_at ys name)) (some_is c text))

-- behind the name and the boundary
pub text_behind : (name mark label : List ℕ) (points : List Label) → bytes_eq label name_label ≡ false → (bytes_eq (codes "le") label && is_some mark) ≡ false
    → text_at ((name_label, name) ∷ (codes "le", mark) ∷ points) label ≡ text_at points label
text_behind name mark label points e f =
    ap (λ b. cond (b && is_some name) name (cond (bytes_eq (codes "le") label && is_some mark) mark (text_at points label))) (flipped name_label label e)
    ∙ ap (λ b. cond b mark (text_at points label)) f

-- a label of no kept key
pub series_none : (keys : List Key) (kept : List Bool) (set label : List ℕ) → is_among (map label_of (kept_names keys kept)) label ≡ false
    → text_at (map attribute_label (attributes_of keys kept set)) label ≡ []
series_none [] kept set label e = refl
series_none (key ∷ keys) [] set label e = refl
series_none (key ∷ keys) (b ∷ kept) [] label e = refl
series_none (key ∷ keys) (false ∷ kept) (entry ∷ set) label e = series_none keys kept set label e
series_none (key ∷ keys) (true ∷ kept) (entry ∷ set) label e =
    by (value_at key.values entry) (series_none keys kept set label (or_second (bytes_eq label (label_of key.name)) _ e))
  where
    rest : List Label
    rest = map attribute_label (attributes_of keys kept set)

    by : (o : Option AttrValue) → text_at rest label ≡ []
        → text_at (map attribute_label (cons_option (option_map (λ value. (key.name, value)) o) (attributes_of keys kept set))) label ≡ []
    by None later = later
    by (Some value) later =
        ap (λ b. cond (b && is_some (value_text value)) (value_text value) (text_at rest label)) (flipped (label_of key.name) label (or_first (bytes_eq label (label_of key.name)) _ e))
        ∙ later

-- ---- the keys

found_below : (values : List AttrValue) (n : ℕ) → n < length values → (value : AttrValue) × (slice_get values n ≡ Some value)
found_below [] n less = absurd (omega arith)
found_below (x ∷ values) zero less = (x, refl)
found_below (x ∷ values) (suc n) less = found_below values n (omega arith)

pub entry_at : (test : AttrValue → Bool) (values : List AttrValue) (n : ℕ) (value : AttrValue) → slice_get values n ≡ Some value → get_or (map test values) n false ≡ test value
entry_at test [] n value at = absurd cc
entry_at test (x ∷ values) zero value at = let same : x ≡ value = cc in ap test same
entry_at test (x ∷ values) (suc n) value at = entry_at test values n value at

mask_value : (judged : Bool) (key : Key) (asked : List Asked) (n : ℕ) → is_entry (key_facts key) (suc n) ≡ true
    → is_text_asked judged (label_of key.name) asked (entry_text key (suc n)) ≡ true → get_or (mask_of judged key asked) (suc n) false ≡ true
mask_value judged key asked n valid e =
    let entry : nat_le (suc n) (length key.values) ≡ true = rw (suc_is n) at valid in
    let within : n < length key.values = grind (arith, nat_tests) in
    let value = found_below key.values n within in
    let less : suc n - 1 ≡ n = omega arith in
    let at : value_at key.values (suc n) ≡ Some value.0 = rw (suc_is n, less) value.1 in
    let test = λ (text : List ℕ). is_text_asked judged (label_of key.name) asked text in
    entry_at (λ v. test (value_text v)) key.values n value.0 value.1 ∙ sym (ap (λ o. test (text_by o)) at) ∙ e

mask_entry : (judged : Bool) (key : Key) (asked : List Asked) (entry : ℕ) → is_entry (key_facts key) entry ≡ true
    → is_text_asked judged (label_of key.name) asked (entry_text key entry) ≡ true → get_or (mask_of judged key asked) entry false ≡ true
mask_entry judged key asked zero valid e = both key.optional (is_text_asked judged (label_of key.name) asked []) valid e
mask_entry judged key asked (suc n) valid e = mask_value judged key asked n valid e

-- under the label of each kept key stands the text of its entry
abbrev pub AreTexts : (List ℕ → List ℕ) → List Key → List Bool → List ℕ → Type 0
AreTexts text [] kept set = Unit {0}
AreTexts text (key ∷ keys) [] set = Unit {0}
AreTexts text (key ∷ keys) (b ∷ kept) [] = Unit {0}
AreTexts text (key ∷ keys) (b ∷ kept) (entry ∷ set) = (b ≡ true → text (label_of key.name) ≡ entry_text key entry) × AreTexts text keys kept set

pub are_texts : (taken : List (List ℕ)) (keys : List Key) (kept : List Bool) (set : List ℕ) → Tells taken keys kept → (text : List ℕ → List ℕ)
    → ((label : List ℕ) → is_among taken label ≡ false → text label ≡ text_at (shown_keys keys kept (restricted kept set)) label)
    → AreTexts text keys kept set
are_texts taken [] kept set tells text is = tt
are_texts taken (key ∷ keys) [] set tells text is = tt
are_texts taken (key ∷ keys) (b ∷ kept) [] tells text is = tt
are_texts taken (key ∷ keys) (false ∷ kept) (entry ∷ set) tells text is = (λ e. absurd cc, are_texts taken keys kept set tells text is)
are_texts taken (key ∷ keys) (true ∷ kept) (entry ∷ set) tells text is = (λ e. own, are_texts (taken ++ label ∷ []) keys kept set tells.2 text later)
  where
    label : List ℕ
    label = label_of key.name

    rest : List ℕ → List ℕ
    rest other = text_at (shown_keys keys kept (restricted kept set)) other

    own : text label ≡ entry_text key entry
    own =
        is label tells.0
        ∙ text_kept key keys kept entry (restricted kept set) label
        ∙ ap (λ b. cond b (pick (entry_text key entry) (rest label)) (rest label)) ((bytes_eq-Decides label label).1 refl)
        ∙ ap (pick (entry_text key entry)) (absent (taken ++ label ∷ []) label keys kept (restricted kept set) tells.2 (among_last taken label))
        ∙ pick_none (entry_text key entry)

    later : (other : List ℕ) → is_among (taken ++ label ∷ []) other ≡ false → text other ≡ rest other
    later other free =
        let parts = sym (list_any-append (bytes_eq other) taken (label ∷ [])) ∙ free in
        let before = or_first (is_among taken other) (is_among (label ∷ []) other) parts in
        let here = or_first (bytes_eq other label) false (or_second (is_among taken other) (is_among (label ∷ []) other) parts) in
        is other before
        ∙ text_kept key keys kept entry (restricted kept set) other
        ∙ ap (λ b. cond b (pick (entry_text key entry) (rest other)) (rest other)) (flipped label other here)

some_entry : (mask : List Bool) (i : ℕ) → get_or mask i false ≡ true → list_any (λ is_asked. is_asked) mask ≡ true
some_entry [] i e = absurd cc
some_entry (x ∷ mask) zero e = first x (list_any (λ is_asked. is_asked) mask) e
some_entry (x ∷ mask) (suc i) e = last x (list_any (λ is_asked. is_asked) mask) (some_entry mask i e)

-- ---- a line that fulfils what is asked

module _ (added labels : List (List ℕ)) (asked : List Asked) (line : List Label) (fulfilled : list_all (fulfils added labels line) asked ≡ true) where
  -- where a label is judged, its text is taken
  pub judged_take : (p : List ℕ → Bool) (text : List ℕ → List ℕ) → ((label : List ℕ) → p label ≡ true → (is_open added labels label ≡ false) × (text_at line label ≡ text label))
      → list_all (λ one. not (p one.label) || takes one.test (text one.label)) asked ≡ true
  judged_take p text so = all_so (fulfils added labels line) (λ one. not (p one.label) || takes one.test (text one.label)) each asked fulfilled
    where
      each : (one : Asked) → fulfils added labels line one ≡ true → (not (p one.label) || takes one.test (text one.label)) ≡ true
      each one f = where_so (p one.label) (takes one.test (text one.label)) (λ at.
          let facts = so one.label at in
          ap (takes one.test) (sym facts.1) ∙ sym (ap (λ b. b || takes one.test (text_at line one.label)) facts.0) ∙ f)

  pub taken : (label text : List ℕ) → is_open added labels label ≡ false → text_at line label ≡ text → takes_at label text asked ≡ true
  taken label text judged is = judged_take (λ other. bytes_eq other label) (λ other. text) (λ other same.
      let here : other ≡ label = (bytes_eq-Decides other label).0 same in
      (ap (is_open added labels) here ∙ judged, ap (text_at line) here ∙ is))

  text_asked : (kept : Bool) (label text : List ℕ) → (kept ≡ true → text_at line label ≡ text) → is_text_asked (is_judged added labels kept label) label asked text ≡ true
  text_asked kept label text is = where_so (is_judged added labels kept label) (takes_at label text asked) (λ judged.
      taken label text (not_true (is_open added labels label) (and_second kept _ judged)) (is (and_first kept _ judged)))

  row_asked : (keys : List Key) (kept : List Bool) (set : List ℕ) → AreTexts (text_at line) keys kept set → is_full_set (map key_facts keys) set ≡ true
      → is_row_asked (masks_of added labels keys kept asked) set ≡ true
  row_asked [] kept set texts full = refl
  row_asked (key ∷ keys) [] set texts full = refl
  row_asked (key ∷ keys) (b ∷ kept) [] texts full = absurd cc
  row_asked (key ∷ keys) (b ∷ kept) (entry ∷ set) texts full =
      let label = label_of key.name in
      let mask = mask_of (is_judged added labels b label) key asked in
      both (get_or mask entry false) (is_row_asked (masks_of added labels keys kept asked) set)
      (mask_entry (is_judged added labels b label) key asked entry (and_first (is_entry (key_facts key) entry) _ full) (text_asked b label (entry_text key entry) texts.0))
      (row_asked keys kept set texts.1 (and_second (is_entry (key_facts key) entry) _ full))

  each_some : (keys : List Key) (kept : List Bool) (set : List ℕ) → is_full_set (map key_facts keys) set ≡ true
      → is_row_asked (masks_of added labels keys kept asked) set ≡ true → has_set (masks_of added labels keys kept asked) None ≡ true
  each_some [] kept set full row = refl
  each_some (key ∷ keys) [] set full row = refl
  each_some (key ∷ keys) (b ∷ kept) [] full row = absurd cc
  each_some (key ∷ keys) (b ∷ kept) (entry ∷ set) full row =
      let mask = mask_of (is_judged added labels b (label_of key.name)) key asked in
      both (list_any (λ is_asked. is_asked) mask) (has_set (masks_of added labels keys kept asked) None)
      (some_entry mask entry (and_first (get_or mask entry false) _ row))
      (each_some keys kept set (and_second (is_entry (key_facts key) entry) _ full) (and_second (get_or mask entry false) _ row))

  pub set_found : (keys : List Key) (kept : List Bool) (set : List ℕ) (allowed : Option (List (List ℕ))) → AreTexts (text_at line) keys kept set
      → is_full_set (map key_facts keys) set ≡ true → permits allowed set ≡ true → has_set (masks_of added labels keys kept asked) allowed ≡ true
  set_found keys kept set None texts full permitted = each_some keys kept set full (row_asked keys kept set texts full)
  set_found keys kept set (Some rows) texts full permitted =
      let masks = masks_of added labels keys kept asked in
      any_so (λ row. bytes_eq row set) (is_row_asked masks)
      (λ row same. ap (is_row_asked masks) ((bytes_eq-Decides row set).0 same) ∙ row_asked keys kept set texts full) rows permitted
