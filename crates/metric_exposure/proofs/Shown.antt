-- Which text stands under a label of keys.
use Rattle.std.proofs.Common.{◌≡◌, ℕ, zero, suc, Bool, true, false, cond, not, ◌&&◌, ◌||◌, List, [], ◌∷◌, ◌++◌, length, map, Option, Some, None, refl, sym, ap, subst, ◌∙◌, ◌==◌, arith}
use Rattle.std.specs.Prelude.{slice_get, filter}
use Rattle.std.specs.List.{cons_option, filter_map, list_any, zip}
use Rattle.std.specs.Str.{bytes_eq}
use Rattle.std.proofs.lemmas.List.Folds.{list_any-append}
use Rattle.std.proofs.lemmas.Slice.Eq.{bytes_eq-Decides}
use Rattle.metric_combinations.specs.Restrictions.{restricted}
use Rattle.metric_names.specs.declared.value.AttrValue.{AttrValue}
use Rattle.metric_names.specs.Values.{value_text}
use Rattle.metric_contents.specs.declared.contents.Key.{Key}
use Rattle.metric_facts.specs.Facts.{is_entry, is_full_set, key_facts}
use Rattle.metric_lines.specs.Keys.{value_at}
use Rattle.metric_family.specs.Labels.{Label, label_of}
use Rattle.metric_family.specs.Words.{is_among, is_some}
use Rattle.metric_exposure.specs.KeyFaults.{are_confused}
use Rattle.metric_exposure.specs.KeyTexts.{is_empty_text, text_value, texts_of}
use Rattle.metric_exposure.specs.Laws.{text_at}
use Rattle.metric_exposure.specs.Renames.{is_shared, is_shown_as, kept_key, key_as, may_lack, takes}
use Rattle.metric_exposure.proofs.Chain.{none_is, some_is}
use Rattle.metric_exposure.proofs.Series.{Tells, among_last, and_first, and_second, get_mapped, item, item_by, named, same_hidden, same_shown, shown_keys, shown_kept, unshown, zeros}

-- the text of an entry of a key, empty where it is absent
abbrev pub text_by : Option AttrValue → List ℕ
text_by None = []
text_by (Some value) = value_text value

abbrev pub entry_text : Key → ℕ → List ℕ
entry_text key entry = text_by (value_at key.values entry)

item_is : (key : Key) (entry : ℕ) → item key entry ≡ cond (is_some (entry_text key entry)) (Some (label_of key.name, entry_text key entry)) None
item_is key entry = by (value_at key.values entry)
  where
    by : (o : Option AttrValue) → item_by key o ≡ cond (is_some (text_by o)) (Some (label_of key.name, text_by o)) None
    by None = refl
    by (Some value) = refl

-- the first text that is not empty
abbrev pub pick : List ℕ → List ℕ → List ℕ
pick [] other = other
pick (c ∷ text) other = c ∷ text

pub pick_none : (text : List ℕ) → pick text [] ≡ text
pick_none [] = refl
pick_none (c ∷ text) = refl

and_true : (b : Bool) → (b && true) ≡ b
and_true true = refl
and_true false = refl

-- one label more
pub text_more : (name text here : List ℕ) (labels : List Label)
    → text_at (cons_option (cond (is_some text) (Some (name, text)) None) labels) here ≡ cond (bytes_eq name here) (pick text (text_at labels here)) (text_at labels here)
text_more name [] here labels = by (bytes_eq name here)
  where
    by : (b : Bool) → text_at labels here ≡ cond b (text_at labels here) (text_at labels here)
    by true = refl
    by false = refl
text_more name (c ∷ text) here labels =
    ap (λ b. text_at (cons_option (cond b (Some (name, c ∷ text)) None) labels) here) (some_is c text)
    ∙ ap (λ b. cond (bytes_eq name here && b) (c ∷ text) (text_at labels here)) (some_is c text)
    ∙ ap (λ b. cond b (c ∷ text) (text_at labels here)) (and_true (bytes_eq name here))

pub text_kept : (key : Key) (keys : List Key) (kept : List Bool) (entry : ℕ) (set : List ℕ) (name : List ℕ)
    → text_at (shown_keys (key ∷ keys) (true ∷ kept) (entry ∷ set)) name
    ≡ cond (bytes_eq (label_of key.name) name) (pick (entry_text key entry) (text_at (shown_keys keys kept set) name)) (text_at (shown_keys keys kept set) name)
text_kept key keys kept entry set name =
    ap (λ (labels : List Label). text_at labels name) (shown_kept key keys kept entry set)
    ∙ ap (λ (o : Option Label). text_at (cons_option o (shown_keys keys kept set)) name) (item_is key entry)
    ∙ text_more (label_of key.name) (entry_text key entry) name (shown_keys keys kept set)

-- a label that is taken is no key's
not_own : (taken : List (List ℕ)) (label : List ℕ) (key : Key) → is_among taken label ≡ true → is_among taken (label_of key.name) ≡ false → bytes_eq (label_of key.name) label ≡ false
not_own taken label key among free = by (bytes_eq (label_of key.name) label) refl
  where
    by : (b : Bool) → bytes_eq (label_of key.name) label ≡ b → b ≡ false
    by false e = refl
    by true e =
        let same = (bytes_eq-Decides (label_of key.name) label).0 e in
        let wrong : true ≡ false = sym among ∙ ap (is_among taken) (sym same) ∙ free in
        absurd cc

more_taken : (taken : List (List ℕ)) (label other : List ℕ) → is_among taken label ≡ true → is_among (taken ++ other ∷ []) label ≡ true
more_taken taken label other among = list_any-append (bytes_eq label) taken (other ∷ []) ∙ ap (λ b. b || is_among (other ∷ []) label) among

pub absent : (taken : List (List ℕ)) (label : List ℕ) (keys : List Key) (kept : List Bool) (set : List ℕ) → Tells taken keys kept → is_among taken label ≡ true
    → text_at (shown_keys keys kept set) label ≡ []
absent taken label [] kept set tells among = refl
absent taken label (key ∷ keys) [] set tells among = refl
absent taken label (key ∷ keys) (b ∷ kept) [] tells among = refl
absent taken label (key ∷ keys) (false ∷ kept) (entry ∷ set) tells among = absent taken label keys kept set tells among
absent taken label (key ∷ keys) (true ∷ kept) (entry ∷ set) tells among =
    text_kept key keys kept entry set label
    ∙ ap (λ b. cond b (pick (entry_text key entry) (text_at (shown_keys keys kept set) label)) (text_at (shown_keys keys kept set) label)) (not_own taken label key among tells.0)
    ∙ absent (taken ++ label_of key.name ∷ []) label keys kept set tells.2 (more_taken taken label (label_of key.name) among)

abbrev all_kept : List Key → List Bool → List Key
all_kept keys kept = filter_map (λ x. kept_key x.0 x.1) (zip keys kept)

abbrev has_text : Key → Bool
has_text key = list_any (λ text. not (is_empty_text text)) (texts_of key)

pub no_key : (taken : List (List ℕ)) (label : List ℕ) (keys : List Key) (kept : List Bool) → Tells taken keys kept → is_among taken label ≡ true → key_as keys kept label ≡ None
no_key taken label [] kept tells among = refl
no_key taken label (key ∷ keys) [] tells among = refl
no_key taken label (key ∷ keys) (false ∷ kept) tells among = no_key taken label keys kept tells among
no_key taken label (key ∷ keys) (true ∷ kept) tells among =
    let others = filter (is_shown_as label) (all_kept keys kept) in
    ap (λ b. slice_get (cond (b && has_text key) (key ∷ others) others) 0) (not_own taken label key among tells.0)
    ∙ no_key (taken ++ label_of key.name ∷ []) label keys kept tells.2 (more_taken taken label (label_of key.name) among)

-- an element that passes
pub any_of : {X : Type 0} (test : X → Bool) (xs : List X) (i : ℕ) (x : X) → slice_get xs i ≡ Some x → test x ≡ true → list_any test xs ≡ true
any_of test [] i x at e = absurd cc
any_of test (y ∷ xs) zero x at e = let same : y ≡ x = cc in ap (λ b. b || list_any test xs) (ap test same ∙ e)
any_of test (y ∷ xs) (suc i) x at e = ap (λ b. test y || b) (any_of test xs i x at e) ∙ or_true (test y)
  where
    or_true : (b : Bool) → (b || true) ≡ true
    or_true true = refl
    or_true false = refl

-- the value that has the text of an entry
pub record Worded (key : Key) (entry : ℕ) : Type 0 where
  pub value : AttrValue
  pub at : value_at key.values entry ≡ Some value
  pub is : entry_text key entry ≡ value_text value

pub worded : (key : Key) (entry : ℕ) → is_some (entry_text key entry) ≡ true → Worded key entry
worded key entry e = by (value_at key.values entry) refl e
  where
    by : (o : Option AttrValue) → value_at key.values entry ≡ o → is_some (text_by o) ≡ true → Worded key entry
    by None at e = absurd cc
    by (Some value) at e = record { value = value; at = at; is = ap text_by at }

shows_text : (key : Key) (entry : ℕ) → is_some (entry_text key entry) ≡ true → has_text key ≡ true
shows_text key entry e =
    let w = worded key entry e in
    let n = named key.values entry w.value w.at in
    any_of (λ text. not (is_empty_text text)) (texts_of key) n.more (text_value w.value) (get_mapped key.values n.more w.value n.at) (ap is_some (sym w.is) ∙ e)

no_text : (key : Key) (entry : ℕ) → has_text key ≡ false → entry_text key entry ≡ []
no_text key entry e = by (is_some (entry_text key entry)) refl
  where
    by : (b : Bool) → is_some (entry_text key entry) ≡ b → entry_text key entry ≡ []
    by false is = none_is (entry_text key entry) is
    by true is = let wrong : true ≡ false = sym (shows_text key entry is) ∙ e in absurd cc

-- the entry of a key that has a text
pub record Seen (key : Key) (text : List ℕ) : Type 0 where
  pub entry : ℕ
  pub valid : is_entry (key_facts key) entry ≡ true
  pub is : text ≡ entry_text key entry

abbrev pub Fact : Option Key → List ℕ → Type 0
Fact None text = text ≡ []
Fact (Some key) text = Seen key text

pub fact : (taken : List (List ℕ)) (keys : List Key) (kept : List Bool) (set name : List ℕ) → Tells taken keys kept → is_full_set (map key_facts keys) set ≡ true
    → Fact (key_as keys kept name) (text_at (shown_keys keys kept (restricted kept set)) name)
fact taken [] kept set name tells full = refl
fact taken (key ∷ keys) [] set name tells full = refl
fact taken (key ∷ keys) (b ∷ kept) [] name tells full = absurd cc
fact taken (key ∷ keys) (false ∷ kept) (entry ∷ set) name tells full = fact taken keys kept set name tells (and_second (is_entry (key_facts key) entry) _ full)
fact taken (key ∷ keys) (true ∷ kept) (entry ∷ set) name tells full =
    subst (λ (text : List ℕ). Fact (key_as (key ∷ keys) (true ∷ kept) name) text) (sym (text_kept key keys kept entry (restricted kept set) name))
    (by (bytes_eq (label_of key.name) name) refl (has_text key) refl
    (fact (taken ++ label_of key.name ∷ []) keys kept set name tells.2 (and_second (is_entry (key_facts key) entry) _ full)))
  where
    rest : List ℕ
    rest = text_at (shown_keys keys kept (restricted kept set)) name

    others : List Key
    others = filter (is_shown_as name) (all_kept keys kept)

    by : (b : Bool) → bytes_eq (label_of key.name) name ≡ b → (d : Bool) → has_text key ≡ d → Fact (slice_get others 0) rest
        → Fact (slice_get (cond (b && d) (key ∷ others) others) 0) (cond b (pick (entry_text key entry) rest) rest)
    by false e d f later = later
    by true e true f later =
        let none = absent (taken ++ label_of key.name ∷ []) name keys kept (restricted kept set) tells.2 here_taken in
        record { entry = entry; valid = and_first (is_entry (key_facts key) entry) _ full; is = ap (pick (entry_text key entry)) none ∙ pick_none (entry_text key entry) }
      where
        here_taken : is_among (taken ++ label_of key.name ∷ []) name ≡ true
        here_taken = ap (is_among (taken ++ label_of key.name ∷ [])) (sym ((bytes_eq-Decides (label_of key.name) name).0 e)) ∙ among_last taken (label_of key.name)
    by true e false f later = subst (Fact (slice_get others 0)) (sym (ap (λ (text : List ℕ). pick text rest) (no_text key entry f))) later

-- a key without a text may be absent
pub lacks : (key : Key) → Seen key [] → may_lack key ≡ true
lacks key seen = by seen.entry seen.valid (sym seen.is)
  where
    or_true : (b : Bool) → (b || true) ≡ true
    or_true true = refl
    or_true false = refl

    by : (entry : ℕ) → is_entry (key_facts key) entry ≡ true → entry_text key entry ≡ [] → may_lack key ≡ true
    by zero valid e = ap (λ b. b || list_any is_empty_text (texts_of key)) valid
    by (suc n) valid e =
        let hidden = item_is key (suc n) ∙ ap (λ (text : List ℕ). cond (is_some text) (Some (label_of key.name, text)) None) e in
        let u = unshown key n valid hidden in
        let q = named key.values (suc n) u.value u.at in
        ap (λ b. key.optional || b) (any_of is_empty_text (texts_of key) q.more (text_value u.value) (get_mapped key.values q.more u.value q.at) (ap (λ (text : List ℕ). length text == 0) u.empty)) ∙ or_true key.optional

get_text : (values : List AttrValue) (i : ℕ) (value : AttrValue) → slice_get values i ≡ Some value → slice_get (map value_text values) i ≡ Some (value_text value)
get_text [] i value at = absurd cc
get_text (x ∷ values) zero value at = let same : x ≡ value = cc in ap (λ (v : AttrValue). Some (value_text v)) same
get_text (x ∷ values) (suc i) value at = get_text values i value at

-- two keys that have one text, of which the second may be absent
pub taking : (first key : Key) (text : List ℕ) → is_some text ≡ true → Seen first text → Seen key text → may_lack key ≡ true → takes (Some first) (Some key) ≡ true
taking first key text some f g lacking =
    let v = worded first f.entry (ap is_some (sym f.is) ∙ some) in
    let w = worded key g.entry (ap is_some (sym g.is) ∙ some) in
    let p = named first.values f.entry v.value v.at in
    let q = named key.values g.entry w.value w.at in
    let among = is_among (map value_text first.values) in
    let one : text ≡ value_text w.value = g.is ∙ w.is in
    let alike : value_text w.value ≡ value_text v.value = sym one ∙ f.is ∙ v.is in
    let there : among (value_text w.value) ≡ true = any_of (bytes_eq (value_text w.value)) (map value_text first.values) p.more (value_text v.value) (get_text first.values p.more v.value p.at)
    ((bytes_eq-Decides (value_text w.value) (value_text v.value)).1 alike) in
    let shared : is_shared among (text_value w.value) ≡ true = ap (λ b. b && among (value_text w.value)) (ap is_some (sym one) ∙ some) ∙ there in
    ap (λ b. b && list_any (is_shared among) (texts_of key)) lacking
    ∙ any_of (is_shared among) (texts_of key) q.more (text_value w.value) (get_mapped key.values q.more w.value q.at) shared

-- entries with one text are one
same_entry : (key : Key) (e f : ℕ) → are_confused key ≡ false → is_entry (key_facts key) e ≡ true → is_entry (key_facts key) f ≡ true → entry_text key e ≡ entry_text key f → e ≡ f
same_entry key e f clear p q same = by (item key e) refl
  where
    alike : item key f ≡ item key e
    alike = item_is key f ∙ ap (λ (text : List ℕ). cond (is_some text) (Some (label_of key.name, text)) None) (sym same) ∙ sym (item_is key e)

    by : (o : Option Label) → item key e ≡ o → e ≡ f
    by None is = same_hidden key e f clear p q is (alike ∙ is)
    by (Some x) is = same_shown key e f x x clear is (alike ∙ is) refl

-- sets whose keys have the same texts are one
pub one_set : (taken : List (List ℕ)) (keys : List Key) (kept : List Bool) (s t : List ℕ) → Tells taken keys kept → length kept ≡ length keys
    → is_full_set (map key_facts keys) s ≡ true → is_full_set (map key_facts keys) t ≡ true → length s ≡ length t
    → ((name : List ℕ) → text_at (shown_keys keys kept (restricted kept s)) name ≡ text_at (shown_keys keys kept (restricted kept t)) name)
    → restricted kept s ≡ restricted kept t
one_set taken [] [] s t tells same p q long e = zeros s t p q long
one_set taken [] (b ∷ kept) s t tells same p q long e = absurd (omega arith)
one_set taken (key ∷ keys) [] s t tells same p q long e = absurd (omega arith)
one_set taken (key ∷ keys) (b ∷ kept) [] t tells same p q long e = absurd cc
one_set taken (key ∷ keys) (b ∷ kept) (x ∷ s) [] tells same p q long e = absurd cc
one_set taken (key ∷ keys) (false ∷ kept) (x ∷ s) (y ∷ t) tells same p q long e =
    ap (λ (set : List ℕ). 0 ∷ set) (one_set taken keys kept s t tells (omega arith) (and_second (is_entry (key_facts key) x) _ p) (and_second (is_entry (key_facts key) y) _ q) (omega arith) e)
one_set taken (key ∷ keys) (true ∷ kept) (x ∷ s) (y ∷ t) tells same p q long e =
    build (λ alike. one_set (taken ++ label_of key.name ∷ []) keys kept s t tells.2 (omega arith) (and_second (is_entry (key_facts key) x) _ p) (and_second (is_entry (key_facts key) y) _ q) (omega arith) alike)
  where
    label : List ℕ
    label = label_of key.name

    one : List ℕ → List ℕ
    one name = text_at (shown_keys keys kept (restricted kept s)) name

    two : List ℕ → List ℕ
    two name = text_at (shown_keys keys kept (restricted kept t)) name

    both : (name : List ℕ) → cond (bytes_eq label name) (pick (entry_text key x) (one name)) (one name) ≡ cond (bytes_eq label name) (pick (entry_text key y) (two name)) (two name)
    both name = sym (text_kept key keys kept x (restricted kept s) name) ∙ e name ∙ text_kept key keys kept y (restricted kept t) name

    here : bytes_eq label label ≡ true
    here = (bytes_eq-Decides label label).1 refl

    none_one : one label ≡ []
    none_one = absent (taken ++ label ∷ []) label keys kept (restricted kept s) tells.2 (among_last taken label)

    none_two : two label ≡ []
    none_two = absent (taken ++ label ∷ []) label keys kept (restricted kept t) tells.2 (among_last taken label)

    texts : entry_text key x ≡ entry_text key y
    texts =
        sym (ap (λ b. cond b (pick (entry_text key x) (one label)) (one label)) here ∙ ap (pick (entry_text key x)) none_one ∙ pick_none (entry_text key x))
        ∙ both label
        ∙ ap (λ b. cond b (pick (entry_text key y) (two label)) (two label)) here ∙ ap (pick (entry_text key y)) none_two ∙ pick_none (entry_text key y)

    first : x ≡ y
    first = same_entry key x y tells.1 (and_first (is_entry (key_facts key) x) (is_full_set (map key_facts keys) s) p) (and_first (is_entry (key_facts key) y) (is_full_set (map key_facts keys) t) q) texts

    others : (name : List ℕ) → one name ≡ two name
    others name = by (bytes_eq label name) refl
      where
        by : (b : Bool) → bytes_eq label name ≡ b → one name ≡ two name
        by false f = sym (ap (λ b. cond b (pick (entry_text key x) (one name)) (one name)) f) ∙ both name ∙ ap (λ b. cond b (pick (entry_text key y) (two name)) (two name)) f
        by true f = let same = (bytes_eq-Decides label name).0 f in ap one (sym same) ∙ none_one ∙ sym none_two ∙ ap two same

    build : (((name : List ℕ) → one name ≡ two name) → restricted kept s ≡ restricted kept t) → x ∷ restricted kept s ≡ y ∷ restricted kept t
    build later = λ i. first i ∷ later others i
