-- Series of a stream whose reader passes are told apart by their labels.
use Rattle.std.proofs.Common.{◌≡◌, ℕ, zero, suc, ◌+◌, ◌-◌, ◌<◌, Bool, true, false, cond, not, ◌&&◌, ◌||◌, List, [], ◌∷◌, ◌++◌, length, map, take, Option, Some, None, refl, sym, ap, ◌∙◌, arith, ◌==◌, append_assoc}
use Rattle.std.specs.Prelude.{is_some as is_there, nat_le, slice_get}
use Rattle.std.specs.List.{cons_option, list_all, list_any}
use Rattle.std.specs.Option.{option_map}
use Rattle.std.specs.Str.{bytes_eq}
use Rattle.std.proofs.lemmas.Bool.Decides.{nat_tests}
use Rattle.std.proofs.lemmas.List.{append-nil, append_cancel_right}
use Rattle.std.proofs.lemmas.List.Elements.{filter-append}
use Rattle.std.proofs.lemmas.List.Folds.{list_any-append}
use Rattle.std.proofs.lemmas.Slice.Eq.{bytes_eq-Decides}
use Rattle.metric_combinations.specs.Restrictions.{restricted}
use Rattle.metric_names.specs.declared.value.AttrValue.{AttrValue}
use Rattle.metric_names.specs.declared.value.AttrValue.TheVariants.{Text}
use Rattle.metric_names.specs.Values.{value_text}
use Rattle.metric_contents.specs.declared.contents.Key.{Key}
use Rattle.metric_contents.specs.PlaceLaws.{or_else, position_from-push}
use Rattle.metric_contents.specs.Places.{has_repeat, place, repeats_after, same_value}
use Rattle.metric_facts.specs.Facts.{is_entry, is_full_set, key_facts}
use Rattle.metric_lines.specs.Keys.{attributes_of, kept_names, value_at}
use Rattle.metric_family.specs.Labels.{Label, attribute_label, label_of, point_labels, scope_labels, shown}
use Rattle.metric_family.specs.Words.{is_among, is_some}
use Rattle.metric_exposure.specs.Exposures.{reserved_of}
use Rattle.metric_exposure.specs.Sources.{keys_of}
use Rattle.metric_exposure.specs.KeyFaults.{are_confused}
use Rattle.metric_exposure.specs.KeyTexts.{is_empty_text, text_value, texts_of}
use Rattle.metric_exposure.specs.Laws.{SeriesAreApart}
use Rattle.metric_exposure.proofs.Passing.{key_passes}

pub suc_is : (n : ℕ) → (suc n == 0) ≡ false
suc_is n = grind (arith, nat_tests)

-- what is shown of a key
abbrev pub item_by : Key → Option AttrValue → Option Label
item_by key None = None
item_by key (Some value) = cond (is_some (value_text value)) (Some (label_of key.name, value_text value)) None

abbrev pub item : Key → ℕ → Option Label
item key entry = item_by key (value_at key.values entry)

-- what is shown of the keys
abbrev pub shown_keys : List Key → List Bool → List ℕ → List Label
shown_keys keys kept set = shown (map attribute_label (attributes_of keys kept set))

pub shown_kept : (key : Key) (keys : List Key) (kept : List Bool) (entry : ℕ) (set : List ℕ)
    → shown_keys (key ∷ keys) (true ∷ kept) (entry ∷ set) ≡ cons_option (item key entry) (shown_keys keys kept set)
shown_kept key keys kept entry set = by (value_at key.values entry)
  where
    shows : (value : AttrValue) (b : Bool) → cond b ((label_of key.name, value_text value) ∷ shown_keys keys kept set) (shown_keys keys kept set)
        ≡ cons_option (cond b (Some (label_of key.name, value_text value)) None) (shown_keys keys kept set)
    shows value true = refl
    shows value false = refl

    by : (o : Option AttrValue) → shown (map attribute_label (cons_option (option_map (λ value. (key.name, value)) o) (attributes_of keys kept set)))
        ≡ cons_option (item_by key o) (shown_keys keys kept set)
    by None = refl
    by (Some value) = shows value (is_some (value_text value))

-- the label of what is shown
item_label : (key : Key) (o : Option AttrValue) (x : Label) → item_by key o ≡ Some x → x.0 ≡ label_of key.name
item_label key None x e = absurd cc
item_label key (Some value) x e = by (is_some (value_text value)) e
  where
    by : (b : Bool) → cond b (Some (label_of key.name, value_text value)) None ≡ Some x → x.0 ≡ label_of key.name
    by true e = let same : (label_of key.name, value_text value) ≡ x = cc in sym (ap (λ (y : Label). y.0) same)
    by false e = absurd cc

-- the keys tell series apart, where these labels are taken before them
abbrev pub Tells : List (List ℕ) → List Key → List Bool → Type 0
Tells taken [] kept = Unit {0}
Tells taken (key ∷ keys) [] = Unit {0}
Tells taken (key ∷ keys) (true ∷ kept) = (is_among taken (label_of key.name) ≡ false) × (are_confused key ≡ false) × Tells (taken ++ label_of key.name ∷ []) keys kept
Tells taken (key ∷ keys) (false ∷ kept) = Tells taken keys kept

-- the first label that is shown is none of those that are taken
pub fresh : (taken : List (List ℕ)) (label : List ℕ) (keys : List Key) (kept : List Bool) (set : List ℕ) (x : Label) (others : List Label) → Tells taken keys kept
    → is_among taken label ≡ true → shown_keys keys kept set ≡ x ∷ others → x.0 ≡ label → ⊥
fresh taken label [] kept set x others tells among e is = cc
fresh taken label (key ∷ keys) [] set x others tells among e is = cc
fresh taken label (key ∷ keys) (b ∷ kept) [] x others tells among e is = cc
fresh taken label (key ∷ keys) (false ∷ kept) (entry ∷ set) x others tells among e is = fresh taken label keys kept set x others tells among e is
fresh taken label (key ∷ keys) (true ∷ kept) (entry ∷ set) x others tells among e is =
    let more : is_among (taken ++ label_of key.name ∷ []) label ≡ true =
    list_any-append (bytes_eq label) taken (label_of key.name ∷ []) ∙ ap (λ b. b || is_among (label_of key.name ∷ []) label) among in
    by (item key entry) refl (sym (shown_kept key keys kept entry set) ∙ e) (λ h. fresh (taken ++ label_of key.name ∷ []) label keys kept set x others tells.2 more h is)
  where
    by : (o : Option Label) → item key entry ≡ o → cons_option o (shown_keys keys kept set) ≡ x ∷ others → (shown_keys keys kept set ≡ x ∷ others → ⊥) → ⊥
    by None at e later = later e
    by (Some y) at e later =
        let same : y ≡ x = cc in
        let named = item_label key (value_at key.values entry) y at in
        let one : label ≡ label_of key.name = sym is ∙ sym (ap (λ (z : Label). z.0) same) ∙ named in
        let wrong : true ≡ false = sym among ∙ ap (is_among taken) one ∙ tells.0 in
        cc

-- values of a list without repetition have one place
same_text : (text : List ℕ) → same_value (Text text) (Text text) ≡ true
same_text text = (bytes_eq-Decides text text).1 refl

not_first : (before : List AttrValue) (value w : AttrValue) → place (before ++ value ∷ []) w ≡ None → place before w ≡ None
not_first before value w e = by (place before w) (sym (position_from-push (same_value w) 0 before value) ∙ e)
  where
    by : (o : Option ℕ) → or_else o (cond (same_value w value) (Some (0 + length before)) None) ≡ None → o ≡ None
    by None e = refl
    by (Some n) e = absurd cc

not_last : (before : List AttrValue) (value w : AttrValue) → place (before ++ value ∷ []) w ≡ None → same_value w value ≡ false
not_last before value w e = by (place before w) (same_value w value) (sym (position_from-push (same_value w) 0 before value) ∙ e)
  where
    by : (o : Option ℕ) (b : Bool) → or_else o (cond b (Some (0 + length before)) None) ≡ None → b ≡ false
    by (Some n) b e = absurd cc
    by None true e = absurd cc
    by None false e = refl

pub or_first : (a b : Bool) → (a || b) ≡ false → a ≡ false
or_first true b e = e
or_first false b e = refl

or_second : (a b : Bool) → (a || b) ≡ false → b ≡ false
or_second true b e = absurd cc
or_second false b e = e

not_there : (o : Option ℕ) → is_there o ≡ false → o ≡ None
not_there None e = refl
not_there (Some n) e = absurd cc

later_new : (before values : List AttrValue) (j : ℕ) (w : AttrValue) → repeats_after before values ≡ false → slice_get values j ≡ Some w → place before w ≡ None
later_new before [] j w e at = absurd cc
later_new before (value ∷ values) zero w e at =
    let same : value ≡ w = cc in
    ap (place before) (sym same) ∙ not_there (place before value) (or_first (is_there (place before value)) (repeats_after (before ++ value ∷ []) values) e)
later_new before (value ∷ values) (suc j) w e at =
    not_first before value w (later_new (before ++ value ∷ []) values j w (or_second (is_there (place before value)) (repeats_after (before ++ value ∷ []) values) e) at)

one_place : (before values : List AttrValue) (i j : ℕ) (text : List ℕ) → repeats_after before values ≡ false → slice_get values i ≡ Some (Text text)
    → slice_get values j ≡ Some (Text text) → i ≡ j
one_place before [] i j text e at also = absurd cc
one_place before (value ∷ values) zero zero text e at also = refl
one_place before (value ∷ values) zero (suc j) text e at also =
    let rest = or_second (is_there (place before value)) (repeats_after (before ++ value ∷ []) values) e in
    let same : value ≡ Text text = cc in
    let apart = not_last before value (Text text) (later_new (before ++ value ∷ []) values j (Text text) rest also) in
    let wrong : true ≡ false = sym (same_text text) ∙ ap (same_value (Text text)) (sym same) ∙ apart in
    absurd cc
one_place before (value ∷ values) (suc i) zero text e at also =
    let rest = or_second (is_there (place before value)) (repeats_after (before ++ value ∷ []) values) e in
    let same : value ≡ Text text = cc in
    let apart = not_last before value (Text text) (later_new (before ++ value ∷ []) values i (Text text) rest at) in
    let wrong : true ≡ false = sym (same_text text) ∙ ap (same_value (Text text)) (sym same) ∙ apart in
    absurd cc
one_place before (value ∷ values) (suc i) (suc j) text e at also =
    ap suc (one_place (before ++ value ∷ []) values i j text (or_second (is_there (place before value)) (repeats_after (before ++ value ∷ []) values) e) at also)

pub get_mapped : (values : List AttrValue) (i : ℕ) (value : AttrValue) → slice_get values i ≡ Some value → slice_get (map text_value values) i ≡ Some (text_value value)
get_mapped [] i value at = absurd cc
get_mapped (x ∷ values) zero value at = let same : x ≡ value = cc in ap (λ (v : AttrValue). Some (text_value v)) same
get_mapped (x ∷ values) (suc i) value at = get_mapped values i value at

-- the value that an entry names
pub record Named (values : List AttrValue) (entry : ℕ) (value : AttrValue) : Type 0 where
  pub more : ℕ
  pub is : entry ≡ suc more
  pub at : slice_get values more ≡ Some value

pub named : (values : List AttrValue) (entry : ℕ) (value : AttrValue) → value_at values entry ≡ Some value → Named values entry value
named values zero value e = absurd cc
named values (suc n) value e =
    let less : suc n - 1 ≡ n = omega arith in
    let at = rw (suc_is n, less) at e in
    record { more = n; is = refl; at = at }

-- two entries whose values have one text
one_text : (key : Key) (e f : ℕ) (v w : AttrValue) → are_confused key ≡ false → value_at key.values e ≡ Some v → value_at key.values f ≡ Some w → value_text v ≡ value_text w → e ≡ f
unfolding are_confused
one_text key e f v w clear at also same =
    let p = named key.values e v at in
    let q = named key.values f w also in
    let distinct = or_second (key.optional && list_any is_empty_text (texts_of key)) (has_repeat (texts_of key)) clear in
    let one = get_mapped key.values p.more v p.at in
    let two = get_mapped key.values q.more w q.at ∙ ap (λ (t : List ℕ). Some (Text t)) (sym same) in
    p.is ∙ ap suc (one_place [] (texts_of key) p.more q.more (value_text v) distinct one two) ∙ sym q.is

any_at : (values : List AttrValue) (i : ℕ) (value : AttrValue) → slice_get values i ≡ Some value → is_empty_text value ≡ true → list_any is_empty_text values ≡ true
any_at [] i value at e = absurd cc
any_at (x ∷ values) zero value at e = let same : x ≡ value = cc in ap (λ b. b || list_any is_empty_text values) (ap is_empty_text same ∙ e)
any_at (x ∷ values) (suc i) value at e = ap (λ b. is_empty_text x || b) (any_at values i value at e) ∙ or_true (is_empty_text x)
  where
    or_true : (b : Bool) → (b || true) ≡ true
    or_true true = refl
    or_true false = refl

empty_text : (text : List ℕ) → is_some text ≡ false → text ≡ []
empty_text [] e = refl
empty_text (c ∷ text) e =
    let wrong : true ≡ false = sym (ap not (suc_is (length text))) ∙ e in
    absurd cc

get_below : (values : List AttrValue) (n : ℕ) → n < length values → slice_get values n ≡ None → ⊥
get_below [] n less e = omega arith
get_below (x ∷ values) zero less e = cc
get_below (x ∷ values) (suc n) less e = get_below values n (omega arith) e

-- what is not shown of a key that an entry is of
pub record Unshown (key : Key) (entry : ℕ) : Type 0 where
  pub value : AttrValue
  pub at : value_at key.values entry ≡ Some value
  pub empty : value_text value ≡ []

pub unshown : (key : Key) (n : ℕ) → is_entry (key_facts key) (suc n) ≡ true → item key (suc n) ≡ None → Unshown key (suc n)
unshown key n valid e = by (value_at key.values (suc n)) refl e
  where
    hidden : (value : AttrValue) (b : Bool) → is_some (value_text value) ≡ b → value_at key.values (suc n) ≡ Some value → cond {A = Option Label} b (Some (label_of key.name, value_text value)) None ≡ None → Unshown key (suc n)
    hidden value true is at e = absurd cc
    hidden value false is at e = record { value = value; at = at; empty = empty_text (value_text value) is }

    by : (o : Option AttrValue) → value_at key.values (suc n) ≡ o → item_by key o ≡ None → Unshown key (suc n)
    by None at e =
        let less : suc n - 1 ≡ n = omega arith in
        let entry : nat_le (suc n) (length key.values) ≡ true = rw (suc_is n) at valid in
        let within : n < length key.values = grind (arith, nat_tests) in
        let none = rw (suc_is n, less) at at in
        absurd (get_below key.values n within none)
    by (Some value) at e = hidden value (is_some (value_text value)) refl at e

-- An absent key is optional, and so has no empty text.
not_absent : (key : Key) (f : ℕ) → are_confused key ≡ false → is_entry (key_facts key) 0 ≡ true → Unshown key f → ⊥
unfolding are_confused
not_absent key f clear optional u =
    let q = named key.values f u.value u.at in
    let text = get_mapped key.values q.more u.value q.at in
    let empty : is_empty_text (text_value u.value) ≡ true = ap (λ (t : List ℕ). length t == 0) u.empty in
    let some = any_at (texts_of key) q.more (text_value u.value) text empty in
    let none = or_first (key.optional && list_any is_empty_text (texts_of key)) (has_repeat (texts_of key)) clear in
    let wrong : true ≡ false = sym (ap (λ b. b && list_any is_empty_text (texts_of key)) optional ∙ some) ∙ none in
    cc

pub same_hidden : (key : Key) (e f : ℕ) → are_confused key ≡ false → is_entry (key_facts key) e ≡ true → is_entry (key_facts key) f ≡ true → item key e ≡ None → item key f ≡ None → e ≡ f
same_hidden key zero zero clear p q g h = refl
same_hidden key zero (suc f) clear p q g h = absurd (not_absent key (suc f) clear p (unshown key f q h))
same_hidden key (suc e) zero clear p q g h = absurd (not_absent key (suc e) clear q (unshown key e p g))
same_hidden key (suc e) (suc f) clear p q g h =
    let u = unshown key e p g in
    let v = unshown key f q h in
    one_text key (suc e) (suc f) u.value v.value clear u.at v.at (u.empty ∙ sym v.empty)

-- the value of what is shown
record Shows (key : Key) (entry : ℕ) (x : Label) : Type 0 where
  value : AttrValue
  at : value_at key.values entry ≡ Some value
  is : value_text value ≡ x.1

shows_of : (key : Key) (entry : ℕ) (x : Label) → item key entry ≡ Some x → Shows key entry x
shows_of key entry x e = by (value_at key.values entry) refl e
  where
    told : (value : AttrValue) (b : Bool) → value_at key.values entry ≡ Some value → cond b (Some (label_of key.name, value_text value)) None ≡ Some x → Shows key entry x
    told value true at e = let same : (label_of key.name, value_text value) ≡ x = cc in record { value = value; at = at; is = ap (λ (y : Label). y.1) same }
    told value false at e = absurd cc

    by : (o : Option AttrValue) → value_at key.values entry ≡ o → item_by key o ≡ Some x → Shows key entry x
    by None at e = absurd cc
    by (Some value) at e = told value (is_some (value_text value)) at e

pub same_shown : (key : Key) (e f : ℕ) (x y : Label) → are_confused key ≡ false → item key e ≡ Some x → item key f ≡ Some y → x ≡ y → e ≡ f
same_shown key e f x y clear g h same =
    let p = shows_of key e x g in
    let q = shows_of key f y h in
    one_text key e f p.value q.value clear p.at q.at (p.is ∙ ap (λ (z : Label). z.1) same ∙ sym q.is)

-- set keys that have no keys are all zeros
pub zeros : (s t : List ℕ) → list_all (λ entry. entry == 0) s ≡ true → list_all (λ entry. entry == 0) t ≡ true → length s ≡ length t → s ≡ t
zeros [] [] p q long = refl
zeros [] (f ∷ t) p q long = absurd (omega arith)
zeros (e ∷ s) [] p q long = absurd (omega arith)
zeros (zero ∷ s) (zero ∷ t) p q long = ap (λ (xs : List ℕ). 0 ∷ xs) (zeros s t p q (omega arith))
zeros (suc e ∷ s) (f ∷ t) p q long =
    let wrong : false ≡ true = sym (ap (λ b. b && list_all (λ entry. entry == 0) s) (suc_is e)) ∙ p in
    absurd cc
zeros (zero ∷ s) (suc f ∷ t) p q long =
    let wrong : false ≡ true = sym (ap (λ b. b && list_all (λ entry. entry == 0) t) (suc_is f)) ∙ q in
    absurd cc

pub and_first : (a b : Bool) → (a && b) ≡ true → a ≡ true
and_first true b e = refl
and_first false b e = e

pub and_second : (a b : Bool) → (a && b) ≡ true → b ≡ true
and_second true b e = e
and_second false b e = absurd cc

pub among_last : (taken : List (List ℕ)) (label : List ℕ) → is_among (taken ++ label ∷ []) label ≡ true
among_last [] label = ap (λ b. b || false) ((bytes_eq-Decides label label).1 refl)
among_last (x ∷ taken) label = ap (λ b. bytes_eq label x || b) (among_last taken label) ∙ or_true (bytes_eq label x)
  where
    or_true : (b : Bool) → (b || true) ≡ true
    or_true true = refl
    or_true false = refl

apart : (taken : List (List ℕ)) (keys : List Key) (kept : List Bool) (s t : List ℕ) → Tells taken keys kept → length kept ≡ length keys
    → is_full_set (map key_facts keys) s ≡ true → is_full_set (map key_facts keys) t ≡ true → length s ≡ length t
    → shown_keys keys kept (restricted kept s) ≡ shown_keys keys kept (restricted kept t) → restricted kept s ≡ restricted kept t
apart taken [] [] s t tells same p q long e = zeros s t p q long
apart taken [] (b ∷ kept) s t tells same p q long e = absurd (omega arith)
apart taken (key ∷ keys) [] s t tells same p q long e = absurd (omega arith)
apart taken (key ∷ keys) (b ∷ kept) [] t tells same p q long e = absurd cc
apart taken (key ∷ keys) (b ∷ kept) (x ∷ s) [] tells same p q long e = absurd cc
apart taken (key ∷ keys) (false ∷ kept) (x ∷ s) (y ∷ t) tells same p q long e =
    ap (λ (set : List ℕ). 0 ∷ set) (apart taken keys kept s t tells (omega arith) (and_second (is_entry (key_facts key) x) _ p) (and_second (is_entry (key_facts key) y) _ q) (omega arith) e)
apart taken (key ∷ keys) (true ∷ kept) (x ∷ s) (y ∷ t) tells same p q long e =
    by (item key x) (item key y) refl refl
    (sym (shown_kept key keys kept x (restricted kept s)) ∙ e ∙ shown_kept key keys kept y (restricted kept t))
    (λ h. apart (taken ++ label_of key.name ∷ []) keys kept s t tells.2 (omega arith) (and_second (is_entry (key_facts key) x) _ p) (and_second (is_entry (key_facts key) y) _ q) (omega arith) h)
  where
    both : x ≡ y → restricted kept s ≡ restricted kept t → x ∷ restricted kept s ≡ y ∷ restricted kept t
    both g h = λ i. g i ∷ h i

    by : (o r : Option Label) → item key x ≡ o → item key y ≡ r
        → cons_option o (shown_keys keys kept (restricted kept s)) ≡ cons_option r (shown_keys keys kept (restricted kept t))
        → (shown_keys keys kept (restricted kept s) ≡ shown_keys keys kept (restricted kept t) → restricted kept s ≡ restricted kept t)
        → x ∷ restricted kept s ≡ y ∷ restricted kept t
    by None None g h e later = both (same_hidden key x y tells.1 (and_first (is_entry (key_facts key) x) (is_full_set (map key_facts keys) s) p) (and_first (is_entry (key_facts key) y) (is_full_set (map key_facts keys) t) q) g h) (later e)
    by (Some a) (Some b) g h e later =
        let one : a ≡ b = cc in
        let rest : shown_keys keys kept (restricted kept s) ≡ shown_keys keys kept (restricted kept t) = cc in
        both (same_shown key x y a b tells.1 g h one) (later rest)
    by (Some a) None g h e later =
        absurd (fresh (taken ++ label_of key.name ∷ []) (label_of key.name) keys kept (restricted kept t) a (shown_keys keys kept (restricted kept s)) tells.2
        (among_last taken (label_of key.name)) (sym e) (item_label key (value_at key.values x) a g))
    by None (Some b) g h e later =
        absurd (fresh (taken ++ label_of key.name ∷ []) (label_of key.name) keys kept (restricted kept s) b (shown_keys keys kept (restricted kept t)) tells.2
        (among_last taken (label_of key.name)) e (item_label key (value_at key.values y) b h))

-- what holds of each kept key, of these that are taken before it
abbrev pub Clear : List (List ℕ) → List Key → List Bool → Type 0
Clear taken keys kept =
    (place : ℕ) (key : Key) → slice_get keys place ≡ Some key → slice_get kept place ≡ Some true
    → (is_among (taken ++ map label_of (kept_names (take place keys) (take place kept))) (label_of key.name) ≡ false) × (are_confused key ≡ false)

pub tells_of : (taken : List (List ℕ)) (keys : List Key) (kept : List Bool) → Clear taken keys kept → Tells taken keys kept
tells_of taken [] kept clear = tt
tells_of taken (key ∷ keys) [] clear = tt
tells_of taken (key ∷ keys) (true ∷ kept) clear =
    let first = clear 0 key refl refl in (
      ap (λ (labels : List (List ℕ)). is_among labels (label_of key.name)) (sym (append-nil taken)) ∙ first.0,
      first.1,
      tells_of (taken ++ label_of key.name ∷ []) keys kept (λ place other at also.
          let later = clear (suc place) other at also in
          let names = map label_of (kept_names (take place keys) (take place kept)) in
          (ap (λ (labels : List (List ℕ)). is_among labels (label_of other.name)) (append_assoc taken (label_of key.name ∷ []) names) ∙ later.0, later.1)),
    )
tells_of taken (key ∷ keys) (false ∷ kept) clear = tells_of taken keys kept (λ place other at also. clear (suc place) other at also)

pub series_are_apart : SeriesAreApart
unfolding point_labels
series_are_apart contents streams reader number stream meter set other p same full also long e =
    let keys = keys_of contents stream in
    let kept = stream.kept in
    let one = filter-append (λ (label : Label). is_some label.1) (map attribute_label (attributes_of keys kept (restricted kept set))) (scope_labels meter) in
    let two = filter-append (λ (label : Label). is_some label.1) (map attribute_label (attributes_of keys kept (restricted kept other))) (scope_labels meter) in
    let keyed = append_cancel_right (shown_keys keys kept (restricted kept set)) (shown_keys keys kept (restricted kept other)) (shown (scope_labels meter)) (sym one ∙ e ∙ two) in
    apart (reserved_of contents stream) keys kept set other (tells_of (reserved_of contents stream) keys kept (key_passes contents streams reader number stream p)) same full also long keyed
