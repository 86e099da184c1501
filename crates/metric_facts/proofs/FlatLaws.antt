-- What the bytes of facts begin with determines each field, and so the bytes determine the facts.
use Rattle.std.proofs.Common.{◌≡◌, ℕ, zero, suc, ◌+◌, ◌*◌, ◌/◌, ◌%◌, ◌≤◌, ℤ, pos, negsuc, Bool, true, false, cond, List, [], ◌∷◌, ◌++◌, length, take, drop, Option, Some, None, nat_lt, refl, sym, ap, subst, ◌∙◌, append_assoc, int_lt, unsigned_abs, true≢false, pred, ◌&&◌, add-one, arith}
use Rattle.std.specs.Bool.{Decides}
use Rattle.std.specs.Cmp.{signed_Decides}
use Rattle.std.specs.Cmp.Lexicographic.{pointwise}
use Rattle.std.specs.Ordering.{int_eq}
use Rattle.std.specs.List.{list_all}
use Rattle.std.specs.Prelude.{find, ◌==◌}
use Rattle.std.specs.Str.{bytes_eq}
use Rattle.std.proofs.lemmas.Bool.{and_parts, eqb-true, ltb-true, ltb-false, le-ltb}
use Rattle.std.proofs.lemmas.List.{length-take}
use Rattle.std.proofs.lemmas.Nat.{div-add-mod'}
use Rattle.std.proofs.lemmas.Slice.Eq.{bytes_eq-Decides, slice_eq-Decides}
use Rattle.metric_contents.specs.declared.contents.Kind.{Kind}
use Rattle.metric_contents.specs.declared.contents.Kind.TheVariants.{Counter, UpDownCounter, Histogram, Gauge}
use Rattle.metric_views.specs.declared.choices.Temporality.{Temporality}
use Rattle.metric_views.specs.declared.choices.Temporality.TheVariants.{Delta, Cumulative}
use Rattle.metric_views.specs.declared.stream.StreamAggregation.{StreamAggregation}
use Rattle.metric_views.specs.declared.stream.StreamAggregation.TheVariants as aggregations
use Rattle.metric_facts.specs.declared.facts.FactsFields.{FactsFields}
use Rattle.metric_facts.specs.declared.facts.KeyFacts.{KeyFacts}
use Rattle.metric_facts.specs.declared.facts.NumberedStream.{NumberedStream}
use Rattle.metric_facts.specs.Facts.{is_delta_temporality}
use Rattle.metric_facts.specs.FullSetLaws.{zeros_same}
use Rattle.metric_facts.specs.Flat.{groups, flat_number, flag_number, flat_flag, flat_signed, flat_each, flat_list, flat_text, flat_key, view_number, kind_number, aggregation_number, boundaries_of, Details, details_of, is_same_details, flat_details, repeats, flat_details_after, is_of_view, last_of_view, flat_stream, flat_streams, is_of_keys, flat_row, flat_rows, flat_allowed, flat_facts, facts_eq}

-- the front of a list determines the value
abbrev Reads : {X : Type 0} → (X → List ℕ) → Type 0
Reads {X} flat = (x y : X) (r s : List ℕ) → flat x ++ r ≡ flat y ++ s → (x ≡ y) × (r ≡ s)

-- one value after the other
pair : {X Y : Type 0} → (X → List ℕ) → (Y → List ℕ) → X × Y → List ℕ
pair f g p = f p.0 ++ g p.1

both : {X Y : Type 0} (f : X → List ℕ) (g : Y → List ℕ) → Reads f → Reads g → Reads (pair f g)
unfolding pair
both f g first second p q r s e =
    let a : (p.0 ≡ q.0) × (g p.1 ++ r ≡ g q.1 ++ s) = first p.0 q.0 (g p.1 ++ r) (g q.1 ++ s) (sym (append_assoc (f p.0) (g p.1) r) ∙ e ∙ append_assoc (f q.0) (g q.1) s) in
    let b : (p.1 ≡ q.1) × (r ≡ s) = second p.1 q.1 r s a.1 in
    (λ i. (a.0 i, b.0 i), b.1)

-- one value after the other, whose form the first tells
after : {X Y : Type 0} (f : X → List ℕ) (g : X → Y → List ℕ) → Reads f → ((x : X) → Reads (g x)) → Reads (λ (p : X × Y). f p.0 ++ g p.0 p.1)
after f g first second p q r s e =
    let a : (p.0 ≡ q.0) × (g p.0 p.1 ++ r ≡ g q.0 q.1 ++ s) =
    first p.0 q.0 (g p.0 p.1 ++ r) (g q.0 q.1 ++ s) (sym (append_assoc (f p.0) (g p.0 p.1) r) ∙ e ∙ append_assoc (f q.0) (g q.0 q.1) s) in
    let b : (p.1 ≡ q.1) × (r ≡ s) = second q.0 p.1 q.1 r s (ap (λ x. g x p.1 ++ r) (sym a.0) ∙ a.1) in
    (λ i. (a.0 i, b.0 i), b.1)

-- a value by parts that determine it
by_parts : {X P : Type 0} (flat : P → List ℕ) (parts : X → P) → Reads flat → ((x y : X) → parts x ≡ parts y → x ≡ y) → Reads (λ (x : X). flat (parts x))
by_parts flat parts reads same x y r s e =
    let found : (parts x ≡ parts y) × (r ≡ s) = reads (parts x) (parts y) r s e in
    (same x y found.0, found.1)

heads : (m n : ℕ) (r s : List ℕ) → (m ∷ r) ≡ (n ∷ s) → (m ≡ n) × (r ≡ s)
heads m n r s e = (cc, cc)

one : Reads (λ (n : ℕ). n ∷ [])
one m n r s e = heads m n r s e

groups_read : (more m n : ℕ) (r s : List ℕ) → groups more m ++ r ≡ groups more n ++ s → (m ≡ n) × (r ≡ s)
groups_read zero m n r s e = heads m n r s e
groups_read (suc more) m n r s e = at (groups_read more (m / 128) (n / 128) r s) (nat_lt m 128) (nat_lt n 128) refl refl e
  where
    joined : (m n : ℕ) → m % 128 ≡ n % 128 → m / 128 ≡ n / 128 → m ≡ n
    joined m n rest quotient =
        sym (div-add-mod' m 128) ∙ ap (λ (q : ℕ). q * 128 + m % 128) quotient ∙ ap (λ (k : ℕ). n / 128 * 128 + k) rest ∙ div-add-mod' n 128

    at : (groups more (m / 128) ++ r ≡ groups more (n / 128) ++ s → (m / 128 ≡ n / 128) × (r ≡ s)) → (p q : Bool) → nat_lt m 128 ≡ p → nat_lt n 128 ≡ q
        → cond p (m ∷ []) ((m % 128 + 128) ∷ groups more (m / 128)) ++ r ≡ cond q (n ∷ []) ((n % 128 + 128) ∷ groups more (n / 128)) ++ s
        → (m ≡ n) × (r ≡ s)
    at ih true true is_m is_n e = heads m n r s e
    at ih true false is_m is_n e =
        let same : m ≡ n % 128 + 128 = (heads m (n % 128 + 128) r (groups more (n / 128) ++ s) e).0 in
        absurd (omega (arith, same, ltb-true m 128 is_m))
    at ih false true is_m is_n e =
        let same : m % 128 + 128 ≡ n = (heads (m % 128 + 128) n (groups more (m / 128) ++ r) s e).0 in
        absurd (omega (arith, same, ltb-true n 128 is_n))
    at ih false false is_m is_n e =
        let first : (m % 128 + 128 ≡ n % 128 + 128) × (groups more (m / 128) ++ r ≡ groups more (n / 128) ++ s) = heads (m % 128 + 128) (n % 128 + 128) (groups more (m / 128) ++ r) (groups more (n / 128) ++ s) e in
        let rest : (m / 128 ≡ n / 128) × (r ≡ s) = ih first.1 in
        (joined m n (omega (arith, first.0)) rest.0, rest.1)

-- more room changes nothing
stable : (j k n : ℕ) → n ≤ j → n ≤ k → groups j n ≡ groups k n
stable zero zero n low_j low_k = refl
stable zero (suc k) n low_j low_k = let none : n ≡ 0 = omega arith in subst (λ (m : ℕ). groups zero m ≡ groups (suc k) m) (sym none) refl
stable (suc j) zero n low_j low_k = let none : n ≡ 0 = omega arith in subst (λ (m : ℕ). groups (suc j) m ≡ groups zero m) (sym none) refl
stable (suc j) (suc k) n low_j low_k = at (stable j k (n / 128)) (nat_lt n 128) refl
  where
    at : (n / 128 ≤ j → n / 128 ≤ k → groups j (n / 128) ≡ groups k (n / 128)) → (b : Bool) → nat_lt n 128 ≡ b → cond b (n ∷ []) ((n % 128 + 128) ∷ groups j (n / 128)) ≡ cond b (n ∷ []) ((n % 128 + 128) ∷ groups k (n / 128))
    at ih true is = refl
    at ih false is =
        let large : 128 ≤ n = ltb-false n 128 is in
        let less : n / 128 * 128 + n % 128 ≡ n = div-add-mod' n 128 in
        ap (λ (rest : List ℕ). (n % 128 + 128) ∷ rest) (ih (omega (arith, less, large, low_j)) (omega (arith, less, large, low_k)))

pub number_more : (n : ℕ) → 128 ≤ n → flat_number n ≡ (n % 128 + 128) ∷ flat_number (n / 128)
number_more zero large = absurd (omega (arith, large))
number_more (suc n) large =
    let less : suc n / 128 * 128 + suc n % 128 ≡ suc n = div-add-mod' (suc n) 128 in
    ap (λ (b : Bool). cond b (suc n ∷ []) ((suc n % 128 + 128) ∷ groups n (suc n / 128))) (le-ltb (suc n) 128 large)
    ∙ ap (λ (rest : List ℕ). (suc n % 128 + 128) ∷ rest) (stable n (suc n / 128) (suc n / 128) (omega (arith, less, large)) (omega (arith, less, large)))

number : Reads flat_number
number m n r s e =
    groups_read (m + n) m n r s
    (ap (λ (bytes : List ℕ). bytes ++ r) (stable (m + n) m m (omega arith) (omega arith)) ∙ e
    ∙ ap (λ (bytes : List ℕ). bytes ++ s) (stable n (m + n) n (omega arith) (omega arith)))

flag_same : (a b : Bool) → flag_number a ≡ flag_number b → a ≡ b
flag_same true true e = refl
flag_same true false e = absurd (omega (arith, e))
flag_same false true e = absurd (omega (arith, e))
flag_same false false e = refl

flag : Reads flat_flag
flag = by_parts (λ (n : ℕ). n ∷ []) flag_number one flag_same

-- whether a number is negative, and how far it is from 0
abbrev sign_and_size : ℤ → Bool × ℕ
sign_and_size n = (int_lt n (pos 0), unsigned_abs n)

signed_same : (a b : ℤ) → sign_and_size a ≡ sign_and_size b → a ≡ b
signed_same (pos m) (pos n) e = ap (λ (p : Bool × ℕ). pos p.1) e
signed_same (pos m) (negsuc n) e = absurd (omega (arith, ltb-true m 0 (ap (λ (p : Bool × ℕ). p.0) e)))
signed_same (negsuc m) (pos n) e = absurd (omega (arith, ltb-true n 0 (sym (ap (λ (p : Bool × ℕ). p.0) e))))
signed_same (negsuc m) (negsuc n) e = ap (λ (p : Bool × ℕ). negsuc (pred p.1)) e

signed : Reads flat_signed
unfolding pair
signed = by_parts (pair flat_flag flat_number) sign_and_size (both flat_flag flat_number flag number) signed_same

-- lists of one length
each : {X : Type 0} (flat : X → List ℕ) → Reads flat → (xs ys : List X) (r s : List ℕ) → length xs ≡ length ys → flat_each flat xs ++ r ≡ flat_each flat ys ++ s → (xs ≡ ys) × (r ≡ s)
each flat reads [] [] r s long e = (refl, e)
each flat reads [] (y ∷ ys) r s long e = absurd (omega (arith, long))
each flat reads (x ∷ xs) [] r s long e = absurd (omega (arith, long))
each flat reads (x ∷ xs) (y ∷ ys) r s long e =
    let a : (x ≡ y) × (flat_each flat xs ++ r ≡ flat_each flat ys ++ s) =
    reads x y (flat_each flat xs ++ r) (flat_each flat ys ++ s) (sym (append_assoc (flat x) (flat_each flat xs) r) ∙ e ∙ append_assoc (flat y) (flat_each flat ys) s) in
    let b : (xs ≡ ys) × (r ≡ s) = each flat reads xs ys r s (omega (arith, long)) a.1 in
    (λ i. a.0 i ∷ b.0 i, b.1)

-- a list after its length
after_length : {X : Type 0} (flat : List X → List ℕ) → ((xs ys : List X) (r s : List ℕ) → length xs ≡ length ys → flat xs ++ r ≡ flat ys ++ s → (xs ≡ ys) × (r ≡ s))
    → Reads (λ (xs : List X). flat_number (length xs) ++ flat xs)
after_length flat reads xs ys r s e =
    let a : (length xs ≡ length ys) × (flat xs ++ r ≡ flat ys ++ s) =
    number (length xs) (length ys) (flat xs ++ r) (flat ys ++ s) (sym (append_assoc (flat_number (length xs)) (flat xs) r) ∙ e ∙ append_assoc (flat_number (length ys)) (flat ys) s) in
    reads xs ys r s a.0 a.1

listed : {X : Type 0} (flat : X → List ℕ) → Reads flat → Reads (flat_list flat)
listed flat reads = after_length (flat_each flat) (each flat reads)

same_length : (xs ys r s : List ℕ) → length xs ≡ length ys → xs ++ r ≡ ys ++ s → (xs ≡ ys) × (r ≡ s)
same_length [] [] r s long e = (refl, e)
same_length [] (y ∷ ys) r s long e = absurd (omega (arith, long))
same_length (x ∷ xs) [] r s long e = absurd (omega (arith, long))
same_length (x ∷ xs) (y ∷ ys) r s long e =
    let a : (x ≡ y) × (xs ++ r ≡ ys ++ s) = heads x y (xs ++ r) (ys ++ s) e in
    let b : (xs ≡ ys) × (r ≡ s) = same_length xs ys r s (omega (arith, long)) a.1 in
    (λ i. a.0 i ∷ b.0 i, b.1)

text : Reads flat_text
text = after_length (λ (xs : List ℕ). xs) same_length

key : Reads flat_key
unfolding pair
key = by_parts (pair flat_number flat_flag) (λ (k : KeyFacts). (k.values, k.optional)) (both flat_number flat_flag number flag)
    (λ x y e. ap (λ (p : ℕ × Bool). record { values = p.0; optional = p.1 }) e)

view_of : ℕ → Option ℕ
view_of zero = None
view_of (suc view) = Some view

view_back : (v : Option ℕ) → view_of (view_number v) ≡ v
unfolding view_of
view_back None = refl
view_back (Some view) = ap view_of (add-one view)

flat_view : Option ℕ → List ℕ
flat_view v = flat_number (view_number v)

view : Reads flat_view
unfolding flat_view
view = by_parts flat_number view_number number (λ x y e. sym (view_back x) ∙ ap view_of e ∙ view_back y)

kind_of : ℕ → Kind
kind_of zero = Counter
kind_of (suc zero) = UpDownCounter
kind_of (suc (suc zero)) = Histogram
kind_of (suc (suc (suc n))) = Gauge

kind_back : (k : Kind) → kind_of (kind_number k) ≡ k
unfolding kind_of
kind_back Counter = refl
kind_back UpDownCounter = refl
kind_back Histogram = refl
kind_back Gauge = refl

kind : Reads (λ (k : Kind). kind_number k ∷ [])
kind = by_parts (λ (n : ℕ). n ∷ []) kind_number one (λ x y e. sym (kind_back x) ∙ ap kind_of e ∙ kind_back y)

temporality_same : (a b : Temporality) → is_delta_temporality a ≡ is_delta_temporality b → a ≡ b
temporality_same Delta Delta e = refl
temporality_same Delta Cumulative e = absurd (true≢false e)
temporality_same Cumulative Delta e = absurd (true≢false (sym e))
temporality_same Cumulative Cumulative e = refl

temporality : Reads (λ (t : Temporality). flat_flag (is_delta_temporality t))
temporality = by_parts flat_flag is_delta_temporality flag temporality_same

aggregation_from : ℕ → List ℤ → StreamAggregation
aggregation_from zero boundaries = aggregations.Sum
aggregation_from (suc zero) boundaries = aggregations.LastValue
aggregation_from (suc (suc n)) boundaries = aggregations.Histogram boundaries

aggregation_back : (a : StreamAggregation) → aggregation_from (aggregation_number a) (boundaries_of a) ≡ a
unfolding aggregation_from
aggregation_back aggregations.Sum = refl
aggregation_back aggregations.LastValue = refl
aggregation_back (aggregations.Histogram boundaries) = refl

-- what a stream has beside its details, as pairs
abbrev Settings : Type 0
Settings = (((ℕ × ℕ) × Option ℕ) × Kind) × (((ℕ × List Bool) × ℕ) × Temporality)

flat_kind : Kind → List ℕ
flat_kind k = kind_number k ∷ []

flat_tag : ℕ → List ℕ
flat_tag n = n ∷ []

flat_temporality : Temporality → List ℕ
flat_temporality t = flat_flag (is_delta_temporality t)

settings_flat : Settings → List ℕ
settings_flat =
    pair (pair (pair (pair flat_number flat_number) flat_view) flat_kind)
    (pair (pair (pair flat_tag (flat_list flat_flag)) flat_number) flat_temporality)

kept : Reads (flat_list flat_flag)
kept = listed flat_flag flag

settings_read : Reads settings_flat
unfolding settings_flat flat_kind flat_tag flat_temporality
settings_read =
    both _ _ (both _ _ (both _ _ (both _ _ number number) view) kind) (both _ _ (both _ _ (both _ _ one kept) number) temporality)

-- a stream's number, whether it is by product, and its settings
abbrev Front : Type 0
Front = (ℕ × Bool) × Settings

front_flat : Front → List ℕ
front_flat = pair (pair flat_number flat_flag) settings_flat

front_read : Reads front_flat
unfolding front_flat
front_read = both _ _ (both _ _ number flag) settings_read

front_of : NumberedStream → Front
front_of n =
    let s = n.stream in
    ((n.number, n.by_product), ((((s.reader, s.instrument), s.view), s.kind), (((aggregation_number s.aggregation, s.kept), s.limit), s.temporality)))

-- the last stream of the same view, as the front tells
last_for : List NumberedStream → Front → Option NumberedStream
last_for earlier f = find (is_of_view (view_number f.1.0.0.1)) earlier

abbrev DetailParts : Type 0
DetailParts = ((List ℕ × List ℕ) × List ℕ) × List ℤ

details_flat : DetailParts → List ℕ
details_flat = pair (pair (pair flat_text flat_text) flat_text) (flat_list flat_signed)

details_read : Reads details_flat
unfolding details_flat
details_read = both _ _ (both _ _ (both _ _ text text) text) (listed flat_signed signed)

details : Reads flat_details
unfolding pair details_flat
details =
    by_parts details_flat (λ (d : Details). (((d.name, d.description), d.unit), d.boundaries)) details_read
    (λ x y e. ap (λ (p : DetailParts). record { name = p.0.0.0; description = p.0.0.1; unit = p.0.1; boundaries = p.1 }) e)

same_details : (a b : Details) → is_same_details a b ≡ true → a ≡ b
same_details a b e =
    let texts = bytes_eq a.name b.name && bytes_eq a.description b.description && bytes_eq a.unit b.unit in
    let names = bytes_eq a.name b.name && bytes_eq a.description b.description in
    let all : (texts ≡ true) × (pointwise int_eq a.boundaries b.boundaries ≡ true) = and_parts texts (pointwise int_eq a.boundaries b.boundaries) e in
    let three : (names ≡ true) × (bytes_eq a.unit b.unit ≡ true) = and_parts names (bytes_eq a.unit b.unit) all.0 in
    let two : (bytes_eq a.name b.name ≡ true) × (bytes_eq a.description b.description ≡ true) = and_parts (bytes_eq a.name b.name) (bytes_eq a.description b.description) three.0 in
    let name : a.name ≡ b.name = (bytes_eq-Decides a.name b.name).0 two.0 in
    let description : a.description ≡ b.description = (bytes_eq-Decides a.description b.description).0 two.1 in
    let unit : a.unit ≡ b.unit = (bytes_eq-Decides a.unit b.unit).0 three.1 in
    let boundaries : a.boundaries ≡ b.boundaries = (slice_eq-Decides signed_Decides a.boundaries b.boundaries (pointwise int_eq a.boundaries b.boundaries) refl).0 all.1 in
    λ i. record { name = name i; description = description i; unit = unit i; boundaries = boundaries i }

repeated : (earlier : Option NumberedStream) (x y : Details) → repeats earlier x ≡ true → repeats earlier y ≡ true → x ≡ y
repeated None x y is_x is_y = absurd (true≢false (sym is_x))
repeated (Some n) x y is_x is_y = sym (same_details (details_of n.stream) x is_x) ∙ same_details (details_of n.stream) y is_y

details_after : (earlier : Option NumberedStream) → Reads (flat_details_after earlier)
details_after earlier x y r s e = at (repeats earlier x) (repeats earlier y) refl refl e
  where
    at : (p q : Bool) → repeats earlier x ≡ p → repeats earlier y ≡ q → cond p (0 ∷ []) (1 ∷ flat_details x) ++ r ≡ cond q (0 ∷ []) (1 ∷ flat_details y) ++ s → (x ≡ y) × (r ≡ s)
    at true true is_x is_y e = (repeated earlier x y is_x is_y, (heads 0 0 r s e).1)
    at true false is_x is_y e = absurd (omega (arith, (heads 0 1 r (flat_details y ++ s) e).0))
    at false true is_x is_y e = absurd (omega (arith, (heads 1 0 (flat_details x ++ r) s e).0))
    at false false is_x is_y e = details x y r s (heads 1 1 (flat_details x ++ r) (flat_details y ++ s) e).1

stream_of : Front → Details → NumberedStream
stream_of f d = record {
  number = f.0.0;
  by_product = f.0.1;
  stream = record {
    reader = f.1.0.0.0.0;
    instrument = f.1.0.0.0.1;
    view = f.1.0.0.1;
    name = d.name;
    description = d.description;
    unit = d.unit;
    kind = f.1.0.1;
    aggregation = aggregation_from f.1.1.0.0.0 d.boundaries;
    kept = f.1.1.0.0.1;
    limit = f.1.1.0.1;
    temporality = f.1.1.1;
  };
}

stream_back : (n : NumberedStream) → stream_of (front_of n) (details_of n.stream) ≡ n
unfolding stream_of front_of
stream_back n =
    ap (λ (a : StreamAggregation). record { number = n.number; by_product = n.by_product; stream = record n.stream { aggregation = a } }) (aggregation_back n.stream.aggregation)

-- The front tells the view, and so which earlier stream the details are compared with.
stream : (earlier : List NumberedStream) → Reads (λ (n : NumberedStream). flat_stream (last_of_view earlier n) n)
unfolding pair front_flat settings_flat flat_view flat_kind flat_tag flat_temporality front_of last_for
stream earlier x y r s e =
    let rest : NumberedStream → List ℕ = λ n. flat_details_after (last_of_view earlier n) (details_of n.stream) in
    let a : (front_of x ≡ front_of y) × (rest x ++ r ≡ rest y ++ s) =
    front_read (front_of x) (front_of y) (rest x ++ r) (rest y ++ s) (sym (append_assoc (front_flat (front_of x)) (rest x) r) ∙ e ∙ append_assoc (front_flat (front_of y)) (rest y) s) in
    let last : last_of_view earlier x ≡ last_of_view earlier y = ap (last_for earlier) a.0 in
    let b : (details_of x.stream ≡ details_of y.stream) × (r ≡ s) =
    details_after (last_of_view earlier y) (details_of x.stream) (details_of y.stream) r s
    (ap (λ (o : Option NumberedStream). flat_details_after o (details_of x.stream) ++ r) (sym last) ∙ a.1) in
    (sym (stream_back x) ∙ (λ i. stream_of (a.0 i) (b.0 i)) ∙ stream_back y, b.1)

streams : (earlier xs ys : List NumberedStream) (r s : List ℕ) → length xs ≡ length ys → flat_streams earlier xs ++ r ≡ flat_streams earlier ys ++ s → (xs ≡ ys) × (r ≡ s)
streams earlier [] [] r s long e = (refl, e)
streams earlier [] (y ∷ ys) r s long e = absurd (omega (arith, long))
streams earlier (x ∷ xs) [] r s long e = absurd (omega (arith, long))
streams earlier (x ∷ xs) (y ∷ ys) r s long e =
    let first : NumberedStream → List ℕ = λ z. flat_stream (last_of_view earlier z) z in
    let others : NumberedStream → List NumberedStream → List ℕ = λ z zs. flat_streams (z ∷ earlier) zs in
    let a : (x ≡ y) × (others x xs ++ r ≡ others y ys ++ s) =
    stream earlier x y (others x xs ++ r) (others y ys ++ s) (sym (append_assoc (first x) (others x xs) r) ∙ e ∙ append_assoc (first y) (others y ys) s) in
    let b : (xs ≡ ys) × (r ≡ s) =
    streams (x ∷ earlier) xs ys r s (omega (arith, long)) (a.1 ∙ ap (λ (z : NumberedStream). others z ys ++ s) (sym a.0)) in
    (λ i. a.0 i ∷ b.0 i, b.1)

-- set keys of eight entries, of which those after so many keys are 0, are told apart by the entries before
entries_same : (keys : ℕ) (x y : List ℕ) → length x ≡ length y → take keys x ≡ take keys y → list_all (λ entry. entry == 0) (drop keys x) ≡ true → list_all (λ entry. entry == 0) (drop keys y) ≡ true
    → x ≡ y
entries_same zero x y long e p q = zeros_same x y p q long
entries_same (suc keys) [] [] long e p q = refl
entries_same (suc keys) [] (b ∷ y) long e p q = absurd (omega arith)
entries_same (suc keys) (a ∷ x) [] long e p q = absurd (omega arith)
entries_same (suc keys) (a ∷ x) (b ∷ y) long e p q =
    let first : (a ≡ b) × (take keys x ≡ take keys y) = heads a b (take keys x) (take keys y) e in
    let rest : x ≡ y = entries_same keys x y (omega arith) first.1 p q in
    λ i. first.0 i ∷ rest i

row : (keys : ℕ) (x y r s : List ℕ) → is_of_keys keys x ≡ true → is_of_keys keys y ≡ true → flat_row keys x ++ r ≡ flat_row keys y ++ s → (x ≡ y) × (r ≡ s)
row keys x y r s own_x own_y e =
    let p = and_parts (length x == 8) (list_all (λ entry. entry == 0) (drop keys x)) own_x in
    let q = and_parts (length y == 8) (list_all (λ entry. entry == 0) (drop keys y)) own_y in
    let long : length x ≡ length y = eqb-true (length x) 8 p.0 ∙ sym (eqb-true (length y) 8 q.0) in
    let taken : length (take keys x) ≡ length (take keys y) = omega (arith, long, length-take keys x, length-take keys y) in
    let read : (take keys x ≡ take keys y) × (r ≡ s) = each flat_number number (take keys x) (take keys y) r s taken e in
    (entries_same keys x y long read.0 p.1 q.1, read.1)

short_rows : (keys : ℕ) (xs ys : List (List ℕ)) (r s : List ℕ) → list_all (is_of_keys keys) xs ≡ true → list_all (is_of_keys keys) ys ≡ true → length xs ≡ length ys
    → flat_each (flat_row keys) xs ++ r ≡ flat_each (flat_row keys) ys ++ s → (xs ≡ ys) × (r ≡ s)
short_rows keys [] [] r s all_x all_y long e = (refl, e)
short_rows keys [] (y ∷ ys) r s all_x all_y long e = absurd (omega (arith, long))
short_rows keys (x ∷ xs) [] r s all_x all_y long e = absurd (omega (arith, long))
short_rows keys (x ∷ xs) (y ∷ ys) r s all_x all_y long e =
    let p = and_parts (is_of_keys keys x) (list_all (is_of_keys keys) xs) all_x in
    let q = and_parts (is_of_keys keys y) (list_all (is_of_keys keys) ys) all_y in
    let later : List (List ℕ) → List ℕ = λ rows. flat_each (flat_row keys) rows in
    let a : (x ≡ y) × (later xs ++ r ≡ later ys ++ s) =
    row keys x y (later xs ++ r) (later ys ++ s) p.0 q.0 (sym (append_assoc (flat_row keys x) (later xs) r) ∙ e ∙ append_assoc (flat_row keys y) (later ys) s) in
    let b : (xs ≡ ys) × (r ≡ s) = short_rows keys xs ys r s p.1 q.1 (omega (arith, long)) a.1 in
    (λ i. a.0 i ∷ b.0 i, b.1)

counted_rows : (keys : ℕ) (xs ys : List (List ℕ)) (r s : List ℕ) → list_all (is_of_keys keys) xs ≡ true → list_all (is_of_keys keys) ys ≡ true
    → flat_list (flat_row keys) xs ++ r ≡ flat_list (flat_row keys) ys ++ s → (xs ≡ ys) × (r ≡ s)
counted_rows keys xs ys r s all_x all_y e =
    let later : List (List ℕ) → List ℕ = λ rows. flat_each (flat_row keys) rows in
    let a : (length xs ≡ length ys) × (later xs ++ r ≡ later ys ++ s) =
    number (length xs) (length ys) (later xs ++ r) (later ys ++ s) (sym (append_assoc (flat_number (length xs)) (later xs) r) ∙ e ∙ append_assoc (flat_number (length ys)) (later ys) s) in
    short_rows keys xs ys r s all_x all_y a.0 a.1

whole_rows : Reads (flat_list (flat_list flat_number))
whole_rows = listed (flat_list flat_number) (listed flat_number number)

rows : (keys : ℕ) → Reads (flat_rows keys)
rows keys x y r s e = at (list_all (is_of_keys keys) x) (list_all (is_of_keys keys) y) refl refl e
  where
    at : (p q : Bool) → list_all (is_of_keys keys) x ≡ p → list_all (is_of_keys keys) y ≡ q
        → cond p (0 ∷ flat_list (flat_row keys) x) (1 ∷ flat_list (flat_list flat_number) x) ++ r ≡ cond q (0 ∷ flat_list (flat_row keys) y) (1 ∷ flat_list (flat_list flat_number) y) ++ s
        → (x ≡ y) × (r ≡ s)
    at true true is_x is_y e = counted_rows keys x y r s is_x is_y (heads 0 0 (flat_list (flat_row keys) x ++ r) (flat_list (flat_row keys) y ++ s) e).1
    at true false is_x is_y e = absurd (omega (arith, (heads 0 1 (flat_list (flat_row keys) x ++ r) (flat_list (flat_list flat_number) y ++ s) e).0))
    at false true is_x is_y e = absurd (omega (arith, (heads 1 0 (flat_list (flat_list flat_number) x ++ r) (flat_list (flat_row keys) y ++ s) e).0))
    at false false is_x is_y e = whole_rows x y r s (heads 1 1 (flat_list (flat_list flat_number) x ++ r) (flat_list (flat_list flat_number) y ++ s) e).1

allowed : (keys : ℕ) → Reads (flat_allowed keys)
allowed keys None None r s e = (refl, (heads 0 0 r s e).1)
allowed keys None (Some y) r s e = absurd (omega (arith, (heads 0 1 r (flat_rows keys y ++ s) e).0))
allowed keys (Some x) None r s e = absurd (omega (arith, (heads 1 0 (flat_rows keys x ++ r) s e).0))
allowed keys (Some x) (Some y) r s e =
    let read : (x ≡ y) × (r ≡ s) = rows keys x y r s (heads 1 1 (flat_rows keys x ++ r) (flat_rows keys y ++ s) e).1 in
    (ap Some read.0, read.1)

-- the fields of facts but the combinations, as pairs
abbrev Fields : Type 0
Fields = ((((((((ℕ × Bool) × ℕ) × List KeyFacts) × ℤ) × ℤ) × List ℕ) × ℕ) × List Bool) × List NumberedStream

flat_counted_streams : List NumberedStream → List ℕ
flat_counted_streams numbered = flat_number (length numbered) ++ flat_streams [] numbered

counted_streams : Reads flat_counted_streams
unfolding flat_counted_streams
counted_streams = after_length (flat_streams []) (streams [])

fields_flat : Fields → List ℕ
fields_flat =
    pair (pair (pair (pair (pair (pair (pair (pair (pair flat_number flat_flag) flat_number) (flat_list flat_key)) flat_signed) flat_signed) (flat_list flat_number)) flat_number) (flat_list flat_flag))
    flat_counted_streams

fields_read : Reads fields_flat
unfolding fields_flat
fields_read =
    both _ _ (both _ _ (both _ _ (both _ _ (both _ _ (both _ _ (both _ _ (both _ _ (both _ _ number flag) number) (listed flat_key key)) signed) signed) (listed flat_number number)) number) kept) counted_streams

-- the combinations of an instrument's keys, after its other fields
allowed_after : Fields → Option (List (List ℕ)) → List ℕ
allowed_after p all = flat_allowed (length p.0.0.0.0.0.0.1) all

allowed_read : (p : Fields) → Reads (allowed_after p)
unfolding allowed_after
allowed_read p = allowed (length p.0.0.0.0.0.0.1)

-- all fields
abbrev Whole : Type 0
Whole = Fields × Option (List (List ℕ))

whole_flat : Whole → List ℕ
whole_flat w = fields_flat w.0 ++ allowed_after w.0 w.1

whole_read : Reads whole_flat
unfolding whole_flat
whole_read = after fields_flat allowed_after fields_read allowed_read

whole_of : FactsFields → Whole
whole_of f = ((((((((((f.plan, f.certified), f.instrument), f.keys), f.lo), f.hi), f.budgets), f.spare), f.delta), f.streams), f.allowed)

of_whole : Whole → FactsFields
of_whole w =
    let p = w.0 in
    record {
      plan = p.0.0.0.0.0.0.0.0.0;
      certified = p.0.0.0.0.0.0.0.0.1;
      instrument = p.0.0.0.0.0.0.0.1;
      keys = p.0.0.0.0.0.0.1;
      allowed = w.1;
      lo = p.0.0.0.0.0.1;
      hi = p.0.0.0.0.1;
      budgets = p.0.0.0.1;
      spare = p.0.0.1;
      delta = p.0.1;
      streams = p.1;
    }

facts : Reads flat_facts
unfolding pair flat_counted_streams fields_flat allowed_after whole_flat whole_of of_whole
facts = by_parts whole_flat whole_of whole_read (λ x y e. ap of_whole e)

-- equal bytes are of equal facts
pub facts_eq_decides : (a b : FactsFields) → Decides (facts_eq a b) (a ≡ b)
facts_eq_decides a b =
    let decides : Decides (facts_eq a b) (flat_facts a ≡ flat_facts b) = bytes_eq-Decides (flat_facts a) (flat_facts b) in
    (λ same. (facts a b [] [] (ap (λ (bytes : List ℕ). bytes ++ []) (decides.0 same))).0, λ e. decides.1 (ap flat_facts e))

-- a number of several groups, as it is written
pub number_written : (old new : List ℕ) (n : ℕ) → 128 ≤ n → new ≡ (old ++ (n % 128 + 128) ∷ []) ++ flat_number (n / 128) → new ≡ old ++ flat_number n
number_written old new n large e =
    e ∙ append_assoc old ((n % 128 + 128) ∷ []) (flat_number (n / 128)) ∙ ap (λ (bytes : List ℕ). old ++ bytes) (sym (number_more n large))
