-- What a reader's streams have that pass the check for pages.
use Rattle.std.proofs.Common.{◌≡◌, ◌≢◌, ◌⊎◌, inl, inr, ℕ, zero, suc, ◌+◌, ◌<◌, Bool, true, false, cond, ◌&&◌, ◌||◌, List, [], ◌∷◌, ◌++◌, length, map, take, Option, Some, None, refl, sym, ap, subst, ◌∙◌, arith, ◌==◌, eq-eqb}
use Rattle.std.specs.Prelude.{slice_get}
use Rattle.std.specs.List.{cons_option, filter_map, flat_map, list_all, position_from, range_with_len}
use Rattle.std.specs.Option.{option_map, option_map_or, option_to_list}
use Rattle.std.specs.Str.{bytes_eq}
use Rattle.std.proofs.lemmas.List.Folds.{list_all-append}
use Rattle.std.proofs.lemmas.Option.{get_or_from_slice_get, slice_get_within}
use Rattle.std.proofs.lemmas.Slice.Eq.{bytes_eq-Decides}
use Rattle.metric_contents.specs.declared.contents.Contents.{Contents}
use Rattle.metric_contents.specs.declared.contents.Key.{Key}
use Rattle.metric_lines.specs.Keys.{kept_names}
use Rattle.metric_views.specs.declared.stream.Stream.{Stream}
use Rattle.metric_facts.specs.Facts.{is_delta_temporality}
use Rattle.metric_family.specs.declared.metric_type.MetricType.{MetricType}
use Rattle.metric_family.specs.declared.metric_type.MetricType.TheVariants.{Counter, Gauge, Histogram}
use Rattle.metric_family.specs.Families.{claims_by, claims_of, family, suffixes, type_of}
use Rattle.metric_family.specs.Grammar.{IsName, is_label_character}
use Rattle.metric_family.specs.Labels.{is_bad, label_of}
use Rattle.metric_family.specs.Laws.{FamiliesAreNames, LabelsAreLabels}
use Rattle.metric_family.specs.Words.{is_among}
use Rattle.metric_exposure.specs.declared.fault.ExposureFault.{ExposureFault}
use Rattle.metric_exposure.specs.declared.fault.ExposureFault.TheVariants as faults
use Rattle.metric_exposure.specs.declared.outlet.Outlet.TheVariants.{Prometheus}
use Rattle.metric_exposure.specs.Collisions.{collision_by, first_claim, is_of_target, name_fault}
use Rattle.metric_exposure.specs.Exposures.{boundary_faults, exposure_faults, fault_if, faults_at, name_faults, own_name_fault, page_faults, reserved_of}
use Rattle.metric_exposure.specs.Sources.{keys_of}
use Rattle.metric_exposure.specs.KeyFaults.{all_key_faults, are_confused, key_faults, label_fault, place_faults, taken_labels, value_fault}
use Rattle.metric_exposure.specs.Laws.{LabelsAreSound, NamesAreSound, Passes}
use Rattle.metric_exposure.specs.Sharing.{are_shared, first_scoped, is_led_by, scope_fault, scoped}
use Rattle.metric_exposure.proofs.Firsts.{faults_own}

-- parts of a list without elements
pub front_none : {A : Type 0} (xs ys : List A) → xs ++ ys ≡ [] → xs ≡ []
front_none [] ys e = refl
front_none (x ∷ xs) ys e = absurd cc

pub back_none : {A : Type 0} (xs ys : List A) → xs ++ ys ≡ [] → ys ≡ []
back_none [] ys e = e
back_none (x ∷ xs) ys e = absurd cc

none_at : {A : Type 0} (f : ℕ → List A) (a n k : ℕ) → flat_map f (range_with_len a n) ≡ [] → k < n → f (a + k) ≡ []
none_at f a zero k e less = absurd (omega arith)
none_at f a (suc n) zero e less = let same : a + 0 ≡ a = omega arith in ap f same ∙ front_none (f a) (flat_map f (range_with_len (a + 1) n)) e
none_at f a (suc n) (suc k) e less =
    let same : a + suc k ≡ a + 1 + k = omega arith in
    ap f same ∙ none_at f (a + 1) n k (back_none (f a) (flat_map f (range_with_len (a + 1) n)) e) (omega arith)

not_tested : (test : Bool) (fault : ExposureFault) → fault_if test fault ≡ [] → test ≡ false
not_tested true fault e = absurd cc
not_tested false fault e = refl

not_there : (o : Option ExposureFault) → option_to_list o ≡ [] → o ≡ None
not_there None e = refl
not_there (Some fault) e = absurd cc

not_put : (o : Option ExposureFault) (xs : List ExposureFault) → cons_option o xs ≡ [] → o ≡ None
not_put None xs e = refl
not_put (Some fault) xs e = absurd cc

-- a stream that stands under no other one's name
pub record Unled (contents : Contents) (streams : List Stream) (reader number : ℕ) (stream : Stream) : Type 0 where
  pub none : collision_by number (first_claim reader (take number streams)) (claims_of stream) ≡ None

-- a stream that stands under the name of the first one that claims its family
pub record Led (contents : Contents) (streams : List Stream) (reader number : ℕ) (stream : Stream) : Type 0 where
  pub leader : ℕ
  pub first : first_claim reader (take number streams) (family stream) ≡ Some leader
  pub root : Stream
  pub at : slice_get streams leader ≡ Some root
  pub shared : are_shared contents root stream ≡ true
  pub fresh : first_scoped contents reader (take number streams) (scoped contents stream) ≡ None

no_scope : (number : ℕ) (o : Option ℕ) → scope_fault number o ≡ None → o ≡ None
no_scope number None e = refl
no_scope number (Some other) e = absurd cc

-- the faults of a stream of a reader whose streams pass
module _ (contents : Contents) (streams : List Stream) (reader number : ℕ) (stream : Stream) (p : Passes contents streams reader number stream) where
  abbrev firsts : List ℕ → Option ℕ
  firsts = first_claim reader (take number streams)

  abbrev scopes : List ℕ → Option ℕ
  scopes = first_scoped contents reader (take number streams)

  abbrev key_part : List ExposureFault
  key_part = all_key_faults number (reserved_of contents stream) (keys_of contents stream) stream.kept

  abbrev name_part : List ExposureFault
  name_part = name_faults contents streams firsts scopes number stream

  page_none : page_faults contents streams firsts scopes number stream ≡ []
  unfolding exposure_faults
  page_none =
      let within = slice_get_within streams number stream p.at in
      let is = sym (get_or_from_slice_get streams number stream stream p.at) in
      let none = none_at (faults_at Prometheus contents streams reader) 0 (length streams) number p.none within in
      let here : number ≡ 0 + number = omega arith in
      sym (faults_own Prometheus contents streams reader number stream within is (eq-eqb stream.reader reader p.own))
      ∙ ap (faults_at Prometheus contents streams reader) here ∙ none

  rest_none : name_part ++ key_part ≡ []
  unfolding page_faults
  rest_none =
      back_none (boundary_faults number stream) (name_part ++ key_part)
      (back_none (fault_if (is_delta_temporality stream.temporality) (faults.Delta number)) (boundary_faults number stream ++ (name_part ++ key_part)) page_none)

  names_none : name_part ≡ []
  names_none = front_none name_part key_part rest_none

  keys_none : key_part ≡ []
  keys_none = back_none name_part key_part rest_none

  pub has_name : (length (family stream) == 0) ≡ false
  has_name =
      not_tested (length (family stream) == 0) (faults.Nameless number)
      (front_none (fault_if (length (family stream) == 0) (faults.Nameless number)) (option_to_list (own_name_fault contents streams firsts scopes number stream)) names_none)

  own_none : own_name_fault contents streams firsts scopes number stream ≡ None
  own_none =
      let own = own_name_fault contents streams firsts scopes number stream in
      not_there own (back_none (fault_if (length (family stream) == 0) (faults.Nameless number)) (option_to_list own) names_none)

  abbrev Stands : Type 0
  Stands = Unled contents streams reader number stream ⊎ Led contents streams reader number stream

  shares : (leader : ℕ) → firsts (family stream) ≡ Some leader → (root : Stream) → slice_get streams leader ≡ Some root → (b : Bool) → are_shared contents root stream ≡ b
      → cond b (scope_fault number (scopes (scoped contents stream))) (collision_by number firsts (claims_of stream)) ≡ None → Stands
  shares leader is root at true shared e =
      inr (record { leader = leader; first = is; root = root; at = at; shared = shared; fresh = no_scope number (scopes (scoped contents stream)) e })
  shares leader is root at false shared e = inl (record { none = e })

  there : (leader : ℕ) → firsts (family stream) ≡ Some leader → (o : Option Stream) → slice_get streams leader ≡ o
      → cond (option_map_or (λ (other : Stream). are_shared contents other stream) o false) (scope_fault number (scopes (scoped contents stream)))
      (collision_by number firsts (claims_of stream)) ≡ None → Stands
  there leader is None at e = inl (record { none = e })
  there leader is (Some root) at e = shares leader is root at (are_shared contents root stream) refl e

  by_first : (o : Option ℕ) → firsts (family stream) ≡ o
      → cond (is_led_by contents streams stream o) (scope_fault number (scopes (scoped contents stream))) (collision_by number firsts (claims_of stream)) ≡ None → Stands
  by_first None is e = inl (record { none = e })
  by_first (Some leader) is e = there leader is (slice_get streams leader) refl e

  pub stands : Stands
  stands = by_first (firsts (family stream)) refl own_none

  no_fault_at : (place : ℕ) (key : Key) → slice_get (keys_of contents stream) place ≡ Some key → slice_get stream.kept place ≡ Some true
      → key_faults number place (taken_labels (reserved_of contents stream) (take place (keys_of contents stream)) (take place stream.kept)) key ≡ []
  unfolding all_key_faults place_faults
  no_fault_at place key at kept =
      let keys = keys_of contents stream in
      let none = none_at (place_faults number (reserved_of contents stream) keys stream.kept) 0 (length keys) place keys_none (slice_get_within keys place key at) in
      let here : 0 + place ≡ place = omega arith in
      rw (here, at, kept) at none

  pub good_label : (place : ℕ) (key : Key) → slice_get (keys_of contents stream) place ≡ Some key → slice_get stream.kept place ≡ Some true
      → label_fault number place (taken_labels (reserved_of contents stream) (take place (keys_of contents stream)) (take place stream.kept)) (label_of key.name) ≡ None
  good_label place key at kept =
      let taken = taken_labels (reserved_of contents stream) (take place (keys_of contents stream)) (take place stream.kept) in
      not_put (label_fault number place taken (label_of key.name)) (cons_option (value_fault number place key) []) (no_fault_at place key at kept)

not_taken : (stream place : ℕ) (taken : List (List ℕ)) (label : List ℕ) → label_fault stream place taken label ≡ None → is_among taken label ≡ false
not_taken stream place taken label e = by (is_bad label) (is_among taken label) e
  where
    by : (b a : Bool) → cond b (Some (faults.BadLabel stream place)) (cond a (Some (faults.LabelCollision stream place)) None) ≡ None → a ≡ false
    by true a e = absurd cc
    by false true e = absurd cc
    by false false e = refl

not_confused : (stream place : ℕ) (key : Key) → value_fault stream place key ≡ None → are_confused key ≡ false
not_confused stream place key e = by (are_confused key) e
  where
    by : (b : Bool) → cond b (Some (faults.ValueCollision stream place)) None ≡ None → b ≡ false
    by true e = absurd cc
    by false e = refl

not_behind : (o : Option ExposureFault) (xs : List ExposureFault) → cons_option o xs ≡ [] → xs ≡ []
not_behind None xs e = e
not_behind (Some fault) xs e = absurd cc

-- the labels and the values of a kept key
pub key_passes : (contents : Contents) (streams : List Stream) (reader number : ℕ) (stream : Stream) → Passes contents streams reader number stream
    → (place : ℕ) (key : Key) → slice_get (keys_of contents stream) place ≡ Some key → slice_get stream.kept place ≡ Some true
    → (is_among (reserved_of contents stream ++ map label_of (kept_names (take place (keys_of contents stream)) (take place stream.kept))) (label_of key.name) ≡ false)
    × (are_confused key ≡ false)
unfolding taken_labels
key_passes contents streams reader number stream p place key at kept =
    let taken = taken_labels (reserved_of contents stream) (take place (keys_of contents stream)) (take place stream.kept) in
    let none = no_fault_at contents streams reader number stream p place key at kept in
    let label = not_put (label_fault number place taken (label_of key.name)) (cons_option (value_fault number place key) []) none in
    let behind = not_behind (label_fault number place taken (label_of key.name)) (cons_option (value_fault number place key) []) none in
    (not_taken number place taken (label_of key.name) label, not_confused number place key (not_put (value_fault number place key) [] behind))

-- no fault of any name
pub each_none : (f : List ℕ → Option ExposureFault) (names : List (List ℕ)) (name : List ℕ) → slice_get (filter_map f names) 0 ≡ None → is_among names name ≡ true → f name ≡ None
each_none f [] name e among = absurd cc
each_none f (x ∷ names) name e among = by (f x) refl e (each_none f names name)
  where
    here : (b : Bool) → bytes_eq name x ≡ b → (b || is_among names name) ≡ true → f x ≡ None → slice_get (filter_map f names) 0 ≡ None
        → (slice_get (filter_map f names) 0 ≡ None → is_among names name ≡ true → f name ≡ None) → f name ≡ None
    here true same also none rest later = ap f ((bytes_eq-Decides name x).0 same) ∙ none
    here false same also none rest later = later rest also

    by : (o : Option ExposureFault) → f x ≡ o → slice_get (cons_option o (filter_map f names)) 0 ≡ None
        → (slice_get (filter_map f names) 0 ≡ None → is_among names name ≡ true → f name ≡ None) → f name ≡ None
    by (Some fault) is e later = absurd cc
    by None is e later = here (bytes_eq name x) refl among is e later

pub not_of_target : (number : ℕ) (first : List ℕ → Option ℕ) (name : List ℕ) → name_fault number first name ≡ None → is_of_target name ≡ false
not_of_target number first name e = by (is_of_target name) e
  where
    by : (b : Bool) → cond b (Some (faults.NameCollision number None)) (option_map (λ other. faults.NameCollision number (Some other)) (first name)) ≡ None → b ≡ false
    by true e = absurd cc
    by false e = refl

pub not_claimed : (number : ℕ) (first : List ℕ → Option ℕ) (name : List ℕ) → name_fault number first name ≡ None → first name ≡ None
not_claimed number first name e = by (is_of_target name) (first name) e
  where
    by : (b : Bool) (o : Option ℕ) → cond b (Some (faults.NameCollision number None)) (option_map (λ other. faults.NameCollision number (Some other)) o) ≡ None → o ≡ None
    by true o e = absurd cc
    by false None e = refl
    by false (Some other) e = absurd cc

pub none_passes : {X : Type 0} (test : X → Bool) (i : ℕ) (xs : List X) (k : ℕ) (x : X) → position_from test i xs ≡ None → slice_get xs k ≡ Some x → test x ≡ false
none_passes test i [] k x e at = absurd cc
none_passes test i (y ∷ ys) k x e at = by (test y) refl e k at (λ k. none_passes test (i + 1) ys k x)
  where
    by : (b : Bool) → test y ≡ b → cond b (Some i) (position_from test (i + 1) ys) ≡ None → (k : ℕ) → slice_get (y ∷ ys) k ≡ Some x
        → ((k : ℕ) → position_from test (i + 1) ys ≡ None → slice_get ys k ≡ Some x → test x ≡ false) → test x ≡ false
    by true is e k at later = absurd cc
    by false is e zero at later = let same : y ≡ x = cc in ap test (sym same) ∙ is
    by false is e (suc k) at later = later k e at

pub get_taken : {X : Type 0} (n : ℕ) (xs : List X) (k : ℕ) → k < n → slice_get (take n xs) k ≡ slice_get xs k
get_taken zero xs k less = absurd (omega arith)
get_taken (suc n) [] k less = refl
get_taken (suc n) (x ∷ xs) zero less = refl
get_taken (suc n) (x ∷ xs) (suc k) less = get_taken n xs k (omega arith)

-- a name with more of its characters is a name
longer : (name more : List ℕ) → IsName name → list_all (λ d. is_label_character d || d == 58) more ≡ true → IsName (name ++ more)
longer [] more n e = absurd n
longer (c ∷ name) more n e = (n.0, list_all-append (λ d. is_label_character d || d == 58) name more ∙ ap (λ b. b && list_all (λ d. is_label_character d || d == 58) more) n.1 ∙ e)

among_ends : (name : List ℕ) (ends : List (List ℕ)) (other : List ℕ) → IsName name → list_all (list_all (λ d. is_label_character d || d == 58)) ends ≡ true
    → is_among (map (λ end. name ++ end) ends) other ≡ true → IsName other
among_ends name [] other n e among = absurd cc
among_ends name (end ∷ ends) other n e among =
    by (bytes_eq other (name ++ end)) (list_all (λ d. is_label_character d || d == 58) end) refl refl among e (among_ends name ends other n)
  where
    by : (b g : Bool) → bytes_eq other (name ++ end) ≡ b → list_all (λ d. is_label_character d || d == 58) end ≡ g → (b || is_among (map (λ end. name ++ end) ends) other) ≡ true
        → (g && list_all (list_all (λ d. is_label_character d || d == 58)) ends) ≡ true
        → (list_all (list_all (λ d. is_label_character d || d == 58)) ends ≡ true → is_among (map (λ end. name ++ end) ends) other ≡ true → IsName other) → IsName other
    by b false same good also e later = absurd cc
    by true true same good also e later = subst IsName (sym ((bytes_eq-Decides other (name ++ end)).0 same)) (longer name end n good)
    by false true same good also e later = later e also

good_ends : (type : MetricType) → list_all (list_all (λ d. is_label_character d || d == 58)) (suffixes type) ≡ true
good_ends Counter = refl
good_ends Gauge = refl
good_ends Histogram = refl

good_claims : (name : List ℕ) (type : MetricType) (other : List ℕ) → (name ≢ [] → IsName name) → is_among (claims_by name type) other ≡ true → IsName other
good_claims [] type other n among = absurd cc
good_claims (c ∷ name) type other n among = among_ends (c ∷ name) (suffixes type) other (n (λ e. cc)) (good_ends type) among

some_name : (name : List ℕ) → (length name == 0) ≡ false → name ≢ []
some_name name e is = let wrong : true ≡ false = sym (ap (λ (text : List ℕ). length text == 0) is) ∙ e in cc

pub names_are_sound : FamiliesAreNames → NamesAreSound
unfolding claims_of
names_are_sound law contents streams reader number stream p =
    (some_name (family stream) (has_name contents streams reader number stream p), λ name among. good_claims (family stream) (type_of stream) name (law stream) among)

not_bad : (stream place : ℕ) (taken : List (List ℕ)) (label : List ℕ) → label_fault stream place taken label ≡ None → is_bad label ≡ false
not_bad stream place taken label e = by (is_bad label) e
  where
    by : (b : Bool) → cond b (Some (faults.BadLabel stream place)) (cond (is_among taken label) (Some (faults.LabelCollision stream place)) None) ≡ None → b ≡ false
    by true e = absurd cc
    by false e = refl

pub labels_are_sound : LabelsAreLabels → LabelsAreSound
labels_are_sound law contents streams reader number stream place key p at kept =
    law key.name (not_bad number place (taken_labels (reserved_of contents stream) (take place (keys_of contents stream)) (take place stream.kept)) (label_of key.name)
    (good_label contents streams reader number stream p place key at kept))
