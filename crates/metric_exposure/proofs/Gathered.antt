-- Streams that claim one name are of one family, and their points are told apart by their scopes.
use Rattle.std.proofs.Common.{◌≡◌, ◌≢◌, ◌⊎◌, inl, inr, ℕ, zero, suc, ◌+◌, ◌<◌, ◌≤◌, Bool, true, false, cond, not, ◌&&◌, ◌||◌, List, [], ◌∷◌, ◌++◌, codes, map, take, Option, Some, None, refl, sym, ap, ◌∙◌, arith, ◌==◌, eq-eqb}
use Rattle.std.specs.Prelude.{nat_lt, slice_get}
use Rattle.std.specs.Cmp.{signed_Decides}
use Rattle.std.specs.Cmp.Lexicographic.{pointwise}
use Rattle.std.specs.List.{cons_option, list_any, position_from}
use Rattle.std.specs.Option.{option_map}
use Rattle.std.specs.Ordering.{int_eq}
use Rattle.std.specs.Str.{bytes_eq}
use Rattle.std.proofs.lemmas.Bool.Decides.{Decides-eqb, nat_tests}
use Rattle.std.proofs.lemmas.Slice.Eq.{bytes_eq-Decides, slice_eq-Decides}
use Rattle.metric_names.specs.declared.value.AttrValue.{AttrValue}
use Rattle.metric_contents.specs.declared.contents.Contents.{Contents}
use Rattle.metric_contents.specs.declared.contents.Key.{Key}
use Rattle.metric_contents.specs.declared.contents.Meter.{Meter}
use Rattle.metric_views.specs.declared.stream.Stream.{Stream}
use Rattle.metric_history.specs.declared.batch.Point.{Point}
use Rattle.metric_lines.specs.Keys.{attributes_of, value_at}
use Rattle.metric_family.specs.declared.metric_type.MetricType.{MetricType}
use Rattle.metric_family.specs.declared.metric_type.MetricType.TheVariants.{Counter, Gauge, Histogram}
use Rattle.metric_family.specs.Families.{claims_by, claims_of, family, type_name, type_of, unit_text}
use Rattle.metric_family.specs.Labels.{Label, attribute_label, label_of, point_labels, scope_labels, scope_names, series_labels, shown}
use Rattle.metric_family.specs.Words.{is_among, is_some}
use Rattle.metric_exposure.specs.Collisions.{first_claim, is_claimed, name_fault}
use Rattle.metric_exposure.specs.Laws.{AreOne, AreOneFamily, FamiliesAreApart, GatheredAreApart, GatheredStayApart, NoneClaimsTheTarget, Passes, held_by, shown_point, text_at, texts_of}
use Rattle.metric_exposure.specs.Renames.{exported, server_labels}
use Rattle.metric_exposure.specs.Sharing.{are_shared, first_scoped, is_alike, is_scope_kept, is_scoped, keeps_scope, scope_text, scoped}
use Rattle.metric_exposure.specs.Sources.{boundaries_of, keys_of, meter_of}
use Rattle.metric_exposure.proofs.Chain.{some_is}
use Rattle.metric_exposure.proofs.Passing.{Led, Unled, each_none, get_taken, none_passes, not_claimed, not_of_target, stands}
use Rattle.metric_exposure.proofs.Renamed.{scope_free, text_shown}

both : (a b : Bool) → (a && b) ≡ true → (a ≡ true) × (b ≡ true)
both true true e = (refl, refl)
both true false e = absurd cc
both false b e = absurd cc

is_not : (b : Bool) → not b ≡ true → b ≡ false
is_not true e = absurd cc
is_not false e = refl

-- the name of a type is its own
same_type : (a b : MetricType) → type_name a ≡ type_name b → a ≡ b
same_type Counter Counter e = refl
same_type Counter Gauge e = absurd cc
same_type Counter Histogram e = absurd cc
same_type Gauge Counter e = absurd cc
same_type Gauge Gauge e = refl
same_type Gauge Histogram e = absurd cc
same_type Histogram Counter e = absurd cc
same_type Histogram Gauge e = absurd cc
same_type Histogram Histogram e = refl

one_family : (other stream : Stream) → is_alike other stream ≡ true → AreOneFamily other stream
one_family other stream e =
    let f = bytes_eq (family other) (family stream) in
    let t = bytes_eq (type_name (type_of other)) (type_name (type_of stream)) in
    let u = bytes_eq (unit_text other) (unit_text stream) in
    let b = pointwise int_eq (boundaries_of other.aggregation) (boundaries_of stream.aggregation) in
    let all = both (f && t && u) b e in
    let three = both (f && t) u all.0 in
    let two = both f t three.0 in
    record {
      family_is = (bytes_eq-Decides (family other) (family stream)).0 two.0;
      type_is = same_type (type_of other) (type_of stream) ((bytes_eq-Decides (type_name (type_of other)) (type_name (type_of stream))).0 two.1);
      unit_is = (bytes_eq-Decides (unit_text other) (unit_text stream)).0 three.1;
      boundaries_are = (slice_eq-Decides signed_Decides (boundaries_of other.aggregation) (boundaries_of stream.aggregation) b refl).0 all.1;
    }

-- what streams are that may stand under one name
record Shares (contents : Contents) (other stream : Stream) : Type 0 where
  one : AreOneFamily other stream
  first : is_scope_kept contents other ≡ false
  later : is_scope_kept contents stream ≡ false

shares : (contents : Contents) (other stream : Stream) → are_shared contents other stream ≡ true → Shares contents other stream
unfolding are_shared
shares contents other stream e =
    let all = both (is_alike other stream && not (is_scope_kept contents other)) (not (is_scope_kept contents stream)) e in
    let two = both (is_alike other stream) (not (is_scope_kept contents other)) all.0 in
    record { one = one_family other stream two.0; first = is_not (is_scope_kept contents other) two.1; later = is_not (is_scope_kept contents stream) all.1 }

same_claims : (a b : Stream) → AreOneFamily a b → claims_of a ≡ claims_of b
unfolding claims_of
same_claims a b one = ap (λ (f : List ℕ). claims_by f (type_of a)) one.family_is ∙ ap (claims_by (family b)) one.type_is

-- the first of a list that passes, among so many
record First {X : Type 0} (test : X → Bool) (xs : List X) (i n k : ℕ) : Type 0 where
  less : k < n
  none : position_from test i (take k xs) ≡ None
  item : X
  at : slice_get xs k ≡ Some item
  is : test item ≡ true

at_least : {X : Type 0} (test : X → Bool) (i : ℕ) (xs : List X) (m : ℕ) → position_from test i xs ≡ Some m → i ≤ m
at_least test i [] m e = absurd cc
at_least test i (x ∷ xs) m e = by (test x) e (at_least test (i + 1) xs m)
  where
    by : (b : Bool) → cond b (Some i) (position_from test (i + 1) xs) ≡ Some m → (position_from test (i + 1) xs ≡ Some m → i + 1 ≤ m) → i ≤ m
    by true e later = let same : i ≡ m = cc in omega arith
    by false e later = let above = later e in omega arith

first_is : {X : Type 0} (test : X → Bool) (i n : ℕ) (xs : List X) (k : ℕ) → position_from test i (take n xs) ≡ Some (i + k) → First test xs i n k
first_is test i zero xs k e = absurd cc
first_is test i (suc n) [] k e = absurd cc
first_is test i (suc n) (x ∷ xs) zero e = by (test x) refl e
  where
    by : (b : Bool) → test x ≡ b → cond b (Some i) (position_from test (i + 1) (take n xs)) ≡ Some (i + 0) → First test (x ∷ xs) i (suc n) 0
    by true is e = record { less = omega arith; none = refl; item = x; at = refl; is = is }
    by false is e = let above = at_least test (i + 1) (take n xs) (i + 0) e in absurd (omega arith)
first_is test i (suc n) (x ∷ xs) (suc k) e = by (test x) refl e (first_is test (i + 1) n xs k)
  where
    by : (b : Bool) → test x ≡ b → cond b (Some i) (position_from test (i + 1) (take n xs)) ≡ Some (i + suc k)
        → (position_from test (i + 1) (take n xs) ≡ Some (i + 1 + k) → First test xs (i + 1) n k) → First test (x ∷ xs) i (suc n) (suc k)
    by true is e later = let same : i ≡ i + suc k = cc in absurd (omega arith)
    by false is e later =
        let here : i + suc k ≡ i + 1 + k = omega arith in
        let found = later (e ∙ ap Some here) in
        let below = found.less in
        record {
          less = omega arith;
          none = ap (λ b. cond b (Some i) (position_from test (i + 1) (take k xs))) is ∙ found.none;
          item = found.item;
          at = found.at;
          is = found.is;
        }

module _ (contents : Contents) (streams : List Stream) (reader : ℕ) where
  -- a stream of the reader of which no stream before it claims a name
  record Head (place : ℕ) (stream : Stream) : Type 0 where
    at : slice_get streams place ≡ Some stream
    own : stream.reader ≡ reader
    none : (name : List ℕ) → is_among (claims_of stream) name ≡ true → name_fault place (first_claim reader (take place streams)) name ≡ None

  of_unled : (number : ℕ) (stream : Stream) → Passes contents streams reader number stream → Unled contents streams reader number stream → Head number stream
  of_unled number stream p unled = record {
    at = p.at;
    own = p.own;
    none = λ name among. each_none (name_fault number (first_claim reader (take number streams))) (claims_of stream) name unled.none among;
  }

  -- of two streams that claim one name the later one is none
  one_head : (before number : ℕ) (other stream : Stream) (name : List ℕ) → slice_get streams before ≡ Some other → other.reader ≡ reader → Head number stream → before < number
      → is_among (claims_of other) name ≡ true → is_among (claims_of stream) name ≡ true → ⊥
  unfolding first_claim
  one_head before number other stream name at own head less claimed claims =
      let none = not_claimed number (first_claim reader (take number streams)) name (head.none name claims) in
      let fails = none_passes (is_claimed reader name) 0 (take number streams) before other none (get_taken number streams before less ∙ at) in
      let wrong : true ≡ false = sym (ap (λ b. b && is_among (claims_of other) name) (eq-eqb other.reader reader own) ∙ claimed) ∙ fails in
      absurd cc

  -- the stream under whose name one stands
  record Root (number : ℕ) (stream : Stream) : Type 0 where
    place : ℕ
    within : place ≤ number
    root : Stream
    head : Head place root
    one : AreOneFamily root stream
    plain : is_scope_kept contents root ≡ false → is_scope_kept contents stream ≡ false

  of_led : (number : ℕ) (stream : Stream) → Passes contents streams reader number stream → (led : Led contents streams reader number stream) → (led.leader < number) × Head led.leader led.root
  unfolding first_claim
  of_led number stream p led =
      let here : led.leader ≡ 0 + led.leader = omega arith in
      let found = first_is (is_claimed reader (family stream)) 0 number streams led.leader (led.first ∙ ap Some here) in
      let same : found.item ≡ led.root = let both_at : Some found.item ≡ Some led.root = sym found.at ∙ led.at in cc in
      let passes = both (led.root.reader == reader) (is_among (claims_of led.root) (family stream)) (ap (is_claimed reader (family stream)) (sym same) ∙ found.is) in
      let own = (Decides-eqb led.root.reader reader).0 passes.0 in
      let root : Passes contents streams reader led.leader led.root = record { none = p.none; at = led.at; own = own } in
      let alike = shares contents led.root stream led.shared in
      (found.less, by root found.none alike.one.family_is (stands contents streams reader led.leader led.root root))
    where
      by : (root : Passes contents streams reader led.leader led.root) → position_from (is_claimed reader (family stream)) 0 (take led.leader streams) ≡ None
          → family led.root ≡ family stream → Unled contents streams reader led.leader led.root ⊎ Led contents streams reader led.leader led.root → Head led.leader led.root
      by root none same (inl unled) = of_unled led.leader led.root root unled
      by root none same (inr other) =
          let wrong : None ≡ Some other.leader =
          sym none ∙ ap (λ (f : List ℕ). position_from (is_claimed reader f) 0 (take led.leader streams)) (sym same) ∙ other.first in
          absurd cc

  root_of : (number : ℕ) (stream : Stream) → Passes contents streams reader number stream → Root number stream
  root_of number stream p = by (stands contents streams reader number stream p)
    where
      by : Unled contents streams reader number stream ⊎ Led contents streams reader number stream → Root number stream
      by (inl unled) = record {
        place = number;
        within = omega arith;
        root = stream;
        head = of_unled number stream p unled;
        one = record { family_is = refl; type_is = refl; unit_is = refl; boundaries_are = refl };
        plain = λ e. e;
      }
      by (inr led) =
          let head = of_led number stream p led in
          let less = head.0 in
          let alike = shares contents led.root stream led.shared in
          record { place = led.leader; within = omega arith; root = led.root; head = head.1; one = alike.one; plain = λ e. alike.later }

  among_same : (a b : Stream) (name : List ℕ) → AreOneFamily a b → is_among (claims_of b) name ≡ true → is_among (claims_of a) name ≡ true
  among_same a b name one among = ap (λ (names : List (List ℕ)). is_among names name) (same_claims a b one) ∙ among

  -- streams that stand under one name do so under that of one stream
  one_root : (k j : ℕ) (x y : Stream) (name : List ℕ) → Head k x → Head j y → is_among (claims_of x) name ≡ true → is_among (claims_of y) name ≡ true → x ≡ y
  one_root k j x y name first later one other = by (nat_lt k j) refl (nat_lt j k) refl
    where
      by : (b : Bool) → nat_lt k j ≡ b → (d : Bool) → nat_lt j k ≡ d → x ≡ y
      by true e d f = absurd (one_head k j x y name first.at first.own later (grind (arith, nat_tests)) one other)
      by false e true f = absurd (one_head j k y x name later.at later.own first (grind (arith, nat_tests)) other one)
      by false e false f =
          let here : k ≡ j = grind (arith, nat_tests) in
          let alike : Some x ≡ Some y = sym first.at ∙ ap (slice_get streams) here ∙ later.at in
          cc

  -- what two streams are that claim one name
  record Meet (other stream : Stream) : Type 0 where
    one : AreOneFamily other stream
    first : is_scope_kept contents other ≡ false
    later : is_scope_kept contents stream ≡ false
    apart : bytes_eq (scoped contents stream) (scoped contents other) ≡ false

  meet : (number : ℕ) (stream : Stream) (before : ℕ) (other : Stream) (name : List ℕ) → Passes contents streams reader number stream → Passes contents streams reader before other
      → before < number → is_among (claims_of other) name ≡ true → is_among (claims_of stream) name ≡ true → Meet other stream
  unfolding first_scoped
  meet number stream before other name p q less claimed claims = by (stands contents streams reader number stream p)
    where
      by : Unled contents streams reader number stream ⊎ Led contents streams reader number stream → Meet other stream
      by (inl unled) = absurd (one_head before number other stream name q.at q.own (of_unled number stream p unled) less claimed claims)
      by (inr led) =
          let head = of_led number stream p led in
          let alike = shares contents led.root stream led.shared in
          let root = root_of before other q in
          let same : root.root ≡ led.root =
          one_root root.place led.leader root.root led.root name root.head head.1 (among_same root.root other name root.one claimed) (among_same led.root stream name alike.one claims) in
          let fails = none_passes (is_scoped contents reader (scoped contents stream)) 0 (take number streams) before other led.fresh (get_taken number streams before less ∙ q.at) in
          let own = eq-eqb other.reader reader q.own in
          record {
            one = record {
              family_is = sym root.one.family_is ∙ ap family same ∙ alike.one.family_is;
              type_is = sym root.one.type_is ∙ ap type_of same ∙ alike.one.type_is;
              unit_is = sym root.one.unit_is ∙ ap unit_text same ∙ alike.one.unit_is;
              boundaries_are = sym root.one.boundaries_are ∙ ap (λ (s : Stream). boundaries_of s.aggregation) same ∙ alike.one.boundaries_are;
            };
            first = root.plain (ap (is_scope_kept contents) same ∙ alike.first);
            later = alike.later;
            apart = ap (λ b. b && bytes_eq (scoped contents stream) (scoped contents other)) (sym own) ∙ fails;
          }

pub families_are_apart : FamiliesAreApart
families_are_apart contents streams reader number stream before other name p q less claimed claims =
    (meet contents streams reader number stream before other name p q less claimed claims).one

pub none_claims_the_target : NoneClaimsTheTarget
none_claims_the_target contents streams reader number stream name p target = by (is_among (claims_of stream) name) refl
  where
    by : (b : Bool) → is_among (claims_of stream) name ≡ b → b ≡ false
    by false e = refl
    by true e =
        let root = root_of contents streams reader number stream p in
        let none = root.head.none name (among_same contents streams reader root.root stream name root.one e) in
        sym target ∙ not_of_target root.place (first_claim reader (take root.place streams)) name none

-- no key that is kept has a label of the scope
abbrev names_scope : List Label → Bool
names_scope labels = list_any (λ (label : Label). is_among scope_names label.0) labels

no_attribute : (keys : List Key) (kept : List Bool) (set : List ℕ) → keeps_scope keys kept ≡ false → names_scope (map attribute_label (attributes_of keys kept set)) ≡ false
no_attribute [] kept set e = refl
no_attribute (key ∷ keys) [] set e = refl
no_attribute (key ∷ keys) (b ∷ kept) [] e = refl
no_attribute (key ∷ keys) (false ∷ kept) (entry ∷ set) e = no_attribute keys kept set e
no_attribute (key ∷ keys) (true ∷ kept) (entry ∷ set) e =
    by (value_at key.values entry) (is_among scope_names (label_of key.name)) refl e (no_attribute keys kept set)
  where
    by : (o : Option AttrValue) (b : Bool) → is_among scope_names (label_of key.name) ≡ b → (b || keeps_scope keys kept) ≡ false
        → (keeps_scope keys kept ≡ false → names_scope (map attribute_label (attributes_of keys kept set)) ≡ false)
        → names_scope (map attribute_label (cons_option (option_map (λ value. (key.name, value)) o) (attributes_of keys kept set))) ≡ false
    by o true is e later = absurd cc
    by None false is e later = later e
    by (Some value) false is e later = ap (λ b. b || names_scope (map attribute_label (attributes_of keys kept set))) is ∙ later e

no_series : (keys : List Key) (kept : List Bool) (set : Option (List ℕ)) → keeps_scope keys kept ≡ false → names_scope (series_labels keys kept set) ≡ false
no_series keys kept (Some set) e = no_attribute keys kept set e
no_series keys kept None e = refl

-- a label of the scope stands behind those of keys
behind : (labels others : List Label) (name : List ℕ) → is_among scope_names name ≡ true → names_scope labels ≡ false → text_at (labels ++ others) name ≡ text_at others name
behind [] others name among e = refl
behind (label ∷ labels) others name among e = by (is_among scope_names label.0) refl e (behind labels others name among)
  where
    differs : (b : Bool) → bytes_eq label.0 name ≡ b → is_among scope_names label.0 ≡ false → b ≡ false
    differs false same none = refl
    differs true same none = sym among ∙ ap (is_among scope_names) (sym ((bytes_eq-Decides label.0 name).0 same)) ∙ none

    by : (b : Bool) → is_among scope_names label.0 ≡ b → (b || names_scope labels) ≡ false → (names_scope labels ≡ false → text_at (labels ++ others) name ≡ text_at others name)
        → cond (bytes_eq label.0 name && is_some label.1) label.1 (text_at (labels ++ others) name) ≡ text_at others name
    by true is e later = absurd cc
    by false is e later =
        ap (λ b. cond (b && is_some label.1) label.1 (text_at (labels ++ others) name)) (differs (bytes_eq label.0 name) refl is) ∙ later e

scope_shown : (meter : Meter) (keys : List Key) (kept : List Bool) (set : Option (List ℕ)) (name : List ℕ) → keeps_scope keys kept ≡ false → is_among scope_names name ≡ true
    → text_at (shown (point_labels meter keys kept set)) name ≡ text_at (scope_labels meter) name
unfolding point_labels
scope_shown meter keys kept set name plain among =
    text_shown (series_labels keys kept set ++ scope_labels meter) name
    ∙ behind (series_labels keys kept set) (scope_labels meter) name among (no_series keys kept set plain)

told : (text : List ℕ) → cond (is_some text) text [] ≡ text
told [] = refl
told (c ∷ text) = ap (λ b. cond b (c ∷ text) []) (some_is c text)

-- a label of a server is none of the scope's
abbrev one_meter : Meter
one_meter = record { name = codes "x"; version = codes "x"; schema_url = codes "x" }

not_exported : (name : List ℕ) → text_at (shown (scope_labels one_meter)) name ≡ codes "x" → (own : List ℕ) (n : ℕ) → is_among server_labels own ≡ true → exported n own ≢ name
not_exported name is own n among same =
    let none : text_at (shown (scope_labels one_meter)) name ≡ [] = ap (text_at (shown (scope_labels one_meter))) (sym same) ∙ scope_free one_meter own n among in
    let wrong : codes "x" ≡ [] = sym is ∙ none in
    cc

module _ (contents : Contents) (other stream : Stream) (meter own : Meter) (point its : Point)
    (first : is_scope_kept contents other ≡ false) (later : is_scope_kept contents stream ≡ false)
    (one : AreOne (shown_point contents other meter point) (shown_point contents stream own its)) where
  same_text : (name : List ℕ) → is_among scope_names name ≡ true → text_at (shown (scope_labels one_meter)) name ≡ codes "x"
      → text_at (scope_labels meter) name ≡ text_at (scope_labels own) name
  same_text name among is =
      sym (scope_shown meter (keys_of contents other) other.kept point.set name first among)
      ∙ one.apart name (not_exported name is)
      ∙ scope_shown own (keys_of contents stream) stream.kept its.set name later among

  same_name : meter.name ≡ own.name
  same_name = sym (told meter.name) ∙ same_text (codes "otel_scope_name") refl refl ∙ told own.name

  same_version : meter.version ≡ own.version
  same_version = sym (told meter.version) ∙ same_text (codes "otel_scope_version") refl refl ∙ told own.version

  same_url : meter.schema_url ≡ own.schema_url
  same_url = sym (told meter.schema_url) ∙ same_text (codes "otel_scope_schema_url") refl refl ∙ told own.schema_url

  pub same_scope : scope_text (Some meter) ≡ scope_text (Some own)
  same_scope =
      ap (λ (text : List ℕ). codes "\n" ++ text ++ codes "\n" ++ meter.version ++ codes "\n" ++ meter.schema_url) same_name
      ∙ ap (λ (text : List ℕ). codes "\n" ++ own.name ++ codes "\n" ++ text ++ codes "\n" ++ meter.schema_url) same_version
      ∙ ap (λ (text : List ℕ). codes "\n" ++ own.name ++ codes "\n" ++ own.version ++ codes "\n" ++ text) same_url

pub gathered_stay_apart : GatheredStayApart
unfolding scoped
gathered_stay_apart contents streams reader number stream before other meter own point its g one =
    let met = meet contents streams reader number stream before other g.name g.passes g.passed g.less g.claimed g.claims in
    let scope = same_scope contents other stream meter own point its met.first met.later one in
    let same : scoped contents stream ≡ scoped contents other =
    ap (λ (f : List ℕ). f ++ scope_text (meter_of contents stream)) (sym met.one.family_is)
    ∙ ap (λ (text : List ℕ). family other ++ text) (ap scope_text g.own_is ∙ sym scope ∙ sym (ap scope_text g.meter_is)) in
    let wrong : true ≡ false = sym ((bytes_eq-Decides (scoped contents stream) (scoped contents other)).1 same) ∙ met.apart in
    cc

pub gathered_are_apart : GatheredAreApart
gathered_are_apart contents streams reader number stream before other meter own point its g same =
    gathered_stay_apart contents streams reader number stream before other meter own point its g (record {
      moved = λ name many among. ap (λ (labels : List Label). held_by (texts_of labels name) many) same;
      apart = λ name free. ap (λ (labels : List Label). text_at labels name) same;
    })
