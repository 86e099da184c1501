-- Two points of a window are never one series of a server.
use Rattle.std.proofs.Common.{◌≡◌, ◌≢◌, ℕ, zero, suc, ◌+◌, ◌-◌, ◌/◌, ◌<◌, ◌≤◌, ◌⊎◌, Bool, true, false, cond, ◌&&◌, ◌||◌, List, [], ◌∷◌, ◌++◌, codes, drop, filter, length, map, Option, Some, None, inl, inr, refl, sym, ap, subst, ◌∙◌, arith, below_more}
use Rattle.std.specs.Prelude.{is_some as is_there, slice_get}
use Rattle.std.specs.List.{filter_map, flat_map, range_with_len, zip}
use Rattle.std.specs.Option.{option_map_or}
use Rattle.std.specs.Str.{bytes_eq}
use Rattle.std.proofs.lemmas.List.{length-map}
use Rattle.std.proofs.lemmas.List.Elements.{filter-append}
use Rattle.std.proofs.lemmas.List.Folds.{list_any-append}
use Rattle.std.proofs.lemmas.Slice.Eq.{bytes_eq-Decides}
use Rattle.metric_combinations.specs.Restrictions.{restricted}
use Rattle.metric_contents.specs.declared.contents.Contents.{Contents}
use Rattle.metric_contents.specs.declared.contents.Key.{Key}
use Rattle.metric_contents.specs.declared.contents.Meter.{Meter}
use Rattle.metric_views.specs.declared.stream.Stream.{Stream}
use Rattle.metric_facts.specs.Facts.{is_full_set, key_facts}
use Rattle.metric_history.specs.declared.entry.Entry.{Entry}
use Rattle.metric_history.specs.Points.{CountsOnce}
use Rattle.metric_history.specs.Series.{belongs, series}
use Rattle.metric_lines.specs.Keys.{attributes_of}
use Rattle.metric_family.specs.Families.{type_of}
use Rattle.metric_family.specs.Labels.{Label, attribute_label, label_of, point_labels, scope_labels, shown}
use Rattle.metric_family.specs.Words.{is_among, is_some}
use Rattle.metric_exposure.specs.Exposures.{reserved_of}
use Rattle.metric_exposure.specs.Sources.{keys_of, meter_of}
use Rattle.metric_exposure.specs.KeyFaults.{reserved_labels, scope_taken, type_labels}
use Rattle.metric_exposure.specs.Laws.{AreFull, AreOne, Passes, PointsStayApart, held_by, text_at, texts_of}
use Rattle.metric_exposure.specs.Renames.{exported, is_place, is_reached, is_shown_as, kept_key, key_as, may_lack, merged_labels, server_labels, takes}
use Rattle.metric_exposure.proofs.Chain.{Real, Texts, all_of, all_same, none_is}
use Rattle.metric_exposure.proofs.Passing.{key_passes}
use Rattle.metric_exposure.proofs.Pigeons.{exported_once, length_exported, pigeons}
use Rattle.metric_exposure.proofs.PointsApart.{Found, mark_taken, none_related}
use Rattle.metric_exposure.proofs.Series.{Tells, shown_keys, tells_of}
use Rattle.metric_exposure.proofs.Shown.{Fact, Seen, absent, fact, lacks, no_key, one_set, pick, pick_none, taking}

or_true : (b : Bool) → (b || true) ≡ true
or_true true = refl
or_true false = refl

same_bytes : (a b : List ℕ) → bytes_eq a b ≡ true → bytes_eq b a ≡ true
same_bytes a b e = (bytes_eq-Decides b a).1 (sym ((bytes_eq-Decides a b).0 e))

-- a key's label is among those of all keys
named_key : (keys : List Key) (kept : List Bool) (label : List ℕ) (key : Key) → key_as keys kept label ≡ Some key → is_among (map (λ (k : Key). label_of k.name) keys) label ≡ true
named_key [] kept label key e = absurd cc
named_key (k ∷ keys) [] label key e = absurd cc
named_key (k ∷ keys) (false ∷ kept) label key e = ap (λ b. bytes_eq label (label_of k.name) || b) (named_key keys kept label key e) ∙ or_true (bytes_eq label (label_of k.name))
named_key (k ∷ keys) (true ∷ kept) label key e = by (bytes_eq (label_of k.name) label) refl (is_shown_as label k) refl e (named_key keys kept label key)
  where
    others : List Key
    others = filter (is_shown_as label) (filter_map (λ x. kept_key x.0 x.1) (zip keys kept))

    by : (b : Bool) → bytes_eq (label_of k.name) label ≡ b → (d : Bool) → is_shown_as label k ≡ d → slice_get (cond d (k ∷ others) others) 0 ≡ Some key
        → (slice_get others 0 ≡ Some key → is_among (map (λ (k : Key). label_of k.name) keys) label ≡ true)
        → (bytes_eq label (label_of k.name) || is_among (map (λ (k : Key). label_of k.name) keys) label) ≡ true
    by true is d f at later = ap (λ b. b || is_among (map (λ (k : Key). label_of k.name) keys) label) (same_bytes (label_of k.name) label is)
    by false is false f at later = ap (λ b. bytes_eq label (label_of k.name) || b) (later at) ∙ or_true (bytes_eq label (label_of k.name))
    by false is true f at later = let wrong : false ≡ true = sym (and_false is) ∙ f in absurd cc
      where
        and_false : bytes_eq (label_of k.name) label ≡ false → is_shown_as label k ≡ false
        and_false e = rw e refl

-- a number that passes behind another one is not the first
member : (test : ℕ → Bool) (f : ℕ → List ℕ) (a n k : ℕ) → k < n → test (a + k) ≡ true → is_among (map f (filter test (range_with_len a n))) (f (a + k)) ≡ true
member test f a zero k below e = absurd (omega arith)
member test f a (suc n) zero below e =
    let same : a ≡ a + 0 = omega arith in
    let here : test a ≡ true = ap test same ∙ e in
    let own : bytes_eq (f (a + 0)) (f a) ≡ true = (bytes_eq-Decides (f (a + 0)) (f a)).1 (ap f (sym same)) in
    ap (λ b. is_among (map f (cond b (a ∷ filter test (range_with_len (a + 1) n)) (filter test (range_with_len (a + 1) n)))) (f (a + 0))) here
    ∙ ap (λ b. b || is_among (map f (filter test (range_with_len (a + 1) n))) (f (a + 0))) own
member test f a (suc n) (suc k) below e = by (test a) (λ g. member test f (a + 1) n k (omega arith) g)
  where
    next : a + 1 + k ≡ a + suc k
    next = omega arith

    Later : Type 0
    Later = test (a + 1 + k) ≡ true → is_among (map f (filter test (range_with_len (a + 1) n))) (f (a + 1 + k)) ≡ true

    rest : Later → is_among (map f (filter test (range_with_len (a + 1) n))) (f (a + suc k)) ≡ true
    rest later = ap (λ j. is_among (map f (filter test (range_with_len (a + 1) n))) (f j)) (sym next) ∙ later (ap test next ∙ e)

    by : (b : Bool) → Later → is_among (map f (cond b (a ∷ filter test (range_with_len (a + 1) n)) (filter test (range_with_len (a + 1) n)))) (f (a + suc k)) ≡ true
    by true later = ap (λ b. bytes_eq (f (a + suc k)) (f a) || b) (rest later) ∙ or_true (bytes_eq (f (a + suc k)) (f a))
    by false later = rest later

later_member : (test : ℕ → Bool) (f : ℕ → List ℕ) (a n i k : ℕ) → i < k → k < n → test (a + i) ≡ true → test (a + k) ≡ true
    → is_among (drop 1 (map f (filter test (range_with_len a n)))) (f (a + k)) ≡ true
later_member test f a zero i k less below e g = absurd (omega arith)
later_member test f a (suc n) i zero less below e g = absurd (omega arith)
later_member test f a (suc n) zero (suc k) less below e g =
    let same : a ≡ a + 0 = omega arith in
    let here : test a ≡ true = ap test same ∙ e in
    let next : a + 1 + k ≡ a + suc k = omega arith in
    let rest = filter test (range_with_len (a + 1) n) in
    ap (λ b. is_among (drop 1 (map f (cond b (a ∷ rest) rest))) (f (a + suc k))) here
    ∙ ap (λ j. is_among (map f rest) (f j)) (sym next) ∙ member test f (a + 1) n k (omega arith) (ap test next ∙ g)
later_member test f a (suc n) (suc i) (suc k) less below e g = by (test a) (λ h j. later_member test f (a + 1) n i k (omega arith) (omega arith) h j)
  where
    first : a + 1 + i ≡ a + suc i
    first = omega arith

    next : a + 1 + k ≡ a + suc k
    next = omega arith

    rest : List ℕ
    rest = filter test (range_with_len (a + 1) n)

    by : (b : Bool) → (test (a + 1 + i) ≡ true → test (a + 1 + k) ≡ true → is_among (drop 1 (map f rest)) (f (a + 1 + k)) ≡ true)
        → is_among (drop 1 (map f (cond b (a ∷ rest) rest))) (f (a + suc k)) ≡ true
    by true later = ap (λ j. is_among (map f rest) (f j)) (sym next) ∙ member test f (a + 1) n k (omega arith) (ap test next ∙ g)
    by false later = ap (λ j. is_among (drop 1 (map f rest)) (f j)) (sym next) ∙ later (ap test first ∙ e) (ap test next ∙ g)

-- The texts under one label of a server are told apart.
module _ (taken : List (List ℕ)) (keys : List Key) (kept : List Bool) (tells : Tells taken keys kept) (own : List ℕ)
    (merged : (label : List ℕ) → is_among (merged_labels keys kept own) label ≡ true → is_among taken label ≡ true) where
  record There (n : ℕ) : Type 0 where
    key : Key
    is : key_as keys kept (exported n own) ≡ Some key

  record Has (n : ℕ) (text : List ℕ) : Type 0 where
    key : Key
    is : key_as keys kept (exported n own) ≡ Some key
    seen : Seen key text

  abbrev Lacks : ℕ → Type 0
  Lacks n = (key : Key) → key_as keys kept (exported n own) ≡ Some key → may_lack key ≡ true

  record Place (n : ℕ) : Type 0 where
    below : n < length keys
    is : is_place keys kept own n ≡ true

  few_keys : (n : ℕ) → ((k : ℕ) → k < n → There k) → n ≤ length keys
  few_keys n each =
      let less = pigeons (λ k. exported k own) (exported_once own) n (map (λ (k : Key). label_of k.name) keys) (λ k below. let t = each k below in named_key keys kept (exported k own) t.key t.is) in
      omega (arith, length-map keys (λ (k : Key). label_of k.name))

  few : (n : ℕ) → ((k : ℕ) → k < n → There (suc k)) → n ≤ length keys
  few n each =
      let less = pigeons (λ k. exported (suc k) own) (λ i j e. let one = exported_once own (suc i) (suc j) e in omega arith) n (map (λ (k : Key). label_of k.name) keys)
      (λ k below. let t = each k below in named_key keys kept (exported (suc k) own) t.key t.is) in
      omega (arith, length-map keys (λ (k : Key). label_of k.name))

  place : (n : ℕ) (text : List ℕ) → ((k : ℕ) → k < n → There k) → There n → Lacks n → is_some text ≡ true → Has 0 text → Has n text → Place n
  place n text each there lacking some first here =
      let within : n + 1 ≤ length keys = few_keys (n + 1) (below_more There n each there) in
      let reached : is_reached keys kept own n ≡ true = all_of (λ k. is_there (key_as keys kept (exported k own))) 0 n (λ k below.
      let t = each k below in
      let same : 0 + k ≡ k = omega arith in
      ap (λ j. is_there (key_as keys kept (exported j own))) same ∙ ap is_there t.is) in
      record {
        below = omega arith;
        is =
            ap (λ b. b && takes (key_as keys kept own) (key_as keys kept (exported n own))) reached
            ∙ ap (λ (o : Option Key). takes o (key_as keys kept (exported n own))) first.is ∙ ap (takes (Some first.key)) here.is
            ∙ taking first.key here.key text some first.seen here.seen (lacking here.key here.is);
      }

  one_place : (i k : ℕ) → i < k → Place i → Place k → ⊥
  unfolding merged_labels
  one_place i k less p q =
      let test = is_place keys kept own in
      let one : 0 + i ≡ i = omega arith in
      let two : 0 + k ≡ k = omega arith in
      let in_list = later_member test (λ n. exported n own) 0 (length keys) i k less q.below (ap test one ∙ p.is) (ap test two ∙ q.is) in
      let among : is_among (merged_labels keys kept own) (exported k own) ≡ true = ap (λ j. is_among (merged_labels keys kept own) (exported j own)) (sym two) ∙ in_list in
      let none = no_key taken (exported k own) keys kept tells (merged (exported k own) among) in
      let wrong : true ≡ false = sym q.is ∙ ap (λ (o : Option Key). is_reached keys kept own k && takes (key_as keys kept own) o) none ∙ by (is_reached keys kept own k) (key_as keys kept own) in
      cc
    where
      by : (b : Bool) (o : Option Key) → (b && takes o None) ≡ false
      by true None = refl
      by true (Some key) = refl
      by false o = refl

  abbrev texts : List ℕ → Texts
  texts set n = text_at (shown_keys keys kept (restricted kept set)) (exported n own)

  real : (set : List ℕ) → is_full_set (map key_facts keys) set ≡ true → Real There Lacks Has (texts set)
  real set full = record {
    shown = λ n some. let h = having n some in record { key = h.key; is = h.is };
    has = having;
    lacks = λ n there none key is. lacking n none key is;
  }
    where
      having : (n : ℕ) → is_some (texts set n) ≡ true → Has n (texts set n)
      having n some = by (key_as keys kept (exported n own)) refl (fact taken keys kept set (exported n own) tells full)
        where
          by : (o : Option Key) → key_as keys kept (exported n own) ≡ o → Fact o (texts set n) → Has n (texts set n)
          by None is e = let wrong : true ≡ false = sym some ∙ ap is_some e in absurd cc
          by (Some key) is seen = record { key = key; is = is; seen = seen }

      lacking : (n : ℕ) → is_some (texts set n) ≡ false → (key : Key) → key_as keys kept (exported n own) ≡ Some key → may_lack key ≡ true
      lacking n none key is =
          let here = subst (λ (o : Option Key). Fact o (texts set n)) is (fact taken keys kept set (exported n own) tells full) in
          lacks key (subst (Seen key) (none_is (texts set n) none) here)

  pub alike : (s t : List ℕ) → is_full_set (map key_facts keys) s ≡ true → is_full_set (map key_facts keys) t ≡ true
      → ((n : ℕ) → held_by (texts s) n ≡ held_by (texts t) n) → (n : ℕ) → texts s n ≡ texts t n
  alike s t p q same = all_same There Lacks Has Place (length keys) place one_place few (texts s) (texts t) (real s p) (real t q) same

-- texts of labels, one list after the other
pick_some : (text other : List ℕ) → is_some text ≡ true → text ≡ pick text other
pick_some [] other e = absurd cc
pick_some (c ∷ text) other e = refl

and_second : (a b : Bool) → (a && b) ≡ true → b ≡ true
and_second true b e = e
and_second false b e = absurd cc

text_append : (labels others : List Label) (name : List ℕ) → text_at (labels ++ others) name ≡ pick (text_at labels name) (text_at others name)
text_append [] others name = refl
text_append (label ∷ labels) others name = by (bytes_eq label.0 name && is_some label.1) refl (text_append labels others name)
  where
    by : (b : Bool) → (bytes_eq label.0 name && is_some label.1) ≡ b → text_at (labels ++ others) name ≡ pick (text_at labels name) (text_at others name)
        → cond b label.1 (text_at (labels ++ others) name) ≡ pick (cond b label.1 (text_at labels name)) (text_at others name)
    by true e later = pick_some label.1 (text_at others name) (and_second (bytes_eq label.0 name) (is_some label.1) e)
    by false e later = later

or_first : (a b : Bool) → (a || b) ≡ false → a ≡ false
or_first true b e = e
or_first false b e = refl

or_second : (a b : Bool) → (a || b) ≡ false → b ≡ false
or_second true b e = absurd cc
or_second false b e = e

not_same : (a b : List ℕ) → bytes_eq a b ≡ false → bytes_eq b a ≡ false
not_same a b e = by (bytes_eq b a) refl
  where
    by : (d : Bool) → bytes_eq b a ≡ d → d ≡ false
    by false f = refl
    by true f = sym (same_bytes b a f) ∙ e

text_none : (labels : List Label) (name : List ℕ) → is_among (map (λ (label : Label). label.0) labels) name ≡ false → text_at labels name ≡ []
text_none [] name e = refl
text_none (label ∷ labels) name e =
    ap (λ b. cond (b && is_some label.1) label.1 (text_at labels name)) (not_same name label.0 (or_first (bytes_eq name label.0) _ e))
    ∙ text_none labels name (or_second (bytes_eq name label.0) _ e)

pub text_shown : (labels : List Label) (name : List ℕ) → text_at (shown labels) name ≡ text_at labels name
text_shown [] name = refl
text_shown (label ∷ labels) name = by (is_some label.1) refl (text_shown labels name)
  where
    by : (b : Bool) → is_some label.1 ≡ b → text_at (shown labels) name ≡ text_at labels name
        → text_at (cond b (label ∷ shown labels) (shown labels)) name ≡ cond (bytes_eq label.0 name && b) label.1 (text_at labels name)
    by true e later =
        ap (λ d. cond (bytes_eq label.0 name && d) label.1 (text_at (shown labels) name)) e
        ∙ ap (λ (text : List ℕ). cond (bytes_eq label.0 name && true) label.1 text) later
    by false e later = later ∙ none (bytes_eq label.0 name)
      where
        none : (d : Bool) → text_at labels name ≡ cond (d && false) label.1 (text_at labels name)
        none true = refl
        none false = refl

-- No label of a scope is one of a server.
pub scope_free : (meter : Meter) (own : List ℕ) (n : ℕ) → is_among server_labels own ≡ true → text_at (shown (scope_labels meter)) (exported n own) ≡ []
scope_free meter own n among = text_shown (scope_labels meter) (exported n own) ∙ by n (bytes_eq own (codes "job")) refl (bytes_eq own (codes "instance")) refl among
  where
    by : (n : ℕ) → (b : Bool) → bytes_eq own (codes "job") ≡ b → (d : Bool) → bytes_eq own (codes "instance") ≡ d → (b || (d || false)) ≡ true → text_at (scope_labels meter) (exported n own) ≡ []
    by (suc n) b e d f among = refl
    by zero true e d f among = let same = (bytes_eq-Decides own (codes "job")).0 e in ap (text_at (scope_labels meter)) same
    by zero false e true f among = let same = (bytes_eq-Decides own (codes "instance")).0 f in ap (text_at (scope_labels meter)) same
    by zero false e false f among = absurd cc

-- whether a name is a label with some `exported_`
record IsExported (own name : List ℕ) : Type 0 where
  times : ℕ
  is : exported times own ≡ name

exported_or_not : (own name : List ℕ) → IsExported own name ⊎ ((n : ℕ) → exported n own ≢ name)
exported_or_not own name = by (bytes_eq (exported times own) name) refl
  where
    times : ℕ
    times = (length name - length own) / 9

    by : (b : Bool) → bytes_eq (exported times own) name ≡ b → IsExported own name ⊎ ((n : ℕ) → exported n own ≢ name)
    by true e = inl (record { times = times; is = (bytes_eq-Decides (exported times own) name).0 e })
    by false e = inr (λ n is.
        let long = length_exported n own in
        let same = ap length is in
        let one : (length name - length own) / 9 ≡ n = omega arith in
        let wrong : true ≡ false = sym ((bytes_eq-Decides (exported times own) name).1 (ap (λ k. exported k own) one ∙ is)) ∙ e in
        cc)

-- nor is a label of a server the mark of the overflow series
not_mark : (own : List ℕ) (n : ℕ) → is_among server_labels own ≡ true → exported n own ≢ codes "otel_metric_overflow"
not_mark own (suc n) among is = let wrong : false ≡ true = (bytes_eq-Decides (exported (suc n) own) (codes "otel_metric_overflow")).1 is in cc
not_mark own zero among is = by (bytes_eq own (codes "job")) refl (bytes_eq own (codes "instance")) refl among
  where
    by : (b : Bool) → bytes_eq own (codes "job") ≡ b → (d : Bool) → bytes_eq own (codes "instance") ≡ d → (b || (d || false)) ≡ true → ⊥
    by true e d f among =
        let wrong : false ≡ true = (bytes_eq-Decides (codes "job") (codes "otel_metric_overflow")).1 (sym ((bytes_eq-Decides own (codes "job")).0 e) ∙ is) in
        cc
    by false e true f among =
        let wrong : false ≡ true = (bytes_eq-Decides (codes "instance") (codes "otel_metric_overflow")).1 (sym ((bytes_eq-Decides own (codes "instance")).0 f) ∙ is) in
        cc
    by false e false f among = cc

-- what is reserved
front_taken : (labels others : List (List ℕ)) (name : List ℕ) → is_among labels name ≡ true → is_among (labels ++ others) name ≡ true
front_taken labels others name e = list_any-append (bytes_eq name) labels others ∙ ap (λ b. b || is_among others name) e

back_taken : (labels others : List (List ℕ)) (name : List ℕ) → is_among others name ≡ true → is_among (labels ++ others) name ≡ true
back_taken labels others name e = list_any-append (bytes_eq name) labels others ∙ ap (λ b. is_among labels name || b) e ∙ or_true (is_among labels name)

scope_reserved : (contents : Contents) (stream : Stream) (meter : Meter) (name : List ℕ) → meter_of contents stream ≡ Some meter → is_among (scope_taken meter) name ≡ true
    → is_among (reserved_of contents stream) name ≡ true
unfolding reserved_of reserved_labels
scope_reserved contents stream meter name is e =
    let type = type_labels (type_of stream) in
    let scope = option_map_or scope_taken (meter_of contents stream) [] in
    let merged = flat_map (merged_labels (keys_of contents stream) stream.kept) server_labels in
    front_taken (type ++ scope) merged name (back_taken type scope name (ap (λ (o : Option Meter). is_among (option_map_or scope_taken o []) name) is ∙ e))

among_each : (f : List ℕ → List (List ℕ)) (xs : List (List ℕ)) (x name : List ℕ) → is_among xs x ≡ true → is_among (f x) name ≡ true → is_among (flat_map f xs) name ≡ true
among_each f [] x name among e = absurd cc
among_each f (y ∷ xs) x name among e = by (bytes_eq x y) refl among (λ other. among_each f xs x name other e)
  where
    by : (b : Bool) → bytes_eq x y ≡ b → (b || is_among xs x) ≡ true → (is_among xs x ≡ true → is_among (flat_map f xs) name ≡ true) → is_among (f y ++ flat_map f xs) name ≡ true
    by true is among later = front_taken (f y) (flat_map f xs) name (ap (λ (z : List ℕ). is_among (f z) name) (sym ((bytes_eq-Decides x y).0 is)) ∙ e)
    by false is among later = back_taken (f y) (flat_map f xs) name (later among)

merged_reserved : (contents : Contents) (stream : Stream) (own name : List ℕ) → is_among server_labels own ≡ true → is_among (merged_labels (keys_of contents stream) stream.kept own) name ≡ true
    → is_among (reserved_of contents stream) name ≡ true
unfolding reserved_of reserved_labels
merged_reserved contents stream own name among e =
    let type = type_labels (type_of stream) in
    let scope = option_map_or scope_taken (meter_of contents stream) [] in
    back_taken (type ++ scope) (flat_map (merged_labels (keys_of contents stream) stream.kept) server_labels) name
    (among_each (merged_labels (keys_of contents stream) stream.kept) server_labels own name among e)

module _ (contents : Contents) (streams : List Stream) (reader number : ℕ) (stream : Stream) (p : Passes contents streams reader number stream)
    (meter : Meter) (of_meter : meter_of contents stream ≡ Some meter) where
  abbrev taken : List (List ℕ)
  taken = reserved_of contents stream

  abbrev keys : List Key
  keys = keys_of contents stream

  tells : Tells taken keys stream.kept
  tells = tells_of taken keys stream.kept (key_passes contents streams reader number stream p)

  abbrev labels_of : Option (List ℕ) → List Label
  labels_of set = shown (point_labels meter keys stream.kept set)

  abbrev scope : List ℕ → List ℕ
  scope name = text_at (shown (scope_labels meter)) name

  abbrev keyed : List ℕ → List ℕ → List ℕ
  keyed set name = text_at (shown_keys keys stream.kept (restricted stream.kept set)) name

  parts : (set name : List ℕ) → text_at (labels_of (Some set)) name ≡ pick (text_at (shown_keys keys stream.kept set) name) (scope name)
  unfolding point_labels
  parts set name =
      let own = map attribute_label (attributes_of keys stream.kept set) in
      ap (λ (labels : List Label). text_at labels name) (filter-append (λ (label : Label). is_some label.1) own (scope_labels meter))
      ∙ text_append (shown own) (shown (scope_labels meter)) name

  no_scope : (set name : List ℕ) → scope name ≡ [] → text_at (labels_of (Some (restricted stream.kept set))) name ≡ keyed set name
  no_scope set name e = parts (restricted stream.kept set) name ∙ ap (pick (keyed set name)) e ∙ pick_none (keyed set name)

  module _ (s t : List ℕ) (full : is_full_set (map key_facts keys) s ≡ true) (also : is_full_set (map key_facts keys) t ≡ true)
      (one : AreOne (labels_of (Some (restricted stream.kept s))) (labels_of (Some (restricted stream.kept t)))) where
    moved : (own : List ℕ) → is_among server_labels own ≡ true → (n : ℕ) → keyed s (exported n own) ≡ keyed t (exported n own)
    moved own among = alike taken keys stream.kept tells own (λ label e. merged_reserved contents stream own label among e) s t full also (λ n.
        let here : texts_of (labels_of (Some (restricted stream.kept s))) own ≡ (λ k. keyed s (exported k own)) = λ i k. no_scope s (exported k own) (scope_free meter own k among) i in
        let there : texts_of (labels_of (Some (restricted stream.kept t))) own ≡ (λ k. keyed t (exported k own)) = λ i k. no_scope t (exported k own) (scope_free meter own k among) i in
        sym (ap (λ (f : ℕ → List ℕ). held_by f n) here) ∙ one.moved own n among ∙ ap (λ (f : ℕ → List ℕ). held_by f n) there)

    job : is_among server_labels (codes "job") ≡ true
    job = refl

    instance : is_among server_labels (codes "instance") ≡ true
    instance = refl

    -- a label that a key has
    of_key : (name : List ℕ) → scope name ≡ [] → keyed s name ≡ keyed t name
    of_key name none = by (exported_or_not (codes "job") name) (exported_or_not (codes "instance") name)
      where
        of : (own : List ℕ) → is_among server_labels own ≡ true → IsExported own name → keyed s name ≡ keyed t name
        of own among e = subst (λ (label : List ℕ). keyed s label ≡ keyed t label) e.is (moved own among e.times)

        neither : ((n : ℕ) → exported n (codes "job") ≢ name) → ((n : ℕ) → exported n (codes "instance") ≢ name) → (own : List ℕ) (n : ℕ) → is_among server_labels own ≡ true → exported n own ≢ name
        neither f g own n among is = which (bytes_eq own (codes "job")) refl (bytes_eq own (codes "instance")) refl among
          where
            which : (b : Bool) → bytes_eq own (codes "job") ≡ b → (d : Bool) → bytes_eq own (codes "instance") ≡ d → (b || (d || false)) ≡ true → ⊥
            which true e d h among = f n (ap (exported n) (sym ((bytes_eq-Decides own (codes "job")).0 e)) ∙ is)
            which false e true h among = g n (ap (exported n) (sym ((bytes_eq-Decides own (codes "instance")).0 h)) ∙ is)
            which false e false h among = cc

        by : IsExported (codes "job") name ⊎ ((n : ℕ) → exported n (codes "job") ≢ name) → IsExported (codes "instance") name ⊎ ((n : ℕ) → exported n (codes "instance") ≢ name)
            → keyed s name ≡ keyed t name
        by (inl e) other = of (codes "job") job e
        by (inr f) (inl e) = of (codes "instance") instance e
        by (inr f) (inr g) = sym (no_scope s name none) ∙ one.apart name (neither f g) ∙ no_scope t name none

    all_labels : (name : List ℕ) → keyed s name ≡ keyed t name
    all_labels name = by (key_as keys stream.kept name) refl (fact taken keys stream.kept s name tells full) (fact taken keys stream.kept t name tells also)
      where
        by : (o : Option Key) → key_as keys stream.kept name ≡ o → Fact o (keyed s name) → Fact o (keyed t name) → keyed s name ≡ keyed t name
        by None is e f = e ∙ sym f
        by (Some key) is e f = free (is_among (scope_taken meter) name) refl
          where
            free : (b : Bool) → is_among (scope_taken meter) name ≡ b → keyed s name ≡ keyed t name
            free true among =
                let none = no_key taken name keys stream.kept tells (scope_reserved contents stream meter name of_meter among) in
                let wrong : Some key ≡ None = sym is ∙ none in
                absurd cc
            free false among = of_key name (text_none (shown (scope_labels meter)) name among)

  -- No series is the overflow series.
  mark_free : (set : List ℕ) → AreOne (labels_of (Some set)) (labels_of None) → ⊥
  unfolding point_labels
  mark_free set one =
      let mark : List ℕ = codes "otel_metric_overflow" in
      let none = absent taken mark keys stream.kept set tells (mark_taken contents stream) in
      let here : text_at (labels_of (Some set)) mark ≡ [] = parts set mark ∙ ap (λ (text : List ℕ). pick text (scope mark)) none ∙ text_shown (scope_labels meter) mark in
      let there : text_at (labels_of None) mark ≡ codes "true" = refl in
      let same : [] ≡ codes "true" = sym here ∙ one.apart mark not_mark ∙ there in
      cc

  same_set : length stream.kept ≡ length keys → (window : List Entry) → AreFull contents stream window → (a b : Option (List ℕ))
      → Found (belongs stream window a) window → Found (belongs stream window b) window → AreOne (labels_of a) (labels_of b) → a ≡ b
  same_set long window full None None f g e = refl
  same_set long window full (Some a) None f g e = absurd (mark_free a e)
  same_set long window full None (Some b) f g e = absurd (mark_free b (record { moved = λ own n among. sym (e.moved own n among); apart = λ name free. sym (e.apart name free) }))
  same_set long window full (Some a) (Some b) f g e =
      let one : series stream.kept f.entry ≡ a = (bytes_eq-Decides (series stream.kept f.entry) a).0 f.is in
      let two : series stream.kept g.entry ≡ b = (bytes_eq-Decides (series stream.kept g.entry) b).0 g.is in
      let here = full.each f.place f.entry f.at in
      let there = full.each g.place g.entry g.at in
      let alike : AreOne (labels_of (Some (series stream.kept f.entry))) (labels_of (Some (series stream.kept g.entry))) =
      subst (λ (x : List ℕ). AreOne (labels_of (Some x)) (labels_of (Some (series stream.kept g.entry)))) (sym one)
      (subst (λ (x : List ℕ). AreOne (labels_of (Some a)) (labels_of (Some x))) (sym two) e) in
      ap Some (sym one ∙ one_set taken keys stream.kept f.entry.set g.entry.set tells long here.0 there.0 (here.1 ∙ sym there.1) (all_labels f.entry.set g.entry.set here.0 there.0 alike) ∙ two)

pub points_stay_apart : ((s : Stream) (window : List Entry) → CountsOnce s window) → PointsStayApart
points_stay_apart once_each contents streams reader number stream meter window first later here there p of_meter long full less at also e =
    let labels = labels_of contents streams reader number stream p meter of_meter in
    none_related stream window (λ (a b : Option (List ℕ)). AreOne (labels a) (labels b)) (once_each stream window)
    (same_set contents streams reader number stream p meter of_meter long window full) first later here there less at also e
