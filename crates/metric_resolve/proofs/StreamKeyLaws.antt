-- Streams have equal keys exactly where they have equal identities.
use Rattle.std.proofs.Common.{◌≡◌, ℕ, zero, suc, ◌<◌, ◌≤◌, Bool, true, false, ◌&&◌, ◌==◌, List, [], ◌∷◌, length, Option, Some, None, Decides, refl, sym, ap, subst, ◌∙◌, arith, ◌⊎◌, inl, inr}
use Rattle.std.specs.Cmp.{tied_then}
use Rattle.std.specs.Cmp.Lexicographic.{slice_cmp}
use Rattle.std.specs.Option.{option_map}
use Rattle.std.specs.Ordering.{eq_by_cmp, is_eq, nat_cmp}
use Rattle.std.specs.Prelude.{option_and_then, slice_get}
use Rattle.std.proofs.lemmas.Bool.{cases_lt}
use Rattle.std.proofs.lemmas.Bool.Decides.{Decides-eqb, nat_tests}
use Rattle.std.proofs.lemmas.Map.Text.{is_eq-slice_cmp}
use Rattle.std.proofs.lemmas.Option.{get_or_from_slice_get, slice_get_within}
use Rattle.std.proofs.lemmas.Slice.Eq.{bytes_eq-Decides}
use Rattle.metric_names.specs.Names.{folded}
use Rattle.metric_contents.specs.declared.contents.Contents.{Contents}
use Rattle.metric_contents.specs.declared.contents.Instrument.{Instrument}
use Rattle.metric_contents.specs.declared.contents.Meter.{Meter}
use Rattle.metric_catalogue.specs.Sound.{IsSound}
use Rattle.metric_views.specs.declared.stream.Stream.{Stream}
use Rattle.metric_resolve.specs.declared.stream_key.StreamKey.{StreamKey}
use Rattle.metric_resolve.specs.Collisions.{Identity, identity_of, identity_with, is_same}
use Rattle.metric_resolve.specs.StreamKeys.{IsKeyOf, identity_by, key_identity, key_order}
use Rattle.metric_resolve.proofs.Same.{both, is_same-Decides}

same_number : (x y : ℕ) → Decides (is_eq (nat_cmp x y)) (x ≡ y)
same_number x y = let tested : (x == y) ≡ is_eq (nat_cmp x y) = grind (arith, nat_tests) in subst (λ b. Decides b (x ≡ y)) tested (Decides-eqb x y)

same_bytes : (xs ys : List ℕ) → Decides (is_eq (slice_cmp nat_cmp xs ys)) (xs ≡ ys)
same_bytes xs ys = subst (λ b. Decides b (xs ≡ ys)) (sym (is_eq-slice_cmp xs ys)) (bytes_eq-Decides xs ys)

-- the parts of equal keys
abbrev HasSameParts : StreamKey → StreamKey → Type 0
HasSameParts k l = (k.reader ≡ l.reader) × ((k.meter ≡ l.meter) × (folded k.name ≡ folded l.name))

same_parts : (k l : StreamKey) → Decides (eq_by_cmp key_order k l) (HasSameParts k l)
same_parts k l =
    let parts = both _ _ (same_number k.reader l.reader) (both _ _ (same_number k.meter l.meter) (same_bytes (folded k.name) (folded l.name))) in
    let inner = tied_then (nat_cmp k.meter l.meter) (slice_cmp nat_cmp (folded k.name) (folded l.name)) in
    let outer = tied_then (nat_cmp k.reader l.reader) _ in
    subst (λ b. Decides b (HasSameParts k l)) (ap (λ b. is_eq (nat_cmp k.reader l.reader) && b) inner ∙ outer) parts

-- No meter is an earlier one.
not_before : (contents : Contents) → IsSound contents → (i j : ℕ) (a b : Meter) → slice_get contents.meters i ≡ Some a → slice_get contents.meters j ≡ Some b
    → a ≡ b → i < j → ⊥
not_before contents sound i j a b at_a at_b same less =
    sound.meters.apart i j a less (slice_get_within contents.meters j b at_b)
    (get_or_from_slice_get contents.meters i a a at_a ∙ same ∙ sym (get_or_from_slice_get contents.meters j b a at_b))

-- a meter is told by its texts
one_meter : (contents : Contents) → IsSound contents → (i j : ℕ) (a b : Meter) → slice_get contents.meters i ≡ Some a → slice_get contents.meters j ≡ Some b
    → a.name ≡ b.name → a.version ≡ b.version → a.schema_url ≡ b.schema_url → i ≡ j
one_meter contents sound i j a b at_a at_b name version url = by (cases_lt i j) (cases_lt j i)
  where
    same : a ≡ b
    same = λ k. record { name = name k; version = version k; schema_url = url k }

    by : (i < j) ⊎ (j ≤ i) → (j < i) ⊎ (i ≤ j) → i ≡ j
    by (inl less) _ = absurd (not_before contents sound i j a b at_a at_b same less)
    by (inr _) (inl less) = absurd (not_before contents sound j i b a at_b at_a (sym same) less)
    by (inr p) (inr q) = omega arith

equal_tests : (a b : Bool) → (a ≡ true → b ≡ true) → (b ≡ true → a ≡ true) → a ≡ b
equal_tests true true f g = refl
equal_tests true false f g = sym (f refl)
equal_tests false true f g = g refl
equal_tests false false f g = refl

-- the meter of a key that has an identity
record HasMeter (contents : Contents) (k : StreamKey) (x : Identity) : Type 0 where
  meter : Meter
  at : slice_get contents.meters k.meter ≡ Some meter
  is : key_identity k meter ≡ x

meter_of_key : (contents : Contents) (k : StreamKey) (x : Identity) → identity_by contents k ≡ Some x → HasMeter contents k x
meter_of_key contents k x e = by (slice_get contents.meters k.meter) refl e
  where
    by : (o : Option Meter) → slice_get contents.meters k.meter ≡ o → option_map (key_identity k) o ≡ Some x → HasMeter contents k x
    by (Some m) at e = record { meter = m; at = at; is = cc }
    by None at e = absurd cc

pub same_keys : (contents : Contents) → IsSound contents → (k l : StreamKey) (x y : Identity) → identity_by contents k ≡ Some x → identity_by contents l ≡ Some y
    → eq_by_cmp key_order k l ≡ is_same x y
same_keys contents sound k l x y of_k of_l = equal_tests _ _ onward back
  where
    p : HasMeter contents k x
    p = meter_of_key contents k x of_k

    q : HasMeter contents l y
    q = meter_of_key contents l y of_l

    onward : eq_by_cmp key_order k l ≡ true → is_same x y ≡ true
    onward e =
        let parts = (same_parts k l).0 e in
        let meters : p.meter ≡ q.meter = (let at = p.at in let other = q.at in let moved = ap (slice_get contents.meters) parts.1.0 in cc) in
        let made : key_identity k p.meter ≡ key_identity l q.meter =
        λ j. record { reader = parts.0 j; meter = (meters j).name; version = (meters j).version; schema_url = (meters j).schema_url; name = parts.1.1 j } in
        (is_same-Decides x y).1 (sym p.is ∙ made ∙ q.is)

    back : is_same x y ≡ true → eq_by_cmp key_order k l ≡ true
    back e =
        let same : key_identity k p.meter ≡ key_identity l q.meter = p.is ∙ (is_same-Decides x y).0 e ∙ sym q.is in
        let meter = one_meter contents sound k.meter l.meter p.meter q.meter p.at q.at (ap (λ (i : Identity). i.meter) same) (ap (λ (i : Identity). i.version) same) (ap (λ (i : Identity). i.schema_url) same) in
        (same_parts k l).1 (ap (λ (i : Identity). i.reader) same, (meter, ap (λ (i : Identity). i.name) same))

absent : (ms : List Meter) (n : ℕ) → n < length ms → slice_get ms n ≡ None → ⊥
absent [] n within e = absurd (omega arith)
absent (m ∷ ms) zero within e = cc
absent (m ∷ ms) (suc n) within e = absent ms n (omega arith) e

-- the key that is made of a stream
pub key_made : (contents : Contents) (stream : Stream) (key : StreamKey) (i : Instrument) → IsSound contents → slice_get contents.instruments stream.instrument ≡ Some i
    → key.reader ≡ stream.reader → key.meter ≡ i.meter → key.name ≡ stream.name → IsKeyOf contents stream key
unfolding identity_of
key_made contents stream key i sound at reader meter name =
    let known = sound.instruments.each stream.instrument i (slice_get_within contents.instruments stream.instrument i at) in
    let is = get_or_from_slice_get contents.instruments stream.instrument i i at in
    let within = subst (λ (instrument : Instrument). instrument.meter < length contents.meters) is known.known in
    by (slice_get contents.meters i.meter) refl within
  where
    by : (o : Option Meter) → slice_get contents.meters i.meter ≡ o → i.meter < length contents.meters → IsKeyOf contents stream key
    by (Some m) there within =
        let same : key_identity key m ≡ identity_with stream m =
        λ j. record { reader = reader j; meter = m.name; version = m.version; schema_url = m.schema_url; name = folded (name j) } in
        record {
          identity = identity_with stream m;
          of_key = ap (λ o. option_map (key_identity key) o) (ap (slice_get contents.meters) meter ∙ there) ∙ ap (λ (x : Identity). Some x) same;
          of_stream = ap (λ o. option_map (identity_with stream) o) (ap (λ o. option_and_then (λ (instrument : Instrument). slice_get contents.meters instrument.meter) o) at ∙ there);
        }
    by None there within = absurd (absent contents.meters i.meter within there)
