-- What has a valid certificate can overflow neither a limit nor a number.
use Rattle.std.proofs.Common.{◌≡◌, ◌≢◌, ℕ, ◌+◌, ◌<◌, ◌≤◌, IsTrue, List, [], ◌∷◌, length, All, Contains, IsSomeAnd, get_or, min, ◌⊎◌, Option, Some, slice_get, sym, ap, subst, ◌∙◌, inl, inr, arith}
use Rattle.std.specs.List.{AllZip}
use Rattle.std.specs.Prelude.{option_and_then}
use Rattle.std.proofs.lemmas.List.Elements.{All-cons, All-contains_itself, All-head, All-nil, All-tail, All-weaker, at_from_Contains}
use Rattle.std.proofs.lemmas.Bool.{cases_order}
use Rattle.std.proofs.lemmas.Option.{slice_get-get_or, slice_get_within}
use Rattle.metric_catalogue.specs.Sound.{IsSound}
use Rattle.metric_contents.specs.declared.contents.Contents.{Contents}
use Rattle.metric_contents.specs.declared.contents.Instrument.{Instrument}
use Rattle.metric_views.specs.declared.config.Config.{Config}
use Rattle.metric_views.specs.declared.stream.Stream.{Stream}
use Rattle.metric_resolve.specs.Applying.{all_instruments, all_readers}
use Rattle.metric_resolve.specs.Collisions.{Identity, identity_of}
use Rattle.metric_resolve.specs.Resolved.{streams_of}
use Rattle.metric_resolve.proofs.StreamLaws.{streams_exact}
use Rattle.metric_bounds.specs.Amounts.{total_of}
use Rattle.metric_bounds.specs.Safe.{AreDistinct, AreSafeInstruments, IsSafeInstrument, SetsFit}
use Rattle.metric_bounds.specs.KeptLaws.{own_flags}
use Rattle.metric_bounds.specs.SetLaws.{sets_within_product}
use Rattle.metric_bounds.specs.Sets.{product_of, sets_of}
use Rattle.metric_bounds.specs.Sums.{is_summed}
use Rattle.metric_cert.specs.declared.bound.InstrumentBound.{InstrumentBound}
use Rattle.metric_cert.specs.declared.order.ReaderOrder.{ReaderOrder}
use Rattle.metric_cert.specs.declared.stream.By.{By}
use Rattle.metric_cert.specs.declared.stream.By.TheVariants as by
use Rattle.metric_cert.specs.declared.stream.StreamSets.{StreamSets}
use Rattle.metric_cert.specs.Valid.{IsBelow, IsBoundAt, IsBoundOf, IsEntryOf, IsOrderOf, IsStreamOf, bound_by}
use Rattle.metric_resolve.specs.Laws.{identity_at}
use Rattle.metric_check.specs.Checked.{ValidIsSafe}
use Rattle.metric_check.specs.Rising.{RisesTo}
use Rattle.metric_check.proofs.OrderLaws.{length-zip_range, never_below, range_zip}
use Rattle.metric_check.proofs.OwnStreams.{known_identity, known_reader}
use Rattle.metric_check.proofs.Walks.{there}

-- sets
limited_by : (contents : Contents) (stream : Stream) (bound : By) (limit : ℕ) → sets_of contents stream ≤ product_of contents stream → bound_by contents stream bound ≤ limit
    → min (sets_of contents stream) (total_of contents stream.instrument) ≤ limit
limited_by contents stream by.Product limit taken few = omega (arith, taken, few)
limited_by contents stream (by.List list) limit taken few = omega (arith, few)
limited_by contents stream by.Budget limit taken few = omega (arith, few)

all_limited : (contents : Contents) (streams : List Stream) (entries : List StreamSets) → All (λ s. sets_of contents s ≤ product_of contents s) streams
    → AllZip (IsEntryOf contents) streams entries → All (SetsFit contents) streams
all_limited contents [] [] taken zip = All-nil (SetsFit contents)
all_limited contents [] (entry ∷ entries) taken zip = absurd zip
all_limited contents (stream ∷ streams) [] taken zip = absurd zip
all_limited contents (stream ∷ streams) (entry ∷ entries) taken zip =
    let of = zip.0 in
    let few : bound_by contents stream entry.by ≤ stream.limit = subst (λ (n : ℕ). n ≤ stream.limit) of.sets of.limited in
    All-cons (SetsFit contents) stream streams
    (limited_by contents stream entry.by stream.limit (All-head (λ (s : Stream). sets_of contents s ≤ product_of contents s) stream streams taken) few)
    (all_limited contents streams entries (All-tail (λ (s : Stream). sets_of contents s ≤ product_of contents s) stream streams taken) zip.1)

-- lists of combinations take away
all_taken : (contents : Contents) (config : Config) → IsSound contents → All (λ s. sets_of contents s ≤ product_of contents s) (streams_of contents config)
all_taken contents config sound =
    All-weaker (Contains (streams_of contents config)) (λ s. sets_of contents s ≤ product_of contents s)
    (λ s there. sets_within_product contents s sound (own_flags contents config s ((streams_exact contents config s).0 there)))
    (streams_of contents config) (All-contains_itself (streams_of contents config))

-- bounds
safe_at : (contents : Contents) (streams : List Stream) (number : ℕ) (instrument : Instrument) (bound : InstrumentBound) → slice_get contents.instruments number ≡ Some instrument
    → IsBoundAt contents streams number bound → IsSafeInstrument (total_of contents number) instrument (IsTrue (is_summed streams number))
safe_at contents streams number instrument bound at of =
    let is = subst (λ (o : Option Instrument). IsSomeAnd o (λ i. IsBoundOf contents streams number i bound)) at of in is.safe

all_safe : (contents : Contents) (streams : List Stream) (bounds : List InstrumentBound) → AllZip (IsBoundAt contents streams) (all_instruments contents) bounds
    → AreSafeInstruments contents streams
all_safe contents streams bounds zip number instrument at =
    let n = length contents.instruments in
    let long = length-zip_range (IsBoundAt contents streams) 0 n bounds zip in
    let bound = there bounds number (omega (arith, long, slice_get_within contents.instruments number instrument at)) in
    let of = range_zip (IsBoundAt contents streams) 0 n bounds zip number bound.element bound.at in
    let here : 0 + number ≡ number = omega arith in
    safe_at contents streams number instrument bound.element at (subst (λ (k : ℕ). IsBoundAt contents streams k bound.element) here of)

-- orders
rises_apart : (contents : Contents) (streams : List Stream) (a b : ℕ) (s t : Stream) → slice_get streams a ≡ Some s → slice_get streams b ≡ Some t
    → RisesTo contents streams a b → identity_of contents s ≢ identity_of contents t
rises_apart contents streams a b s t at bt rises same =
    let below : IsBelow (identity_of contents s) (identity_of contents t) =
    subst (λ (o : Option Stream). IsBelow (option_and_then (identity_of contents) o) (identity_of contents t)) at
    (subst (λ (o : Option Stream). IsBelow (identity_at contents streams a) (option_and_then (identity_of contents) o)) bt rises) in
    never_below (identity_of contents t) (subst (λ (o : Option Identity). IsBelow o (identity_of contents t)) same below)

-- two streams of one reader differ in identity
apart_in : (contents : Contents) (streams : List Stream) (reader a b : ℕ) (s t : Stream) (order : ReaderOrder) → IsOrderOf contents streams reader order
    → slice_get streams a ≡ Some s → slice_get streams b ≡ Some t → a < b → s.reader ≡ reader → t.reader ≡ reader → identity_of contents s ≢ identity_of contents t
apart_in contents streams reader a b s t order of at bt less sr tr same =
    let own_a : IsStreamOf streams reader a = rw (at) sr in
    let own_b : IsStreamOf streams reader b = rw (bt) tr in
    let i = at_from_Contains order.streams a (of.all a own_a) in
    let j = at_from_Contains order.streams b (of.all b own_b) in
    let ia : get_or order.streams i.0 0 ≡ a = i.2 0 in
    let jb : get_or order.streams j.0 0 ≡ b = j.2 0 in
    elim (ordered i.0 j.0 (λ e. let ab : a ≡ b = sym ia ∙ ap (λ (k : ℕ). get_or order.streams k 0) e ∙ jb in omega (arith, less, ab))) [
      | inl before ↦
          rises_apart contents streams a b s t at bt
          (subst (λ (n : ℕ). RisesTo contents streams n b) ia (subst (λ (n : ℕ). RisesTo contents streams (get_or order.streams i.0 0) n) jb (of.rising i.0 j.0 0 before j.1))) same
      | inr after ↦
          rises_apart contents streams b a t s bt at
          (subst (λ (n : ℕ). RisesTo contents streams n a) jb (subst (λ (n : ℕ). RisesTo contents streams (get_or order.streams j.0 0) n) ia (of.rising j.0 i.0 0 after i.1))) (sym same)
    ]
  where
    ordered : (i j : ℕ) → i ≢ j → (i < j) ⊎ (j < i)
    ordered i j other = elim (cases_order i j) [ inl e ↦ absurd (other e) | inr h ↦ h ]

all_apart : (contents : Contents) (config : Config) (orders : List ReaderOrder) → IsSound contents
    → AllZip (IsOrderOf contents (streams_of contents config)) (all_readers config) orders → AreDistinct contents (streams_of contents config)
all_apart contents config orders sound zip i j d less within same =
    let streams = streams_of contents config in
    let s = get_or streams i d in
    let t = get_or streams j d in
    let at : slice_get streams i ≡ Some s = slice_get-get_or streams i d (omega arith) in
    let bt : slice_get streams j ≡ Some t = slice_get-get_or streams j d within in
    let one = known_identity contents config sound i s at in
    let two = known_identity contents config sound j t bt in
    let readers : t.reader ≡ s.reader = sym two.reader_is ∙ ap (λ (x : Identity). x.reader) (some_is two.identity one.identity (sym two.is ∙ sym same ∙ one.is)) ∙ one.reader_is in
    let n = length config.readers in
    let long = length-zip_range (IsOrderOf contents streams) 0 n orders zip in
    let order = there orders s.reader (omega (arith, long, known_reader contents config i s at)) in
    let of = range_zip (IsOrderOf contents streams) 0 n orders zip s.reader order.element order.at in
    let here : s.reader ≡ 0 + s.reader = omega arith in
    apart_in contents streams (0 + s.reader) i j s t order.element of at bt less here (readers ∙ here) same
  where
    some_is : (x y : Identity) → Some x ≡ Some y → x ≡ y
    some_is x y e = cc

pub valid_is_safe : ValidIsSafe
valid_is_safe contents config certificate sound valid = record {
  identities = all_apart contents config certificate.orders sound valid.orders;
  instruments = all_safe contents (streams_of contents config) certificate.bounds valid.bounds;
  sets = all_limited contents (streams_of contents config) certificate.streams (all_taken contents config sound) valid.streams;
}
