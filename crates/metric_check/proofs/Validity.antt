-- No fault is found exactly where a certificate is valid.
use Rattle.std.proofs.Common.{◌≡◌, ◌≢◌, ℕ, ◌+◌, List, [], ◌∷◌, Option, Some, None, IsSomeAnd, Result, Ok, Err, OnOk, ◌⊎◌, length, slice_get, refl, sym, ap, inl, inr, arith, ◌∙◌}
use Rattle.std.specs.List.{AllZip}
use Rattle.std.specs.Option.{option_cmp}
use Rattle.std.specs.Ordering.{nat_cmp, ordering_then}
use Rattle.std.specs.declared.cmp.Ordering.{Ordering}
use Rattle.std.specs.declared.cmp.Ordering.TheVariants.{Less, Equal, Greater}
use Rattle.std.proofs.lemmas.Cmp.{nat_cmp_total, tied_itself}
use Rattle.std.proofs.lemmas.List.FromFn.{length-range_with_len}
use Rattle.std.proofs.lemmas.Map.Lookups.{exact_unsigned}
use Rattle.std.proofs.lemmas.Slice.Zip.{AllZip-long}
use Rattle.metric_contents.specs.declared.contents.Contents.{Contents}
use Rattle.metric_contents.specs.declared.contents.Instrument.{Instrument}
use Rattle.metric_contents.specs.declared.contents.Meter.{Meter}
use Rattle.metric_views.specs.declared.config.Config.{Config}
use Rattle.metric_views.specs.declared.config.View.{View}
use Rattle.metric_views.specs.declared.stream.Stream.{Stream}
use Rattle.metric_glob.specs.declared.reason.Reason.TheVariants.{Takes, Rows}
use Rattle.metric_resolve.specs.Applying.{all_instruments, meter_at}
use Rattle.metric_resolve.specs.Resolved.{streams_of}
use Rattle.metric_bounds.specs.Amounts.{total_of}
use Rattle.metric_cert.specs.declared.bound.InstrumentBound.{InstrumentBound}
use Rattle.metric_cert.specs.declared.claims.Claims.{Claims}
use Rattle.metric_cert.specs.declared.reason.Evidence.{Evidence}
use Rattle.metric_cert.specs.declared.reason.Evidence.TheVariants.{Name, Miss}
use Rattle.metric_cert.specs.declared.reason.SelectionReason.{SelectionReason}
use Rattle.metric_cert.specs.declared.stream.StreamSets.{StreamSets}
use Rattle.metric_cert.specs.Valid.{IsBoundAt, IsBoundOf, IsEntryOf, IsReasonOf, IsTrueOf, IsValid, all_pairs}
use Rattle.metric_plan.specs.declared.fault.CheckFault.{CheckFault}
use Rattle.metric_plan.specs.declared.fault.CheckFault.TheVariants.{PairMissing, BadTakes, BadRows, BadMiss, StreamMissing, StreamStrange, BadOrder, BadSets, LimitExceeded, SumLow, SumHigh, CountRange, AmountRange, Memory}
use Rattle.metric_check.specs.declared.fault.ClaimFault.{ClaimFault}
use Rattle.metric_check.specs.declared.fault.ClaimPlace.{ClaimPlace}
use Rattle.metric_check.specs.declared.fault.ClaimPlace.TheVariants.{Nowhere, Orders, Reason, Bound, Stream as OfStream}
use Rattle.metric_check.specs.Checked.{FindsNothingWhereValid}
use Rattle.metric_check.specs.Findings.{BoundFinds, BoundsFind, CheckFinds, EntryFinds, EvidenceFindsAt, LimitFinds, NumbersFindAt, ReasonFinds, entry_order, of_bound, of_none, of_reason, of_stream}
use Rattle.metric_check.specs.Known.{AreTotals}
use Rattle.metric_check.specs.Paired.{EachPaired}
use Rattle.metric_check.proofs.EvidenceLaws.{AreReasons}
use Rattle.metric_check.proofs.Singles.{CheckFinds-IsSingle}
use Rattle.metric_check.proofs.Walks.{range_at, there, zip_at}

-- nothing is found along two lists where each element is as it is due
pub paired_none : {X Y F G : Type 0} (told : ℕ → F → G) (Finds : X → Y → Option F → Type 0) (P : X → Y → Type 0) (missing more : F) → ((x : X) (y : Y) → Finds x y None → P x y)
    → (n : ℕ) (xs : List X) (ys : List Y) → EachPaired told Finds missing more n xs ys None → AllZip P xs ys
paired_none told Finds P missing more each n [] [] p = tt
paired_none told Finds P missing more each n [] (y ∷ ys) p = absurd cc
paired_none told Finds P missing more each n (x ∷ xs) [] p = absurd cc
paired_none told Finds P missing more each n (x ∷ xs) (y ∷ ys) p = (each x y p.0, paired_none told Finds P missing more each (n + 1) xs ys p.1)

pub none_paired : {X Y F G : Type 0} (told : ℕ → F → G) (Finds : X → Y → Option F → Type 0) (P : X → Y → Type 0) (missing more : F) → ((x : X) (y : Y) → P x y → Finds x y None)
    → (n : ℕ) (xs : List X) (ys : List Y) → AllZip P xs ys → EachPaired told Finds missing more n xs ys None
none_paired told Finds P missing more each n [] [] p = refl
none_paired told Finds P missing more each n [] (y ∷ ys) p = absurd p
none_paired told Finds P missing more each n (x ∷ xs) [] p = absurd p
none_paired told Finds P missing more each n (x ∷ xs) (y ∷ ys) p = (each x y p.0, none_paired told Finds P missing more each (n + 1) xs ys p.1)

both_zip : {X Y : Type 0} (P Q : X → Y → Type 0) (xs : List X) (ys : List Y) → AllZip P xs ys → AllZip Q xs ys → AllZip (λ x y. P x y × Q x y) xs ys
both_zip P Q [] [] p q = tt
both_zip P Q [] (y ∷ ys) p q = absurd p
both_zip P Q (x ∷ xs) [] p q = absurd p
both_zip P Q (x ∷ xs) (y ∷ ys) p q = ((p.0, q.0), both_zip P Q xs ys p.1 q.1)

pub map_zip : {X Y : Type 0} (P Q : X → Y → Type 0) → ((x : X) (y : Y) → P x y → Q x y) → (xs : List X) (ys : List Y) → AllZip P xs ys → AllZip Q xs ys
map_zip P Q each [] [] p = tt
map_zip P Q each [] (y ∷ ys) p = absurd p
map_zip P Q each (x ∷ xs) [] p = absurd p
map_zip P Q each (x ∷ xs) (y ∷ ys) p = (each x y p.0, map_zip P Q each xs ys p.1)

-- reasons
evidence_true : (evidence : Evidence) (view : Option View) (meter : Option Meter) (instrument : Option Instrument)
    → EvidenceFindsAt evidence view meter instrument None → IsTrueOf evidence view meter instrument
evidence_true (Name (Takes takes)) (Some view) (Some meter) (Some instrument) p = p
evidence_true (Name (Rows rows)) (Some view) (Some meter) (Some instrument) p = p
evidence_true (Miss criterion) (Some view) (Some meter) (Some instrument) p = p
evidence_true evidence (Some view) (Some meter) None p = absurd p
evidence_true evidence (Some view) None instrument p = absurd p
evidence_true evidence None meter instrument p = absurd p

true_evidence : (evidence : Evidence) (view : Option View) (meter : Option Meter) (instrument : Option Instrument)
    → IsTrueOf evidence view meter instrument → EvidenceFindsAt evidence view meter instrument None
true_evidence (Name (Takes takes)) (Some view) (Some meter) (Some instrument) p = p
true_evidence (Name (Rows rows)) (Some view) (Some meter) (Some instrument) p = p
true_evidence (Miss criterion) (Some view) (Some meter) (Some instrument) p = p
true_evidence evidence (Some view) (Some meter) None p = absurd p
true_evidence evidence (Some view) None instrument p = absurd p
true_evidence evidence None meter instrument p = absurd p

reason_of : (contents : Contents) (config : Config) (pair : ℕ × ℕ) (reason : SelectionReason) → ReasonFinds contents config pair reason None → IsReasonOf contents config pair reason
reason_of contents config pair reason p = record {
  view = p.0.0;
  instrument = p.0.1;
  evidence = evidence_true reason.evidence (slice_get config.views reason.view) (meter_at contents reason.instrument) (slice_get contents.instruments reason.instrument) p.1;
}

from_reason : (contents : Contents) (config : Config) (pair : ℕ × ℕ) (reason : SelectionReason) → IsReasonOf contents config pair reason → ReasonFinds contents config pair reason None
from_reason contents config pair reason r = (
  (r.view, r.instrument),
  true_evidence reason.evidence (slice_get config.views reason.view) (meter_at contents reason.instrument) (slice_get contents.instruments reason.instrument) r.evidence,
)

pub reasons_true : (contents : Contents) (config : Config) (reasons : List SelectionReason) (missing more : CheckFault)
    → EachPaired of_reason (ReasonFinds contents config) missing more 0 (all_pairs contents config) reasons None → AreReasons contents config reasons
reasons_true contents config reasons missing more p =
    paired_none of_reason (ReasonFinds contents config) (IsReasonOf contents config) missing more (reason_of contents config) 0 (all_pairs contents config) reasons p

-- entries
then_equal : (a b : Ordering) → ordering_then a b ≡ Equal → (a ≡ Equal) × (b ≡ Equal)
then_equal Equal b e = (refl, e)
then_equal Less b e = absurd cc
then_equal Greater b e = absurd cc

neither : (o : Ordering) → o ≢ Less → o ≢ Greater → o ≡ Equal
neither Equal p q = refl
neither Less p q = absurd (p refl)
neither Greater p q = absurd (q refl)

equal_views : (x y : Option ℕ) → option_cmp nat_cmp x y ≡ Equal → x ≡ y
equal_views None None e = refl
equal_views None (Some y) e = absurd cc
equal_views (Some x) None e = absurd cc
equal_views (Some x) (Some y) e = ap (λ (n : ℕ). Some n) (exact_unsigned x y e)

view_itself : (x : Option ℕ) → option_cmp nat_cmp x x ≡ Equal
view_itself None = refl
view_itself (Some x) = tied_itself nat_cmp_total x

-- The entry is of the stream.
record IsKeyOf (stream : Stream) (entry : StreamSets) : Type 0 where
  reader : entry.reader ≡ stream.reader
  instrument : entry.instrument ≡ stream.instrument
  view : entry.view ≡ stream.view

key_of : (stream : Stream) (entry : StreamSets) → EntryFinds stream entry None → IsKeyOf stream entry
key_of stream entry p =
    let all = then_equal _ _ (neither (entry_order entry stream) p.0 p.1) in
    let others = then_equal _ _ all.1 in
    record {
      reader = exact_unsigned entry.reader stream.reader all.0;
      instrument = exact_unsigned entry.instrument stream.instrument others.0;
      view = equal_views entry.view stream.view others.1;
    }

of_key : (stream : Stream) (entry : StreamSets) → IsKeyOf stream entry → EntryFinds stream entry None
of_key stream entry key =
    let readers : nat_cmp entry.reader stream.reader ≡ Equal = rw (key.reader) (tied_itself nat_cmp_total stream.reader) in
    let instruments : nat_cmp entry.instrument stream.instrument ≡ Equal = rw (key.instrument) (tied_itself nat_cmp_total stream.instrument) in
    let views : option_cmp nat_cmp entry.view stream.view ≡ Equal = rw (key.view) (view_itself stream.view) in
    let same : entry_order entry stream ≡ Equal = rw (readers, instruments) views in
    (λ e. other (sym same ∙ e), λ e. another (sym same ∙ e))
  where
    other : Equal ≡ Less → ⊥
    other e = cc

    another : Equal ≡ Greater → ⊥
    another e = cc

entry_of : (contents : Contents) (stream : Stream) (entry : StreamSets) → EntryFinds stream entry None × LimitFinds contents stream entry None → IsEntryOf contents stream entry
entry_of contents stream entry p =
    let key = key_of stream entry p.0 in
    record { reader = key.reader; instrument = key.instrument; view = key.view; listed = p.1.0.0; sets = p.1.0.1; limited = p.1.1 }

of_entry : (contents : Contents) (stream : Stream) (entry : StreamSets) → IsEntryOf contents stream entry → EntryFinds stream entry None
of_entry contents stream entry e = of_key stream entry (record { reader = e.reader; instrument = e.instrument; view = e.view })

-- bounds
bound_of : (contents : Contents) (streams : List Stream) (number : ℕ) (bound : InstrumentBound) → BoundFinds contents streams number bound None → IsBoundAt contents streams number bound
bound_of contents streams number bound p = by (slice_get contents.instruments number) p
  where
    by : (o : Option Instrument) → NumbersFindAt contents streams number o bound None → IsSomeAnd o (λ instrument. IsBoundOf contents streams number instrument bound)
    by None p = absurd p
    by (Some instrument) p = record {
      numbered = p.0.0;
      total = p.0.1;
      amount = p.1.0.0;
      low = p.1.1.0.0;
      high = p.1.1.1.0;
      safe = record { counts = p.0.2; amounts = p.1.0.1; low = p.1.1.0.1; high = p.1.1.1.1 };
    }

from_bound : (contents : Contents) (streams : List Stream) (number : ℕ) (bound : InstrumentBound) → IsBoundAt contents streams number bound → BoundFinds contents streams number bound None
from_bound contents streams number bound p = by (slice_get contents.instruments number) p
  where
    by : (o : Option Instrument) → IsSomeAnd o (λ instrument. IsBoundOf contents streams number instrument bound) → NumbersFindAt contents streams number o bound None
    by None p = absurd p
    by (Some instrument) b =
        ((b.numbered, b.total, b.safe.counts), ((b.amount, b.safe.amounts), ((b.low, b.safe.low), (b.high, b.safe.high))))

valid_from_none : (contents : Contents) (config : Config) (certificate : Claims) → CheckFinds contents config certificate None → IsValid contents config certificate
valid_from_none contents config certificate p =
    let streams = streams_of contents config in
    record {
      reasons = reasons_true contents config certificate.reasons PairMissing PairMissing p.0;
      streams =
          map_zip (λ stream entry. EntryFinds stream entry None × LimitFinds contents stream entry None) (IsEntryOf contents) (entry_of contents) streams certificate.streams
          (both_zip (λ stream entry. EntryFinds stream entry None) (λ stream entry. LimitFinds contents stream entry None) streams certificate.streams
          (paired_none of_stream EntryFinds (λ stream entry. EntryFinds stream entry None) StreamMissing StreamStrange (λ x y h. h) 0 streams certificate.streams p.1.0)
          (paired_none of_stream (LimitFinds contents) (λ stream entry. LimitFinds contents stream entry None) BadSets BadSets (λ x y h. h) 0 streams certificate.streams p.1.1.1.1));
      bounds =
          paired_none of_bound (BoundFinds contents streams) (IsBoundAt contents streams) CountRange CountRange (bound_of contents streams) 0 (all_instruments contents) certificate.bounds p.1.1.1.0;
      orders = p.1.1.0;
    }

none_from_valid : (contents : Contents) (config : Config) (certificate : Claims) → IsValid contents config certificate → CheckFinds contents config certificate None
none_from_valid contents config certificate v =
    let streams = streams_of contents config in (
      none_paired of_reason (ReasonFinds contents config) (IsReasonOf contents config) PairMissing PairMissing (from_reason contents config) 0 (all_pairs contents config) certificate.reasons v.reasons,
      (
        none_paired of_stream EntryFinds (IsEntryOf contents) StreamMissing StreamStrange (of_entry contents) 0 streams certificate.streams v.streams,
        (
          v.orders,
          (
            none_paired of_bound (BoundFinds contents streams) (IsBoundAt contents streams) CountRange CountRange (from_bound contents streams) 0 (all_instruments contents) certificate.bounds v.bounds,
            none_paired of_stream (LimitFinds contents) (IsEntryOf contents) BadSets BadSets (λ stream entry e. ((e.listed, e.sets), e.limited)) 0 streams certificate.streams v.streams,
          ),
        ),
      ),
    )

pub finds_nothing_where_valid : FindsNothingWhereValid
finds_nothing_where_valid contents config certificate = (valid_from_none contents config certificate, none_from_valid contents config certificate)

-- bounds in which nothing is found have the totals
pub totals_known : (contents : Contents) (streams : List Stream) (bounds : List InstrumentBound) → BoundsFind contents streams bounds None → AreTotals contents bounds
totals_known contents streams bounds p number within =
    let zip = paired_none of_bound (BoundFinds contents streams) (IsBoundAt contents streams) CountRange CountRange (bound_of contents streams) 0 (all_instruments contents) bounds p in
    let long = AllZip-long (IsBoundAt contents streams) (all_instruments contents) bounds zip in
    let count = length-range_with_len 0 (length contents.instruments) in
    let bound = there bounds number (omega (arith, long, count, within)) in
    let of = zip_at (IsBoundAt contents streams) (all_instruments contents) bounds zip number number bound.element (range_at (length contents.instruments) number within) bound.at in
    rw (bound.at) (total_in bound.element (slice_get contents.instruments number) of)
  where
    total_in : (bound : InstrumentBound) (o : Option Instrument) → IsSomeAnd o (λ instrument. IsBoundOf contents streams number instrument bound) → bound.total ≡ total_of contents number
    total_in bound None p = absurd p
    total_in bound (Some instrument) of = of.total

memory_or_not : (fault : CheckFault) → (fault ≡ Memory) ⊎ (fault ≢ Memory)
memory_or_not Memory = inl refl
memory_or_not PairMissing = inr (λ e. cc)
memory_or_not BadTakes = inr (λ e. cc)
memory_or_not BadRows = inr (λ e. cc)
memory_or_not BadMiss = inr (λ e. cc)
memory_or_not StreamMissing = inr (λ e. cc)
memory_or_not StreamStrange = inr (λ e. cc)
memory_or_not BadOrder = inr (λ e. cc)
memory_or_not BadSets = inr (λ e. cc)
memory_or_not LimitExceeded = inr (λ e. cc)
memory_or_not SumLow = inr (λ e. cc)
memory_or_not SumHigh = inr (λ e. cc)
memory_or_not CountRange = inr (λ e. cc)
memory_or_not AmountRange = inr (λ e. cc)

nowhere_or_not : (place : ClaimPlace) → (place ≡ Nowhere) ⊎ (place ≢ Nowhere)
nowhere_or_not Nowhere = inl refl
nowhere_or_not (Reason n) = inr (λ e. cc)
nowhere_or_not (OfStream n) = inr (λ e. cc)
nowhere_or_not (Bound n) = inr (λ e. cc)
nowhere_or_not Orders = inr (λ e. cc)

-- a fault is out of memory, or it is not
refused_or_not : (claim : ClaimFault) → (claim ≡ of_none Memory) ⊎ (claim ≢ of_none Memory)
refused_or_not claim = elim (memory_or_not claim.fault) [
  | inl memory ↦ elim (nowhere_or_not claim.place) [
    | inl nowhere ↦ inl (both claim memory nowhere)
    | inr other ↦ inr (λ e. other (ap (λ (c : ClaimFault). c.place) e))
  ]
  | inr other ↦ inr (λ e. other (ap (λ (c : ClaimFault). c.fault) e))
]
  where
    both : (c : ClaimFault) → c.fault ≡ Memory → c.place ≡ Nowhere → c ≡ of_none Memory
    both c memory nowhere = λ j. record { fault = memory j; place = nowhere j }

-- where a certificate is valid, a fault that is found unless memory ran out is Memory
pub memory_alone : (contents : Contents) (config : Config) (certificate : Claims) (fault : ClaimFault)
    → (fault ≢ of_none Memory → CheckFinds contents config certificate (Some fault)) → IsValid contents config certificate → fault ≡ of_none Memory
memory_alone contents config certificate fault found valid =
    elim (refused_or_not fault) [
      | inl memory ↦ memory
      | inr other ↦ absurd ((CheckFinds-IsSingle contents config certificate).alone fault (none_from_valid contents config certificate valid) (found other))
    ]

pub on_ok : {A E : Type 0} (r : Result A E) (P : Type 0) → P → OnOk r P
on_ok (Ok x) P p = p
on_ok (Err e) P p = tt
