-- Nothing is found exactly where a catalogue and the streams of a config are
-- safe, and there is one answer only.
use Rattle.std.proofs.Common.{◌≡◌, ℕ, ◌<◌, IsTrue, List, length, All, get_or, Option, Some, None}
use Rattle.std.proofs.Common.{refl, subst, arith}
use Rattle.std.specs.Prelude.{slice_get}
use Rattle.std.specs.List.{range_with_len}
use Rattle.std.proofs.lemmas.List.Elements.{All-from_get_or, All-get_or}
use Rattle.std.proofs.lemmas.List.FromFn.{get_or-range_with_len, length-range_with_len}
use Rattle.std.proofs.lemmas.Option.{slice_get_within}
use Rattle.metric_contents.specs.declared.contents.Contents.{Contents}
use Rattle.metric_contents.specs.declared.contents.Instrument.{Instrument}
use Rattle.metric_views.specs.declared.stream.Stream.{Stream}
use Rattle.metric_resolve.specs.Applying.{all_instruments}
use Rattle.metric_bounds.specs.Amounts.{total_of}
use Rattle.metric_bounds.specs.Finding.{InstrumentFinds, InstrumentsFind, NumberFinds, SafetyFaults}
use Rattle.metric_bounds.specs.Finding.{SafetyFinds, WhereThere}
use Rattle.metric_bounds.specs.First.{Asks}
use Rattle.metric_bounds.specs.FirstLaws.{Asks-IsSingle, Each-IsSingle, Each-none, IsSingle}
use Rattle.metric_bounds.specs.FirstLaws.{Then-IsSingle, none-Each}
use Rattle.metric_bounds.specs.Safe.{AmountsFit, AreDistinct, AreSafe, AreSafeInstruments}
use Rattle.metric_bounds.specs.Safe.{CountsFit, HighFits, IsSafeInstrument, LowFits, SetsFit}
use Rattle.metric_bounds.specs.Sums.{is_summed}

-- what holds of each number below a bound
pub All-range : (P : ℕ → Type 0) (n : ℕ) → ((k : ℕ) → k < n → P k) → All P (range_with_len 0 n)
All-range P n each =
    All-from_get_or P (range_with_len 0 n) 0
    (λ k within.
    let inside : k < n = omega (arith, length-range_with_len 0 n) in
    let is : k ≡ get_or (range_with_len 0 n) k 0 =
    omega (arith, get_or-range_with_len 0 n k 0 inside) in
    subst P is (each k inside))

pub range-All : (P : ℕ → Type 0) (n : ℕ) → All P (range_with_len 0 n) → (k : ℕ) → k < n → P k
range-All P n all k within =
    let inside : k < length (range_with_len 0 n) = omega (arith, length-range_with_len 0 n) in
    let is : get_or (range_with_len 0 n) k 0 ≡ k =
    omega (arith, get_or-range_with_len 0 n k 0 within) in
    subst P is (All-get_or P (range_with_len 0 n) k 0 inside all)

pub InstrumentFinds-IsSingle : {F : Type 0} (faults : SafetyFaults F) (total : ℕ) (summed : Type 0)
    (instrument : Instrument)
    → IsSingle (InstrumentFinds faults total summed instrument)
InstrumentFinds-IsSingle faults total summed instrument =
    Then-IsSingle _ _ (Asks-IsSingle (CountsFit total) faults.count_range)
    (Then-IsSingle _ _ (Asks-IsSingle (AmountsFit total instrument) faults.amount_range)
    (Then-IsSingle _ _ (Asks-IsSingle (summed → LowFits total instrument) faults.sum_low)
    (Asks-IsSingle (summed → HighFits total instrument) faults.sum_high)))

WhereThere-IsSingle : {F : Type 0} (Finds : Instrument → Option F → Type 0)
    → ((instrument : Instrument) → IsSingle (Finds instrument))
    → (o : Option Instrument) → IsSingle (WhereThere Finds o)
WhereThere-IsSingle Finds single None =
    record { alone = λ f p q. absurd cc; same = λ f g p q. absurd cc }
WhereThere-IsSingle Finds single (Some instrument) = single instrument

pub SafetyFinds-IsSingle : {F : Type 0} (faults : SafetyFaults F) (contents : Contents)
    (streams : List Stream) → IsSingle (SafetyFinds faults contents streams)
SafetyFinds-IsSingle faults contents streams =
    Then-IsSingle _ _ (Asks-IsSingle (AreDistinct contents streams) faults.collision)
    (Then-IsSingle _ _
    (Each-IsSingle (NumberFinds faults contents streams)
    (λ number.
    WhereThere-IsSingle
    (InstrumentFinds faults (total_of contents number) (IsTrue (is_summed streams number)))
    (InstrumentFinds-IsSingle faults (total_of contents number) (IsTrue (is_summed streams number)))
    (slice_get contents.instruments number))
    (all_instruments contents))
    (Each-IsSingle (λ stream. Asks (SetsFit contents stream) faults.limit_exceeded)
    (λ stream. Asks-IsSingle (SetsFit contents stream) faults.limit_exceeded) streams))

-- one instrument
safe_instrument : {F : Type 0} (faults : SafetyFaults F) (total : ℕ) (summed : Type 0)
    (instrument : Instrument)
    → InstrumentFinds faults total summed instrument None → IsSafeInstrument total instrument summed
safe_instrument faults total summed instrument p =
    record { counts = p.0; amounts = p.1.0; low = p.1.1.0; high = p.1.1.1 }

none_at : {F : Type 0} (faults : SafetyFaults F) (total : ℕ) (summed : Type 0)
    (instrument : Instrument)
    → IsSafeInstrument total instrument summed → InstrumentFinds faults total summed instrument None
none_at faults total summed instrument safe = (safe.counts, (safe.amounts, (safe.low, safe.high)))

pub safe_instruments : {F : Type 0} (faults : SafetyFaults F) (contents : Contents)
    (streams : List Stream)
    → InstrumentsFind faults contents streams None → AreSafeInstruments contents streams
safe_instruments faults contents streams none number instrument at =
    let all = Each-none (NumberFinds faults contents streams) (all_instruments contents) none in
    let here =
    range-All (λ k. NumberFinds faults contents streams k None) (length contents.instruments) all
    number (slice_get_within contents.instruments number instrument at) in
    let summed = IsTrue (is_summed streams number) in
    safe_instrument faults (total_of contents number) summed instrument
    (subst (λ (o : Option Instrument).
    WhereThere (InstrumentFinds faults (total_of contents number) summed) o None) at here)

none_at_instruments : {F : Type 0} (faults : SafetyFaults F) (contents : Contents)
    (streams : List Stream)
    → AreSafeInstruments contents streams → InstrumentsFind faults contents streams None
none_at_instruments faults contents streams safe =
    none-Each (NumberFinds faults contents streams) (all_instruments contents)
    (All-range (λ k. NumberFinds faults contents streams k None) (length contents.instruments)
    (λ k within. by k (slice_get contents.instruments k) refl))
  where
    by : (k : ℕ) (o : Option Instrument) → slice_get contents.instruments k ≡ o
        → WhereThere
        (InstrumentFinds faults (total_of contents k) (IsTrue (is_summed streams k))) o None
    by k None at = refl
    by k (Some instrument) at =
        none_at faults (total_of contents k) (IsTrue (is_summed streams k)) instrument
        (safe k instrument at)

pub safe_from_none : {F : Type 0} (faults : SafetyFaults F) (contents : Contents)
    (streams : List Stream)
    → SafetyFinds faults contents streams None → AreSafe contents streams
safe_from_none faults contents streams none = record {
  identities = none.0;
  instruments = safe_instruments faults contents streams none.1.0;
  sets =
      Each-none (λ stream. Asks (SetsFit contents stream) faults.limit_exceeded) streams none.1.1;
}

pub none_from_safe : {F : Type 0} (faults : SafetyFaults F) (contents : Contents)
    (streams : List Stream)
    → AreSafe contents streams → SafetyFinds faults contents streams None
none_from_safe faults contents streams safe = (
  safe.identities,
  (
    none_at_instruments faults contents streams safe.instruments,
    none-Each (λ stream. Asks (SetsFit contents stream) faults.limit_exceeded) streams safe.sets,
  ),
)
