-- What is found, without what it is about.
use Rattle.std.proofs.Common.{◌+◌, ℕ, Bool, true, IsTrue, List, [], ◌∷◌, Option, Some, None, inl, inr, refl, ap}
use Rattle.std.specs.Prelude.{slice_get}
use Rattle.std.specs.List.{enumerate_from}
use Rattle.metric_contents.specs.declared.contents.Contents.{Contents}
use Rattle.metric_contents.specs.declared.contents.Instrument.{Instrument}
use Rattle.metric_views.specs.declared.config.Config.{Config}
use Rattle.metric_views.specs.declared.stream.Stream.{Stream}
use Rattle.metric_resolve.specs.Applying.{all_instruments}
use Rattle.metric_resolve.specs.Resolved.{streams_of}
use Rattle.metric_bounds.specs.Amounts.{total_of}
use Rattle.metric_bounds.specs.Finding.{InstrumentFinds, SafetyFaults, SafetyFinds, WhereThere}
use Rattle.metric_bounds.specs.Finding.{LimitsFind as SomeLimitsFind, NumberFinds as SomeNumberFinds}
use Rattle.metric_bounds.specs.First.{Each}
use Rattle.metric_bounds.specs.Sums.{is_summed}
use Rattle.metric_make.specs.declared.fault.MakeFault.{MakeFault}
use Rattle.metric_make.specs.Finding.{NumberFinds, OwnFinds, StreamFinds, UnsafeFinds}

-- one fault for all parts
abbrev pub same_faults : SafetyFaults Bool
same_faults = record { collision = true; limit_exceeded = true; sum_low = true; sum_high = true; count_range = true; amount_range = true }

abbrev pub forget : {F : Type 0} → Option F → Option Bool
forget None = None
forget (Some fault) = Some true

own_forgotten : (number total : ℕ) (summed : Type 0) (instrument : Instrument) (found : Option MakeFault) → OwnFinds number total summed instrument found
    → InstrumentFinds same_faults total summed instrument (forget found)
own_forgotten number total summed instrument None p = p
own_forgotten number total summed instrument (Some fault) (inl p) = inl (p.0, refl)
own_forgotten number total summed instrument (Some fault) (inr (a, inl p)) = inr (a, inl (p.0, refl))
own_forgotten number total summed instrument (Some fault) (inr (a, inr (b, inl p))) = inr (a, inr (b, inl (p.0, refl)))
own_forgotten number total summed instrument (Some fault) (inr (a, inr (b, inr (c, p)))) = inr (a, inr (b, inr (c, (p.0, refl))))

number_forgotten : (contents : Contents) (streams : List Stream) (number : ℕ) (found : Option MakeFault) → NumberFinds contents streams number found
    → SomeNumberFinds same_faults contents streams number (forget found)
number_forgotten contents streams number found p = by (slice_get contents.instruments number) p
  where
    by : (o : Option Instrument) → WhereThere (OwnFinds number (total_of contents number) (IsTrue (is_summed streams number))) o found
        → WhereThere (InstrumentFinds same_faults (total_of contents number) (IsTrue (is_summed streams number))) o (forget found)
    by None p = ap forget p
    by (Some instrument) p = own_forgotten number (total_of contents number) (IsTrue (is_summed streams number)) instrument found p

numbers_forgotten : (contents : Contents) (streams : List Stream) (numbers : List ℕ) (found : Option MakeFault) → Each (NumberFinds contents streams) numbers found
    → Each (SomeNumberFinds same_faults contents streams) numbers (forget found)
numbers_forgotten contents streams [] found p = ap forget p
numbers_forgotten contents streams (n ∷ numbers) None p = (number_forgotten contents streams n None p.0, numbers_forgotten contents streams numbers None p.1)
numbers_forgotten contents streams (n ∷ numbers) (Some fault) (inl p) = inl (number_forgotten contents streams n (Some fault) p)
numbers_forgotten contents streams (n ∷ numbers) (Some fault) (inr p) =
    inr (number_forgotten contents streams n None p.0, numbers_forgotten contents streams numbers (Some fault) p.1)

limits_forgotten : (contents : Contents) (first : ℕ) (streams : List Stream) (found : Option MakeFault) → Each (StreamFinds contents) (enumerate_from first streams) found
    → SomeLimitsFind same_faults contents streams (forget found)
limits_forgotten contents first [] found p = ap forget p
limits_forgotten contents first (s ∷ streams) None p = (p.0, limits_forgotten contents (first + 1) streams None p.1)
limits_forgotten contents first (s ∷ streams) (Some fault) (inl p) = inl (p.0, refl)
limits_forgotten contents first (s ∷ streams) (Some fault) (inr p) = inr (p.0, limits_forgotten contents (first + 1) streams (Some fault) p.1)

pub forgotten : (contents : Contents) (config : Config) (found : Option MakeFault) → UnsafeFinds contents config found
    → SafetyFinds same_faults contents (streams_of contents config) (forget found)
forgotten contents config None p =
    let streams = streams_of contents config in (
      p.0,
      (numbers_forgotten contents streams (all_instruments contents) None p.1.0, limits_forgotten contents 0 streams None p.1.1),
    )
forgotten contents config (Some fault) (inl p) = inl (p.0, refl)
forgotten contents config (Some fault) (inr (a, inl p)) =
    inr (a, inl (numbers_forgotten contents (streams_of contents config) (all_instruments contents) (Some fault) p))
forgotten contents config (Some fault) (inr (a, inr p)) =
    let streams = streams_of contents config in
    inr (a, inr (numbers_forgotten contents streams (all_instruments contents) None p.0, limits_forgotten contents 0 streams (Some fault) p.1))
