-- What the steps of a check have shown for the steps after them.
use Rattle.std.specs.Prelude.{◌≡◌, ℕ, ◌+◌, ◌*◌, ◌<◌, Bool, true, false, IsSomeAnd, List, Some}
use Rattle.std.specs.Prelude.{length, option_map, slice_get}
use Rattle.metric_contents.specs.declared.contents.Contents.{Contents}
use Rattle.metric_views.specs.declared.config.Config.{Config}
use Rattle.metric_bounds.specs.Amounts.{total_of}
use Rattle.metric_glob.specs.declared.reason.Reason.TheVariants.{Takes}
use Rattle.metric_cert.specs.declared.bound.InstrumentBound.{InstrumentBound}
use Rattle.metric_contents.specs.declared.contents.Instrument.{Instrument}
use Rattle.metric_contents.specs.declared.contents.Meter.{Meter}
use Rattle.metric_views.specs.declared.config.Criteria.{Criteria}
use Rattle.metric_cert.specs.declared.reason.Criterion.TheVariants.{InstrumentType, InstrumentUnit}
use Rattle.metric_cert.specs.declared.reason.Criterion.TheVariants.{MeterName, MeterVersion}
use Rattle.metric_cert.specs.declared.reason.Criterion.TheVariants.{MeterSchemaUrl}
use Rattle.metric_cert.specs.declared.reason.Evidence.{Evidence}
use Rattle.metric_cert.specs.declared.reason.Evidence.TheVariants.{Name}
use Rattle.metric_cert.specs.declared.reason.SelectionReason.{SelectionReason}
use Rattle.metric_cert.specs.declared.stream.StreamSets.{StreamSets}
use Rattle.metric_cert.specs.Valid.{Holds, IsListed}
use Rattle.metric_views.specs.declared.stream.Stream.{Stream}
use Rattle.metric_resolve.specs.Applying.{is_selected}

-- The criteria beside the name hold one by one.
abbrev pub EachHolds : Criteria → Meter → Instrument → Type 0
EachHolds criteria meter instrument =
    Holds InstrumentType criteria meter instrument × Holds InstrumentUnit criteria meter instrument
    × Holds MeterName criteria meter instrument
    × Holds MeterVersion criteria meter instrument × Holds MeterSchemaUrl criteria meter instrument

-- whether evidence, where it is true, shows that a view selects an instrument
abbrev pub selects_by : Evidence → Bool
selects_by (Name (Takes takes)) = true
selects_by _ = false

-- The reason of each pair is there, and shows whether the view selects the instrument.
abbrev pub ShowSelection : Contents → Config → List SelectionReason → Type 0
ShowSelection contents config reasons =
    (view instrument : ℕ) → view < length config.views → instrument < length contents.instruments
    → option_map (λ reason. selects_by reason.evidence)
    (slice_get reasons (view * length contents.instruments + instrument))
    ≡ Some (is_selected contents config instrument view)

-- The bounds have the sum of the budgets and the spare of each instrument.
abbrev pub AreTotals : Contents → List InstrumentBound → Type 0
AreTotals contents bounds =
    (number : ℕ) → number < length contents.instruments
    → IsSomeAnd (slice_get bounds number) (λ bound. bound.total ≡ total_of contents number)

-- The lists of the entries of so many streams are theirs.
abbrev pub AreListed : Contents → List Stream → List StreamSets → ℕ → Type 0
AreListed contents streams entries count =
    (number : ℕ) → number < count → (stream : Stream) (entry : StreamSets)
    → slice_get streams number ≡ Some stream → slice_get entries number ≡ Some entry
    → IsListed contents stream entry.by

-- Two streams are of one instrument and keep the same keys.
pub record IsLike (stream other : Stream) : Type 0 where
  pub instrument : stream.instrument ≡ other.instrument
  pub kept : stream.kept ≡ other.kept
