-- The windows that an outlet collects over a run, and that each recording is in one of them.
use Rattle.std.specs.Prelude.{◌≡◌, ◌≤◌, ◌++◌, ℕ, zero, suc, Bool, true, ◌&&◌}
use Rattle.std.specs.Prelude.{List, [], ◌∷◌, Option, Some, None, filter, if◌then◌else◌, length}
use Rattle.std.specs.Prelude.{nat_le, nat_lt, slice_get}
use Rattle.metric_export.specs.Handings.{has_points}
use Rattle.metric_facts.specs.declared.facts.Facts.{Facts}
use Rattle.metric_facts.specs.Facts.{is_delta}
use Rattle.metric_history.specs.declared.batch.Batch.{Batch}
use Rattle.metric_plan.specs.Plans.{IsPlan}
use Rattle.metric_seat.specs.Seats.{CollectorValue, ProviderValue, seen_at}
use Rattle.metric_periodic.specs.Outlets.{CollectsTold, Showing}
use Rattle.metric_periodic.specs.Shown.{is_of}
use Rattle.metric_periodic.specs.declared.ended.Uncollected.{Uncollected}
use Rattle.metric_periodic.specs.declared.ended.Uncollected.TheVariants.{All, Instruments}

-- the batches are windows one after the other, from one recording up to another
abbrev pub AreWindows : List Batch → ℕ → ℕ → Type 0
AreWindows [] from mark = mark ≡ from
AreWindows (batch ∷ batches) from mark =
    (batch.from ≡ from) × ((from ≤ batch.mark) × AreWindows batches batch.mark mark)

-- whether a recording is within a window, by its number in the run, from 0 on
abbrev pub is_within : ℕ → ℕ → ℕ → Bool
is_within from mark number = nat_le from number && nat_lt number mark

-- how many batches count a recording
abbrev pub times_told : List Batch → ℕ → ℕ
times_told batches number =
    length (filter (λ (batch : Batch). is_within batch.from batch.mark number) batches)

-- what a collection of an outlet gave, also what is not handed on
abbrev pub given_of : (p : ProviderValue) (now : ℕ) (old new : Showing) (handed : List Batch)
    (refused : Option Uncollected) → CollectsTold p now old new handed refused → List Batch
given_of p now old new handed None all = all.given
given_of p now old new handed (Some All) nothing = []
given_of p now old new handed (Some (Instruments refused)) some = some.0.given

-- A collection of an outlet, as a turn or the end of a run makes it.
pub record AddsCollection (p : ProviderValue) (instrument : ℕ) (old new : CollectorValue)
    (earlier given before handed : List Batch) : Type 0 where
  pub now : ℕ
  pub from : Showing
  pub to : Showing
  pub batches : List Batch
  pub refused : Option Uncollected
  pub collects : CollectsTold p now from to batches refused
  pub from_is : from.seat ≡ old
  pub to_is : to.seat ≡ new
  pub given_is : given
      ≡ earlier ++ filter (is_of instrument) (given_of p now from to batches refused collects)
  pub handed_is : handed ≡ before ++ filter (is_of instrument) batches

-- so many of these, one after the other, with what they gave of an instrument and what of it is to be
-- handed on
abbrev pub AreCollections : ProviderValue → ℕ → ℕ → CollectorValue → CollectorValue → List Batch
    → List Batch → Type 0
AreCollections p instrument zero old new given handed =
    (new ≡ old) × ((given ≡ []) × (handed ≡ []))
AreCollections p instrument (suc made) old new given handed =
    (mid : CollectorValue) × ((earlier : List Batch) × ((before : List Batch)
    × (AreCollections p instrument made old mid earlier before
    × AddsCollection p instrument mid new earlier given before handed)))

-- # told once (SDK, temporality) [ToldOnce, AreCollections, times_told]
-- Each recording that a delta reader has seen of an instrument in a run is in exactly one of the
-- batches that its outlet collected, by its number, and no other is in any; and those with points
-- are among those to be handed on, in order. At the end of a run the reader has seen as many as the
-- totals count, if its last batches count them all (`Counts`).
pub record ToldOnce (p : ProviderValue) (instrument : ℕ) (last : CollectorValue)
    (given handed : List Batch) : Type 0 where
  pub once : (number : ℕ) → times_told given number
      ≡ (if nat_lt number (seen_at last instrument).mark then 1 else 0)
  pub pointed : filter has_points handed ≡ filter has_points given

-- so over each run of each outlet, from a seat that has seen nothing of the instrument
abbrev pub OutletsTellOnce : Type 0
OutletsTellOnce =
    (p : ProviderValue) (instrument made : ℕ) (own : Facts) (seat last : CollectorValue)
    (given handed : List Batch) → IsPlan p.plan
    → slice_get p.plan.facts.instruments instrument ≡ Some own
    → is_delta own seat.number ≡ true → (seen_at seat instrument).mark ≡ 0
    → AreCollections p instrument made seat last given handed
    → ToldOnce p instrument last given handed
