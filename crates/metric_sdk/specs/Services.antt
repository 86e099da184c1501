-- A service, and how its runs end.
use Rattle.std.specs.Prelude.{◌≡◌, ◌⊎◌, ◌==◌, ◌<◌, ℕ, Bool, true, false, List, [], ◌∷◌, ◌++◌}
use Rattle.std.specs.Prelude.{Option, Some, None, length, slice_get, slice_index_or}
use Rattle.std.specs.List.{list_all}
use Rattle.metric_io.specs.Counts.{next_count}
use Rattle.metric_handles.specs.Seats.{others_of}
use Rattle.metric_periodic.specs.Outlets.{IsLeftBy, is_collected, new_outlet}
use Rattle.metric_periodic.specs.Outlets.{OutletValue}
use Rattle.metric_periodic.specs.declared.ended.ReaderEnd.{ReaderEnd}
use Rattle.metric_periodic.specs.declared.outlets.Outlets as outlets
use Rattle.metric_plan.specs.Plans.{PlanValue, print_of}
use Rattle.metric_provider.specs.Rolling.{new_collectors, new_recorders}
use Rattle.metric_provider.specs.Totals.{Finishes}
use Rattle.metric_provider.specs.declared.fault.RollFault.{RollFault}
use Rattle.metric_provider.specs.declared.totals.Totals.{Totals}
use Rattle.metric_seat.specs.Seats.{CollectorValue, ProviderValue, RecorderValue, provider_of, run_of}
use Rattle.metric_seat.specs.declared.fault.FinishFault.{FinishFault}
use Rattle.metric_seat.specs.declared.total.Total.{Total}
use Rattle.metric_sdk.specs.declared.leftover.UnendedFault.{UnendedFault}
use Rattle.metric_sdk.specs.declared.leftover.UnendedFault.TheVariants as unended
use Rattle.metric_sdk.specs.declared.service.TellFault.{TellFault}
use Rattle.metric_sdk.specs.declared.service.TellFault.TheVariants as tell

-- ---- putting it together

-- a provider, the outlets of its readers, and the number that was given to a run last
pub record ServiceValue (O : Type 0) : Type 0 where
  pub provider : ProviderValue
  pub outlets : O
  pub runs : ℕ

abbrev pub service_of : {O : Type 0} → ProviderValue → O → ℕ → ServiceValue O
service_of provider outlets runs =
    record { provider = provider; outlets = outlets; runs = runs }

-- a service, and the readers that are neither told nor ignored
pub record BuilderValue (O : Type 0) : Type 0 where
  pub service : ServiceValue O
  pub readers : List CollectorValue

-- # a reader and its way out (profile) [IsToldBy, IsUntoldBy]
-- The seat of the reader of that name goes into an outlet with the exporter, behind those that are
-- there; the others are left in order.
abbrev pub IsToldBy : {O E : Type 0} → Option ℕ → BuilderValue O → E → ℕ
    → BuilderValue (O × OutletValue E) → Type 0
IsToldBy None old exporter milliseconds new = ⊥
IsToldBy (Some place) old exporter milliseconds new =
    (seat : CollectorValue) × ((slice_get old.readers place ≡ Some seat)
    × (new ≡ record {
      service = service_of old.service.provider
          (old.service.outlets, new_outlet old.service.provider.plan seat exporter milliseconds)
          old.service.runs;
      readers = others_of old.readers (Some place);
    }))

-- a seat that is put back stands last, unless memory runs out for that
abbrev pub IsBackIn : List CollectorValue → CollectorValue → List CollectorValue → Type 0
IsBackIn others seat all = (all ≡ others ++ seat ∷ []) ⊎ (all ≡ others)

-- Why it does not: there is no such reader, else the exporter does not take its batches, else
-- memory ran out. Then its seat is put back.
abbrev pub IsUntoldBy : {O : Type 0} → (ℕ → ℕ → Bool) → Option ℕ → BuilderValue O
    → BuilderValue O → TellFault → Type 0
IsUntoldBy takes None old new tell.UnknownReader = new ≡ old
IsUntoldBy takes None old new (tell.Exporter why) = ⊥
IsUntoldBy takes None old new (tell.Untold reader) = ⊥
IsUntoldBy takes (Some place) old new tell.UnknownReader = ⊥
IsUntoldBy takes (Some place) old new (tell.Untold reader) = ⊥
IsUntoldBy takes (Some place) old new (tell.Exporter why) =
    (seat : CollectorValue) × ((slice_get old.readers place ≡ Some seat)
    × ((new.service ≡ old.service) × (IsBackIn (others_of old.readers (Some place)) seat new.readers
    × IsLeftBy (takes (print_of old.service.provider.plan) seat.number) why)))

-- ---- how a run ends

-- the totals of a provider by the seats of its recorders
abbrev pub IsTotal : Bool → ProviderValue → List RecorderValue → Totals → Type 0
IsTotal keeps p seats totals =
    Finishes keeps p.plan seats totals.instruments.items totals.journals.items totals.slips.items

-- that the last batches of each reader count all that these totals do, or not
abbrev pub AreCounted : (List Total → Type 0) → Totals → Bool → Type 0
AreCounted counts totals true = counts totals.instruments.items
AreCounted counts totals false = counts totals.instruments.items → ⊥

-- What a run that ended goes over into: the outlets count as told, and begin the next run with the
-- seats of its readers, of which some may be left; the provider is the next run's.
pub record Begins {O : Type 0} (by : outlets.Ghosts O) (ended : O) (runs : ℕ)
    (provider : ProviderValue) (seats : List CollectorValue) (totals : Totals)
    (is_counted are_seated : Bool) (next : ServiceValue O) : Type 0 where
  pub counted : AreCounted (by.counts ended) totals is_counted
  pub left : List CollectorValue
  pub outlets : by.begins ended next.outlets seats left are_seated
  pub runs_are : next.runs ≡ next_count runs
  pub provider_is : next.provider ≡ provider

-- # roll-over of a service (profile) [RollsOver, Begins, GoesOn, IsUnended]
-- Each outlet made its last turn, in which no instrument was refused. The totals are those of the
-- run that ended; the next run has the same plan, the next number, new seats of all recorders, and
-- for each outlet the new seat of its reader, and starts at the moment of the last turns.
pub record RollsOver {O : Type 0} (by : outlets.Ghosts O) (keeps : Bool) (old : ServiceValue O)
    (seats : List RecorderValue) (now : ℕ) (told : List ReaderEnd) (is_counted are_seated : Bool)
    (next : ServiceValue O) (recorders : List RecorderValue) (totals : Totals) : Type 0 where
  pub ended : O
  pub readers : by.ends old.provider now old.outlets ended told
  pub collected : list_all is_collected told ≡ true
  pub totals_are : IsTotal keeps old.provider seats totals
  pub other_run : (next_count old.runs == old.provider.run.number) ≡ false
  pub recorders_new : recorders
      ≡ new_recorders keeps (run_of old.provider.plan (next_count old.runs) now) old.provider.plan
  pub begins : Begins by ended old.runs
      (provider_of old.provider.plan (run_of old.provider.plan (next_count old.runs) now))
      (new_collectors (run_of old.provider.plan (next_count old.runs) now) old.provider.plan)
      totals is_counted are_seated next

-- # end of a service (SDK, shutdown) [EndsService, GoesOn, IsUnended]
-- The same, and then the provider is finished, and the plan handed out.
pub record EndsService {O : Type 0} (by : outlets.Ghosts O) (keeps : Bool) (old : ServiceValue O)
    (seats : List RecorderValue) (now : ℕ) (told : List ReaderEnd) (is_counted : Bool)
    (ended : O) (plan : PlanValue) (totals : Totals) : Type 0 where
  pub readers : by.ends old.provider now old.outlets ended told
  pub collected : list_all is_collected told ≡ true
  pub counted : AreCounted (by.counts ended) totals is_counted
  pub totals_are : IsTotal keeps old.provider seats totals
  pub plan_is : plan ≡ old.provider.plan

-- Why a run goes on, by whether each reader has collected of each instrument, and by what refuses
-- to end it: memory ran out before anything was done, a reader has not, else the provider refused.
abbrev pub IsUnended : Bool → (UnendedFault → Type 0) → UnendedFault → Type 0
IsUnended collected refuses unended.Memory = Unit {0}
IsUnended collected refuses unended.Uncollected = collected ≡ false
IsUnended collected refuses (unended.Finish fault) =
    (collected ≡ true) × refuses (unended.Finish fault)
IsUnended collected refuses (unended.Roll fault) = (collected ≡ true) × refuses (unended.Roll fault)

-- what refuses a roll-over, or an end
abbrev pub RefusesRollOver : (RollFault → Type 0) → UnendedFault → Type 0
RefusesRollOver refuses (unended.Roll fault) = refuses fault
RefusesRollOver refuses (unended.Finish fault) = ⊥
RefusesRollOver refuses unended.Uncollected = ⊥
RefusesRollOver refuses unended.Memory = ⊥

abbrev pub RefusesEnd : (FinishFault → Type 0) → UnendedFault → Type 0
RefusesEnd refuses (unended.Finish fault) = refuses fault
RefusesEnd refuses (unended.Roll fault) = ⊥
RefusesEnd refuses unended.Uncollected = ⊥
RefusesEnd refuses unended.Memory = ⊥

-- the outlets, by why the run goes on: as they were where memory ran out before, else after their
-- last turns
abbrev pub AreAsked : {O : Type 0} → outlets.Ghosts O → ProviderValue → ℕ → O → O
    → List ReaderEnd → UnendedFault → Type 0
AreAsked by p now old new told unended.Memory = (new ≡ old) × (told ≡ [])
AreAsked by p now old new told unended.Uncollected = by.ends p now old new told
AreAsked by p now old new told (unended.Finish why) = by.ends p now old new told
AreAsked by p now old new told (unended.Roll why) = by.ends p now old new told

-- The run goes on, with its provider and the seats of its recorders.
pub record GoesOn {O : Type 0} (by : outlets.Ghosts O) (refuses : UnendedFault → Type 0)
    (old : ServiceValue O) (seats : List RecorderValue) (now : ℕ) (told : List ReaderEnd)
    (service : ServiceValue O) (recorders : List RecorderValue) (why : UnendedFault) : Type 0 where
  pub provider : service.provider ≡ old.provider
  pub runs : service.runs ≡ old.runs
  pub recorders_are : recorders ≡ seats
  pub outlets : AreAsked by old.provider now old.outlets service.outlets told why
  pub cause : IsUnended (list_all is_collected told) refuses why

-- # a run of a service (profile) [DoesEach]
-- There are as many workers as before, and each did its work.
pub record DoesEach {W : Type 0} (does : W → W → Type 0) (old new : List W) : Type 0 where
  pub many : length new ≡ length old
  pub each : (k : ℕ) (d : W) → k < length old
      → does (slice_index_or old k d) (slice_index_or new k d)
