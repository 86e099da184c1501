-- What comes of threads is an answer to the input.
use Rattle.std.proofs.Common.{◌≡◌, ◌+◌, ℕ, List, [], ◌∷◌, IsTrue, length, ap, refl, suc}
use Rattle.metric_facts.specs.declared.facts.Facts.{Facts}
use Rattle.metric_plan.specs.Plans.{PlanValue}
use Rattle.metric_seat.specs.Seats.{RecorderValue}
use Rattle.metric_provider.specs.Totals.{told_totals}
use Rattle.metric_seat.specs.declared.total.Total.{Total}
use Rattle.metric_kit_commands.specs.declared.fault.KitFault.{KitFault}
use Rattle.metric_kit_commands.specs.declared.fault.KitFault.TheVariants.{Read, Input, Catalogue, Config, Certificate, Check, Make, Audit, Finish, Write, Memory}
use Rattle.metric_kit_commands.specs.Checking.{IsCertifiedInput, IsFirstCheckFault, check_needs}
use Rattle.metric_kit_commands.specs.Claims.{IsCertifiedPlan}
use Rattle.metric_kit_commands.specs.Commands.{IsAnswerTo}
use Rattle.metric_kit_commands.specs.Faults.{IsOfInput}
use Rattle.metric_kit_program.specs.Threading.{IsAfterThreads, IsCounted, IsFirstThreadsFault, totals_text}

-- what is certified may be started
pub certified : (input : List ℕ) (plan : PlanValue)
    → IsAnswerTo check_needs IsCertifiedPlan input plan → IsTrue plan.is_certified
certified input plan c = ap (λ (p : PlanValue). p.is_certified) c.is_answer.planned

certified_input : (input : List ℕ) (plan : PlanValue)
    → IsAnswerTo check_needs IsCertifiedPlan input plan → IsCertifiedInput input plan
certified_input input plan c = record { read = c.read; is_read = c.is_read; certified = c.is_answer }

-- a fault before the threads
pub before_threads : (input : List ℕ) (fault : KitFault) → IsFirstCheckFault input fault → IsFirstThreadsFault input fault
before_threads input Read found = found
before_threads input (Input line) found = found
before_threads input (Catalogue fault) found = found
before_threads input (Config fault) found = found
before_threads input (Certificate fault) found = found
before_threads input (Check fault) found = found
before_threads input (Make fault) found = found
before_threads input (Audit fault) found = found
before_threads input (Finish fault) found = absurd found
before_threads input Write found = found
before_threads input Memory found = found

-- a fault after them
pub after_threads : (input : List ℕ) (plan : PlanValue) (fault : KitFault)
    → IsAnswerTo check_needs IsCertifiedPlan input plan → IsAfterThreads fault
    → IsFirstThreadsFault input fault
after_threads input plan Read c own = absurd own
after_threads input plan (Input line) c own = absurd own
after_threads input plan (Catalogue fault) c own = absurd own
after_threads input plan (Config fault) c own = absurd own
after_threads input plan (Certificate fault) c own = absurd own
after_threads input plan (Check fault) c own = absurd own
after_threads input plan (Make fault) c own = absurd own
after_threads input plan (Audit fault) c own = absurd own
after_threads input plan (Finish fault) c own = record { plan = plan; certified = certified_input input plan c; own = own }
after_threads input plan Write c own = absurd own
after_threads input plan Memory c own = tt

-- which is of an input that was read
pub own_after_threads : (fault : KitFault) → IsAfterThreads fault → IsOfInput fault
own_after_threads Read own = absurd own
own_after_threads (Input line) own = absurd own
own_after_threads (Catalogue fault) own = absurd own
own_after_threads (Config fault) own = absurd own
own_after_threads (Certificate fault) own = absurd own
own_after_threads (Check fault) own = absurd own
own_after_threads (Make fault) own = absurd own
own_after_threads (Audit fault) own = absurd own
own_after_threads (Finish fault) own = tt
own_after_threads Write own = absurd own
own_after_threads Memory own = tt

-- the totals that are written
pub counted : (input : List ℕ) (plan : PlanValue) (totals : List Total)
    → IsAnswerTo check_needs IsCertifiedPlan input plan → length totals ≡ length plan.facts.instruments
    → IsCounted input (totals_text totals)
counted input plan totals c one_each = record {
  plan = plan;
  totals = totals;
  certified = certified_input input plan c;
  one_each = one_each;
  written = refl;
}

-- there is a total of each instrument
pub one_total_each : (seats : List RecorderValue) (number : ℕ) (instruments : List Facts)
    → length (told_totals seats number instruments) ≡ length instruments
one_total_each seats number [] = refl
one_total_each seats number (own ∷ all) = ap suc (one_total_each seats (number + 1) all)

pub ruleset thread_laws = (certified, before_threads, after_threads, own_after_threads, counted)
