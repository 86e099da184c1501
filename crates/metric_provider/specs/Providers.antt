-- What a provider keeps.
use Rattle.std.specs.Prelude.{◌≡◌, ℕ, IsTrue, length}
use Rattle.metric_plan.specs.Plans.{PlanValue}

-- What each provider keeps: a certificate vouches for the plan, and
-- there is a slot for each instrument.
pub record IsProvider (plan : PlanValue) (slots : ℕ) : Type 0 where
  pub certified : IsTrue plan.is_certified
  pub one_each : slots ≡ length plan.facts.instruments
