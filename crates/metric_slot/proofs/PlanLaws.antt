-- What a certified plan says of each of its instruments.
use Rattle.std.proofs.Common.{◌≡◌, ℕ, Some, ap, subst, sym}
use Rattle.std.specs.Prelude.{IsTrue, slice_get}
use Rattle.metric_catalogue.specs.Sound.{IsSound}
use Rattle.metric_contents.specs.declared.contents.Contents.{Contents}
use Rattle.metric_facts.specs.declared.facts.Facts.{Facts}
use Rattle.metric_plan.specs.PlanFacts.{plan_facts_at}
use Rattle.metric_plan.specs.Plans.{IsPlan, PlanValue}
use Rattle.metric_safety.specs.SafeRuns.{IsSafePlan, IsSafeRun}
use Rattle.metric_slot.specs.Slots.{AreCertified}

pub are_certified : (plan : PlanValue) (contents : Contents) → IsPlan plan → contents ≡ plan.facts.contents → IsSound contents
    → ((p : PlanValue) → IsSafePlan p → IsSafeRun p.streams p.facts) → IsTrue plan.is_certified → AreCertified plan.facts.instruments
are_certified plan contents p declared sound law vouched number own found = record {
  plan = plan;
  kept = p;
  certified = vouched;
  of = subst (λ (n : ℕ). slice_get plan.facts.instruments n ≡ Some own) (sym (ap (λ (f : Facts). f.instrument) (plan_facts_at plan number own p found).is)) found;
  safe =
      (law plan (record { sound = subst IsSound declared sound; streams = p.streams; facts = p.facts; safe = p.safe vouched; ranges = p.ranges })).safe number own found;
}
