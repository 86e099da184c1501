-- Of which declared instrument the facts at a place are, and that their streams by
-- product are within their limits.
use Rattle.std.proofs.Common.{◌≡◌, ◌+◌, ◌≤◌, ℕ, zero, suc, Bool, List, [], ◌∷◌, Some, map, IsTrue}
use Rattle.std.proofs.Common.{refl, sym, ap, subst, ◌∙◌, arith}
use Rattle.std.specs.Prelude.{slice_get}
use Rattle.std.proofs.lemmas.Option.{same_Some}
use Rattle.metric_contents.specs.declared.contents.Instrument.{Instrument}
use Rattle.metric_contents.specs.declared.contents.Recorder.{Recorder}
use Rattle.metric_facts.specs.declared.facts.Facts.{Facts}
use Rattle.metric_facts.specs.declared.facts.NumberedStream.{NumberedStream}
use Rattle.metric_facts.specs.Facts.{RunFacts, facts_from, facts_of, is_by_product, key_facts}
use Rattle.metric_facts.specs.NumberedLaws.{all_numbered}
use Rattle.metric_facts.specs.Products.{AreProductsWithin, product_of}
use Rattle.metric_plan.specs.Plans.{IsPlan, PlanValue, print_of}
use Rattle.metric_plan.specs.SetLaws.{products_are}
use Rattle.metric_views.specs.declared.config.Reader.{Reader}
use Rattle.metric_views.specs.declared.stream.Stream.{Stream}

-- the instrument that is declared at a place, and has this number
pub record FactsAt (plan : ℕ) (certified : Bool) (flags : List Bool) (recorders : List Recorder)
    (readers : List Reader) (streams : List Stream) (number : ℕ) (instruments : List Instrument)
    (place : ℕ) (own : Facts) : Type 0 where
  pub instrument : Instrument
  pub at : slice_get instruments place ≡ Some instrument
  pub is : own ≡ facts_of plan certified flags recorders readers streams number instrument

pub facts_at : (plan : ℕ) (certified : Bool) (flags : List Bool) (recorders : List Recorder)
    (readers : List Reader) (streams : List Stream) (first number : ℕ)
    (instruments : List Instrument) (place : ℕ) (own : Facts) → first + place ≡ number
    → slice_get (facts_from plan certified flags recorders readers streams first instruments) place
    ≡ Some own → FactsAt plan certified flags recorders readers streams number instruments place own
facts_at plan certified flags recorders readers streams first number [] place own numbered found =
    absurd cc
facts_at plan certified flags recorders readers streams first number
    (i ∷ instruments) zero own numbered found =
    let start : first ≡ number = omega (arith, numbered) in
    record {
      instrument = i;
      at = refl;
      is =
          sym (same_Some (facts_of plan certified flags recorders readers streams first i) own found)
          ∙ ap (λ (n : ℕ). facts_of plan certified flags recorders readers streams n i) start;
    }
facts_at plan certified flags recorders readers streams first number (i ∷ instruments)
    (suc place) own numbered found =
    let later = facts_at plan certified flags recorders readers streams
    (first + 1) number instruments place own (omega (arith, numbered)) found in
    record { instrument = later.instrument; at = later.at; is = later.is }

-- those of a plan
pub plan_facts_at : (plan : PlanValue) (number : ℕ) (own : Facts) → IsPlan plan
    → slice_get plan.facts.instruments number ≡ Some own
    → FactsAt (print_of plan) plan.is_certified plan.by_product plan.facts.contents.recorders
    plan.config.readers plan.streams number plan.facts.contents.instruments number own
plan_facts_at plan number own p found =
    facts_at (print_of plan) plan.is_certified plan.by_product plan.facts.contents.recorders
    plan.config.readers plan.streams 0 number plan.facts.contents.instruments number own
    (omega arith)
    (ap (λ (run : RunFacts). slice_get run.instruments number) (sym p.facts) ∙ found)

-- Those of a plan have no stream by product that can have more series than its limit.
pub plan_products : (plan : PlanValue) (number : ℕ) (own : Facts) → IsPlan plan
    → slice_get plan.facts.instruments number ≡ Some own → AreProductsWithin own
plan_products plan number own p found =
    let contents = plan.facts.contents in
    let flags = plan.by_product in
    let here = plan_facts_at plan number own p found in
    let keys = map key_facts here.instrument.keys in
    subst AreProductsWithin (sym here.is)
    (all_numbered (λ (n : NumberedStream). IsTrue n.by_product → product_of n.stream.kept keys
    ≤ n.stream.limit) flags number 0 plan.streams (λ k s at of flagged.
    let place : 0 + k ≡ k = omega arith in
    let instrument_at = ap (slice_get contents.instruments) of ∙ here.at in
    subst (λ (n : ℕ). n ≤ s.limit) (products_are contents s here.instrument instrument_at)
    (p.products k s at (subst (λ (n : ℕ). IsTrue (is_by_product flags n)) place flagged))))
