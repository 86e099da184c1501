-- What a plan keeps of the facts of one instrument.
use Rattle.std.proofs.Common.{◌≡◌, ℕ, zero, suc, ◌+◌, ◌^◌, ◌<◌, true, List, [], ◌∷◌, Some, Result, Ok, Err, map, refl, sym, ap, subst, ◌∙◌, arith}
use Rattle.std.specs.Prelude.{nat_lt, slice_get, sum, sum_by}
use Rattle.std.proofs.lemmas.Bool.{and_parts, ltb-true}
use Rattle.std.proofs.lemmas.List.Sums.{sum-map}
use Rattle.metric_bounds.specs.Amounts.{total_of}
use Rattle.metric_contents.specs.Budgets.{amount_of, spare_at, spare_in}
use Rattle.metric_contents.specs.Attributes.{given_by_owned}
use Rattle.metric_contents.specs.Encoding.{Given, allowed_set, encode_of}
use Rattle.metric_contents.specs.declared.contents.Contents.{Contents}
use Rattle.metric_contents.specs.declared.contents.Instrument.{Instrument}
use Rattle.metric_contents.specs.declared.contents.Recorder.{Recorder}
use Rattle.metric_contents.specs.declared.refusal.Refusal.{Refusal}
use Rattle.metric_history.specs.Encoded.{encoded}
use Rattle.metric_history.specs.declared.event.Event.{Event}
use Rattle.metric_history.specs.declared.event.Event.TheVariants.{Record, Collect, Close, Grant}
use Rattle.metric_facts.specs.declared.facts.Facts.{Facts}
use Rattle.metric_history.specs.Events.{instrument_of}
use Rattle.metric_facts.specs.Facts.{EncodesAllowedSets, is_allowed_set}
use Rattle.metric_plan.specs.Counting.{counts_fit}
use Rattle.metric_plan.specs.PlanFacts.{plan_facts_at}
use Rattle.metric_plan.specs.Plans.{IsPlan, PlanValue}
use Rattle.metric_safety.specs.SafeFacts.{total}
use Rattle.metric_core.specs.Steps.{HasAllowedSet, IsAllowedSet}

counted_at : (contents : Contents) (instruments : List Instrument) (first i : ℕ) (d : Instrument) → counts_fit contents first instruments ≡ true → slice_get instruments i ≡ Some d
    → total_of contents (first + i) < 2 ^ 64
counted_at contents [] first i d fits found = absurd cc
counted_at contents (e ∷ instruments) first zero d fits found =
    let parts = and_parts (nat_lt (total_of contents first) (2 ^ 64)) (counts_fit contents (first + 1) instruments) fits in
    subst (λ (n : ℕ). total_of contents n < 2 ^ 64) (omega arith) (ltb-true (total_of contents first) (2 ^ 64) parts.0)
counted_at contents (e ∷ instruments) first (suc i) d fits found =
    let parts = and_parts (nat_lt (total_of contents first) (2 ^ 64)) (counts_fit contents (first + 1) instruments) fits in
    subst (λ (n : ℕ). total_of contents n < 2 ^ 64) (omega arith) (counted_at contents instruments (first + 1) i d parts.1 found)

-- the budgets of an instrument and its spare are together a u64
pub budgets_fit : (plan : PlanValue) (i : ℕ) (own : Facts) → IsPlan plan → slice_get plan.facts.instruments i ≡ Some own → total own < 2 ^ 64
unfolding total_of
budgets_fit plan i own p found =
    let of = plan_facts_at plan i own p found in
    let fits : sum_by (λ (recorder : Recorder). amount_of recorder i) plan.facts.contents.recorders + spare_at plan.facts.contents.instruments i < 2 ^ 64 =
    subst (λ (n : ℕ). total_of plan.facts.contents n < 2 ^ 64) (omega arith) (counted_at plan.facts.contents plan.facts.contents.instruments 0 i of.instrument p.counted of.at) in
    let is : sum own.budgets ≡ sum_by (λ (recorder : Recorder). amount_of recorder i) plan.facts.contents.recorders =
    ap (λ (f : Facts). sum f.budgets) of.is ∙ sum-map (λ (recorder : Recorder). amount_of recorder i) plan.facts.contents.recorders in
    let spare : own.spare ≡ spare_at plan.facts.contents.instruments i = ap (λ (f : Facts). f.spare) of.is ∙ sym (ap spare_in of.at) in
    omega (arith, is, spare, fits)

-- what the attributes of a recording are encoded to is an allowed set of the instrument
allowed_at : (plan : PlanValue) (i : ℕ) (own : Facts) (attrs : List Given) → IsPlan plan → EncodesAllowedSets → slice_get plan.facts.instruments i ≡ Some own
    → IsAllowedSet own (encode_of plan.facts.contents.instruments i attrs)
unfolding encode_of
allowed_at plan i own attrs p names found =
    let of = plan_facts_at plan i own p found in
    rw of.at (at (allowed_set of.instrument attrs) refl)
  where
    at : (r : Result (List ℕ) Refusal) → allowed_set (plan_facts_at plan i own p found).instrument attrs ≡ r → IsAllowedSet own r
    at (Ok set) made =
        let of = plan_facts_at plan i own p found in
        ap (λ (f : Facts). is_allowed_set f set) of.is ∙ names of.instrument attrs set made
    at (Err refusal) made = tt

pub has_allowed_set : (plan : PlanValue) (contents : Contents) (own : Facts) (event : Event) (k : ℕ) → IsPlan plan → EncodesAllowedSets → contents ≡ plan.facts.contents → k ≡ instrument_of event
    → slice_get plan.facts.instruments k ≡ Some own → HasAllowedSet contents own event
has_allowed_set plan contents own (Record n i attrs v) k p names declared at found =
    subst (λ (d : Contents). IsAllowedSet own (encoded d i attrs)) (sym declared) (allowed_at plan i own (map given_by_owned attrs) p names (subst (λ (m : ℕ). slice_get plan.facts.instruments m ≡ Some own) at found))
has_allowed_set plan contents own (Collect q i now) k p names declared at found = tt
has_allowed_set plan contents own (Close i) k p names declared at found = tt
has_allowed_set plan contents own (Grant n i amount) k p names declared at found = tt
