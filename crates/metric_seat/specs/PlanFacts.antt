-- What a plan keeps of the facts of one instrument.
use Rattle.std.proofs.Common.{◌≡◌, ◌<◌, ℕ, true, ◌&&◌, List, Option, Some, Ok, length, sym, ap, ◌∙◌}
use Rattle.std.specs.Prelude.{slice_get, ◌==◌, nat_lt}
use Rattle.std.proofs.lemmas.Bool.{and_parts, ltb-true}
use Rattle.std.proofs.lemmas.List.{length-map}
use Rattle.metric_base.specs.Steps.{◌>>=◌, require_some}
use Rattle.metric_contents.specs.Budgets.{amount_of}
use Rattle.metric_contents.specs.Encoding.{Given, allowed_set, encode_of}
use Rattle.metric_contents.specs.declared.contents.Instrument.{Instrument}
use Rattle.metric_contents.specs.declared.contents.Recorder.{Recorder}
use Rattle.metric_contents.specs.declared.refusal.Refusal.TheVariants.{UnknownInstrument}
use Rattle.metric_facts.specs.declared.facts.Facts.{Facts}
use Rattle.metric_facts.specs.Facts.{EncodesAllowedSets, is_allowed_set, is_delta_reader}
use Rattle.metric_plan.specs.PlanFacts.{plan_facts_at}
use Rattle.metric_plan.specs.Plans.{IsPlan, PlanValue}
use Rattle.metric_seat.specs.Seats.{CollectorValue, ProviderValue, is_collector_of, is_same_run}

-- there is a budget for each recorder
pub budgets_each : (plan : PlanValue) (i : ℕ) (own : Facts) → IsPlan plan
    → slice_get plan.facts.instruments i ≡ Some own
    → length own.budgets ≡ length plan.facts.contents.recorders
budgets_each plan i own p found =
    let of = plan_facts_at plan i own p found in
    ap (λ (f : Facts). length f.budgets) of.is
    ∙ length-map plan.facts.contents.recorders (λ (recorder : Recorder). amount_of recorder i)

-- and it is said of each reader whether it is delta
pub delta_each : (plan : PlanValue) (i : ℕ) (own : Facts) → IsPlan plan
    → slice_get plan.facts.instruments i ≡ Some own → length own.delta ≡ length plan.config.readers
delta_each plan i own p found =
    let of = plan_facts_at plan i own p found in
    ap (λ (f : Facts). length f.delta) of.is
    ∙ length-map plan.config.readers (is_delta_reader of.instrument.kind)

-- what attributes are encoded to is an allowed set of the instrument
pub allowed_at : (plan : PlanValue) (i : ℕ) (own : Facts) (attrs : List Given) (set : List ℕ)
    → IsPlan plan → EncodesAllowedSets
    → slice_get plan.facts.instruments i ≡ Some own
    → encode_of plan.facts.contents.instruments i attrs ≡ Ok set → is_allowed_set own set ≡ true
unfolding encode_of
allowed_at plan i own attrs set p names found made =
    let of = plan_facts_at plan i own p found in
    let named : allowed_set of.instrument attrs ≡ Ok set =
    sym (ap (λ (o : Option Instrument). require_some o UnknownInstrument >>= λ d.
    allowed_set d attrs) of.at) ∙ made in
    ap (λ (f : Facts). is_allowed_set f set) of.is ∙ names of.instrument attrs set named

-- the seat of a provider is of one of its readers
pub reader_known : (p : ProviderValue) (seat : CollectorValue) → is_collector_of p seat ≡ true
    → seat.number < length p.plan.config.readers
reader_known p seat of =
    let readers = length p.plan.config.readers in
    let long = length seat.seen == length p.plan.facts.instruments in
    let parts = and_parts (nat_lt seat.number readers) long
    ((and_parts (is_same_run seat.run p.run) (nat_lt seat.number readers && long) of).1) in
    ltb-true seat.number readers parts.0
