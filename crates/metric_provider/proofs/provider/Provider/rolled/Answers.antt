-- the parts are those of this provider's plan and run
use Rattle.std.proofs.Common.{◌≡◌, true, List, refl, sym, ap, subst, ◌∙◌}
use Rattle.metric_plan.specs.Plans.{PlanValue}
use Rattle.metric_provider.specs.Locked.{AreLockedJournals}
use Rattle.metric_provider.specs.Rolling.{new_collectors, new_recorders}
use Rattle.metric_seat.specs.declared.run_id.RunId.{RunId}
use Rattle.metric_seat.specs.Seats.{ProviderValue, RecorderValue, provider_of, run_of}
use Rattle.metric_provider.specs.Totals.{Finishes, RefusesFinish, seated}
use Rattle.metric_provider.proofs.provider.Provider.rolled.Goals as goal

pub seated_parts-requires-clause-slots : goal.seated_parts-requires-clause-slots
seated_parts-requires-clause-slots g c = c.into_slots-plan.ensures.kept.one_each

pub seated_parts-requires-clause-certified : goal.seated_parts-requires-clause-certified
seated_parts-requires-clause-certified g c = c.into_slots-plan.ensures.kept.certified

pub from_slots-provider-requires : goal.from_slots-provider-requires
from_slots-provider-requires g c = record { certified = c.into_slots-plan.ensures.kept.certified; one_each = c.in-Ok.ensures.slots }

pub from_slots-provider-requires-in-Err : goal.from_slots-provider-requires-in-Err
from_slots-provider-requires-in-Err g c = record {
  certified = c.into_slots-plan.ensures.kept.certified;
  one_each = c.in-Err.ensures.back ∙ c.into_slots-plan.ensures.kept.one_each;
}

pub returns-in-Ok-clause-totals : goal.returns-in-Ok-clause-totals
returns-in-Ok-clause-totals g c =
    let end = c.in-Ok.parts.totals in
    let plan_is : c.into_slots-plan.result.0 ≡ c.args.self.plan = ap (λ (p : ProviderValue). p.plan) c.into_slots-plan.ensures.value in
    subst (λ (plan : PlanValue). Finishes g.B.Book.KEEPS_ENTRIES plan c.args.recorders.items end.instruments.items end.journals.items end.slips.items) plan_is
    (subst (λ (seats : List RecorderValue). Finishes g.B.Book.KEEPS_ENTRIES c.into_slots-plan.result.0 seats end.instruments.items end.journals.items end.slips.items) c.as_slice.ensures.value
    c.in-Ok.ensures.totals)

pub returns-in-Ok-clause-behind : goal.returns-in-Ok-clause-behind
returns-in-Ok-clause-behind g c =
    let journals = c.in-Ok.parts.totals.journals.items in
    let plan_is : c.into_slots-plan.result.0 ≡ c.args.self.plan = ap (λ (p : ProviderValue). p.plan) c.into_slots-plan.ensures.value in
    subst (λ (plan : PlanValue). AreLockedJournals true g.B.Book.stands g.B.Book.kept plan.facts.instruments c.args.recorders.items journals) plan_is
    (subst (λ (seats : List RecorderValue). AreLockedJournals true g.B.Book.stands g.B.Book.kept c.into_slots-plan.result.0.facts.instruments seats journals)
    c.as_slice.ensures.value c.in-Ok.ensures.behind)

pub returns-in-Ok-clause-next : goal.returns-in-Ok-clause-next
returns-in-Ok-clause-next g c =
    c.from_slots-provider.ensures ∙ ap (λ (r : RunId). provider_of c.into_slots-plan.result.0 r) c.of-id.ensures
    ∙ ap (λ (p : ProviderValue). provider_of p.plan (run_of p.plan c.args.next.run c.args.next.start)) c.into_slots-plan.ensures.value

pub returns-in-Ok-clause-next_recorders : goal.returns-in-Ok-clause-next_recorders
returns-in-Ok-clause-next_recorders g c =
    c.in-Ok.ensures.next_recorders ∙ ap (λ (p : ProviderValue). new_recorders g.B.Book.KEEPS_ENTRIES (run_of p.plan c.args.next.run c.args.next.start) p.plan) c.into_slots-plan.ensures.value

pub returns-in-Ok-clause-next_collectors : goal.returns-in-Ok-clause-next_collectors
returns-in-Ok-clause-next_collectors g c =
    c.in-Ok.ensures.next_collectors ∙ ap (λ (p : ProviderValue). new_collectors (run_of p.plan c.args.next.run c.args.next.start) p.plan) c.into_slots-plan.ensures.value

pub returns-in-Ok-clause-seated : goal.returns-in-Ok-clause-seated
returns-in-Ok-clause-seated g c =
    ap (λ (p : ProviderValue). seated p c.args.recorders.items) (sym c.into_slots-plan.ensures.value)
    ∙ ap (λ (seats : List RecorderValue). seated (provider_of c.into_slots-plan.result.0 c.into_slots-plan.result.1) seats) (sym c.as_slice.ensures.value)
    ∙ c.in-Ok.ensures.seated

pub returns-in-Err-clause-refused : goal.returns-in-Err-clause-refused
returns-in-Err-clause-refused g c =
    subst (λ (p : ProviderValue). RefusesFinish (seated p c.args.recorders.items) c.in-Err.fault) c.into_slots-plan.ensures.value
    (subst (λ (seats : List RecorderValue). RefusesFinish (seated (provider_of c.into_slots-plan.result.0 c.into_slots-plan.result.1) seats) c.in-Err.fault)
    c.as_slice.ensures.value c.in-Err.ensures.refused)

pub returns-in-Err-clause-provider : goal.returns-in-Err-clause-provider
returns-in-Err-clause-provider g c = c.from_slots-provider-in-Err.ensures ∙ c.into_slots-plan.ensures.value

pub returns-in-Err-clause-recorders : goal.returns-in-Err-clause-recorders
returns-in-Err-clause-recorders g c = refl
