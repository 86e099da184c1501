-- the parts are those of this provider's plan and run
use Rattle.std.proofs.Common.{◌≡◌, List, length, refl, sym, ap, subst, ◌∙◌}
use Rattle.metric_plan.specs.Plans.{PlanValue}
use Rattle.metric_seat.specs.Seats.{ProviderValue, RecorderValue, provider_of}
use Rattle.metric_provider.specs.Locked.{ComesTo}
use Rattle.metric_provider.specs.Totals.{RefusesFinish, missing_of, seated_by}
use Rattle.metric_provider.proofs.provider.Provider.ended.Goals as goal

pub settle_seated-requires : goal.settle_seated-requires
settle_seated-requires g c = c.into_slots-plan.ensures.kept.one_each

pub from_slots-provider-requires : goal.from_slots-provider-requires
from_slots-provider-requires g c = record {
  certified = c.into_slots-plan.ensures.kept.certified;
  one_each = c.in-Err.ensures.back ∙ c.into_slots-plan.ensures.kept.one_each;
}

pub returns-in-Ok-clause-totals : goal.returns-in-Ok-clause-totals
returns-in-Ok-clause-totals g c =
    let end = c.in-Ok.partly.totals in
    let plan_is : c.into_slots-plan.result.0 ≡ c.args.self.plan = ap (λ (p : ProviderValue). p.plan) c.into_slots-plan.ensures.value in
    subst (λ (plan : PlanValue). ComesTo g.B.Book.stands g.B.Book.kept g.B.Book.KEEPS_ENTRIES plan c.args.recorders.items end.instruments.items end.journals.items end.slips.items) plan_is
    (subst (λ (seats : List RecorderValue). ComesTo g.B.Book.stands g.B.Book.kept g.B.Book.KEEPS_ENTRIES c.into_slots-plan.result.0 seats end.instruments.items end.journals.items end.slips.items)
    c.as_slice.ensures.value c.in-Ok.ensures.totals)

pub returns-in-Ok-clause-missing : goal.returns-in-Ok-clause-missing
returns-in-Ok-clause-missing g c =
    c.in-Ok.ensures.missing
    ∙ ap (λ (seats : List RecorderValue). missing_of seats (length c.into_slots-plan.result.0.facts.contents.recorders)) c.as_slice.ensures.value
    ∙ ap (λ (p : ProviderValue). missing_of c.args.recorders.items (length p.plan.facts.contents.recorders)) c.into_slots-plan.ensures.value

pub returns-in-Ok-clause-seated : goal.returns-in-Ok-clause-seated
returns-in-Ok-clause-seated g c =
    ap (λ (p : ProviderValue). seated_by c.args.all p c.args.recorders.items) (sym c.into_slots-plan.ensures.value)
    ∙ ap (λ (seats : List RecorderValue). seated_by c.args.all (provider_of c.into_slots-plan.result.0 c.into_slots-plan.result.1) seats) (sym c.as_slice.ensures.value)
    ∙ c.in-Ok.ensures.seated

pub returns-in-Err-clause-refused : goal.returns-in-Err-clause-refused
returns-in-Err-clause-refused g c =
    subst (λ (p : ProviderValue). RefusesFinish (seated_by c.args.all p c.args.recorders.items) c.in-Err.fault) c.into_slots-plan.ensures.value
    (subst (λ (seats : List RecorderValue). RefusesFinish (seated_by c.args.all (provider_of c.into_slots-plan.result.0 c.into_slots-plan.result.1) seats) c.in-Err.fault)
    c.as_slice.ensures.value c.in-Err.ensures.refused)

pub returns-in-Err-clause-provider : goal.returns-in-Err-clause-provider
returns-in-Err-clause-provider g c = c.from_slots-provider.ensures ∙ c.into_slots-plan.ensures.value

pub returns-in-Err-clause-recorders : goal.returns-in-Err-clause-recorders
returns-in-Err-clause-recorders g c = refl
