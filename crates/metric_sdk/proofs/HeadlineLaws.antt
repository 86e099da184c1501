-- The history of all runs of a core is legal, and each batch in it is the definition's.
use Rattle.std.proofs.Common.{◌≡◌, ℕ, List, [], ◌∷◌, Result, Ok, Err, refl, sym, ap, subst, ◌∙◌}
use Rattle.std.specs.Prelude.{IsTrue}
use Rattle.metric_history.specs.Journals.{Standing}
use Rattle.metric_contents.specs.declared.refusal.Refusal.{Refusal}
use Rattle.metric_core.specs.CoreStands.{CoreStands, CoreValue}
use Rattle.metric_facts.specs.Facts.{RunFacts}
use Rattle.metric_history.specs.declared.batch.Batch.{Batch}
use Rattle.metric_history.specs.declared.event.Event.{Event}
use Rattle.metric_history.specs.declared.event.Event.TheVariants.{Record, Collect, Close, Grant}
use Rattle.metric_history.specs.declared.event.Reply.{Reply}
use Rattle.metric_history.specs.declared.event.Reply.TheVariants.{Accepted, Collected, Done, Granted, Refused}
use Rattle.metric_history.specs.History.{History}
use Rattle.metric_history.specs.Legal.{AllLegal, IsLegal, KeepsLegal, Legal, LegalCollect, collection, grown}
use Rattle.metric_catalogue.specs.Sound.{IsSound}
use Rattle.metric_contents.specs.declared.contents.Contents.{Contents}
use Rattle.metric_plan.specs.Plans.{IsPlan, PlanValue}
use Rattle.metric_history.specs.declared.entry.Entry.{Entry}
use Rattle.metric_history.specs.Points.{CountsOnce}
use Rattle.metric_safety.specs.SafeRuns.{IsSafeHistory, IsSafePlan}
use Rattle.metric_views.specs.declared.stream.Stream.{Stream}
use Rattle.metric_sdk.specs.Headline.{AreReports, AreRuns, IsReport, IsRun, Run, RunsAreExact, history_after}

step : {B : Type 0} (stands : B → Standing) (plan : PlanValue) (start : ℕ) (core : CoreValue B) (h : History) (run : Run B) → core.plan ≡ plan → core.start ≡ start
    → CoreStands stands core h → IsRun stands core run → AllLegal plan.facts start h run.events run.replies
step stands plan start core h run of at stood is =
    subst (λ (q : PlanValue). AllLegal q.facts start h run.events run.replies) of
    (subst (λ (n : ℕ). AllLegal core.plan.facts n h run.events run.replies) at (is.legal h stood))

pub legal_after : {B : Type 0} (stands : B → Standing) → KeepsLegal → (plan : PlanValue) (start : ℕ) (core : CoreValue B) (h : History) (runs : List (Run B))
    → core.plan ≡ plan → core.start ≡ start → CoreStands stands core h → IsLegal plan.facts start h → AreRuns stands core runs
    → IsLegal plan.facts start (history_after h runs)
legal_after stands keeps plan start core h [] of at stood legal are = legal
legal_after stands keeps plan start core h (run ∷ runs) of at stood legal are =
    legal_after stands keeps plan start run.core (grown h run.events run.replies) runs (are.0.plan ∙ of) (are.0.start ∙ at) (are.0.stays h stood)
    (keeps plan.facts start h run.events run.replies legal (step stands plan start core h run of at stood are.0)) are.1

batch_of : (r : Result Batch Refusal) (b : Batch) → LegalCollect r (Collected b) → r ≡ Ok b
batch_of (Ok due) b same = ap Ok (sym same)
batch_of (Err refusal) b none = absurd none

report_of : (facts : RunFacts) (start : ℕ) (h : History) (event : Event) (reply : Reply) → Legal facts start h event reply → IsReport facts start h event reply
report_of facts start h (Collect reader instrument now) (Collected b) legal = batch_of (collection facts start h reader instrument now) b legal
report_of facts start h (Collect reader instrument now) Accepted legal = tt
report_of facts start h (Collect reader instrument now) Done legal = tt
report_of facts start h (Collect reader instrument now) Granted legal = tt
report_of facts start h (Collect reader instrument now) (Refused refusal) legal = tt
report_of facts start h (Record recorder instrument attrs value) reply legal = tt
report_of facts start h (Close instrument) reply legal = tt
report_of facts start h (Grant recorder instrument amount) reply legal = tt

pub reports_of : (facts : RunFacts) (start : ℕ) (h : History) → IsLegal facts start h → AreReports facts start h
reports_of facts start [] legal = tt
reports_of facts start (a ∷ older) legal = (reports_of facts start older legal.0, report_of facts start older a.event a.reply legal.1)

pub exact_runs : {B : Type 0} (stands : B → Standing) → KeepsLegal → ((s : Stream) (window : List Entry) → CountsOnce s window)
    → ((plan : PlanValue) (start : ℕ) (h : History) → IsSafePlan plan → IsLegal plan.facts start h → IsSafeHistory plan start h) → (plan : PlanValue) → IsSafePlan plan → RunsAreExact stands plan
exact_runs stands keeps once histories plan safe core runs of stood are =
    let own : IsSafePlan core.plan = subst (λ (q : PlanValue). IsSafePlan q) (sym of) safe in
    let legal = legal_after stands keeps core.plan core.start core [] runs refl refl stood tt are in
    record {
      legal = legal;
      safe = histories core.plan core.start (history_after [] runs) own legal;
      reports = reports_of core.plan.facts core.start (history_after [] runs) legal;
      counted = once;
    }

-- what a certified plan keeps makes it a safe one
pub safe_plan : (plan : PlanValue) (contents : Contents) → IsPlan plan → contents ≡ plan.facts.contents → IsSound contents → IsTrue plan.is_certified → IsSafePlan plan
safe_plan plan contents own is sound certified = record {
  sound = subst (λ (c : Contents). IsSound c) is sound;
  streams = own.streams;
  facts = own.facts;
  safe = own.safe certified;
  ranges = own.ranges;
}
