-- The headline: what holds of every run of a core of a certified plan.
use Rattle.std.specs.Prelude.{◌≡◌, ℕ, Bool, true, List, [], ◌∷◌, Ok}
use Rattle.metric_history.specs.Journals.{Standing}
use Rattle.metric_bounds.specs.Safe.{IsSafe}
use Rattle.metric_catalogue.specs.Sound.{IsSound}
use Rattle.metric_cert.specs.Valid.{IsValid}
use Rattle.metric_cert.specs.declared.claims.Claims.{Claims}
use Rattle.metric_check.specs.Products.{by_product_of}
use Rattle.metric_contents.specs.declared.contents.Contents.{Contents}
use Rattle.metric_core.specs.CoreStands.{CoreStands, CoreValue}
use Rattle.metric_facts.specs.Facts.{RunFacts}
use Rattle.metric_history.specs.declared.entry.Entry.{Entry}
use Rattle.metric_history.specs.declared.event.Event.{Event}
use Rattle.metric_history.specs.declared.event.Event.TheVariants.{Collect}
use Rattle.metric_history.specs.declared.event.Reply.{Reply}
use Rattle.metric_history.specs.declared.event.Reply.TheVariants.{Collected}
use Rattle.metric_history.specs.History.{History}
use Rattle.metric_history.specs.Legal.{AllLegal, IsLegal, collection, grown}
use Rattle.metric_history.specs.Points.{CountsOnce}
use Rattle.metric_plan.specs.Plans.{PlanValue, RangesFit, plan_of}
use Rattle.metric_safety.specs.SafeRuns.{IsSafeHistory}
use Rattle.metric_views.specs.declared.config.Config.{Config}
use Rattle.metric_views.specs.declared.stream.Stream.{Stream}

-- One call of a core: the events, the replies to them, and the core after it.
pub record Run (B : Type 0) : Type 0 where
  pub events : List Event
  pub replies : List Reply
  pub core : CoreValue B

-- What `Core::run` ensures of a call that was not refused.
pub record IsRun {B : Type 0} (stands : B → Standing) (before : CoreValue B) (run : Run B)
    : Type 0 where
  pub legal : (h : History) → CoreStands stands before h
      → AllLegal before.plan.facts before.start h run.events run.replies
  pub stays : (h : History) → CoreStands stands before h
      → CoreStands stands run.core (grown h run.events run.replies)
  pub plan : run.core.plan ≡ before.plan
  pub start : run.core.start ≡ before.start

-- The first is a run of the core, each other one of the core that the run before it left.
abbrev pub AreRuns : {B : Type 0} → (B → Standing) → CoreValue B → List (Run B) → Type 0
AreRuns stands core [] = Unit {0}
AreRuns stands core (run ∷ runs) = IsRun stands core run × AreRuns stands run.core runs

-- the history of all runs, after an earlier one
abbrev pub history_after : {B : Type 0} → History → List (Run B) → History
history_after h [] = h
history_after h (run ∷ runs) = history_after (grown h run.events run.replies) runs

-- A batch that was answered is the definition's, of what was accepted before it.
abbrev pub IsReport : RunFacts → ℕ → History → Event → Reply → Type 0
IsReport facts start h (Collect reader instrument now) (Collected b) =
    collection facts start h reader instrument now ≡ Ok b
IsReport facts start h event reply = Unit {0}

abbrev pub AreReports : RunFacts → ℕ → History → Type 0
AreReports facts start [] = Unit {0}
AreReports facts start (a ∷ older) =
    AreReports facts start older × IsReport facts start older a.event a.reply

-- # headline (profile) [IsExact, RunsAreExact, SafeRunsAreExact, CertifiedRunsAreExact]
-- Of each history of a core of a certified plan: each reply is legal, exported streams differ in
-- identity, nothing overflows, no number leaves its range and no sum refuses a recording, each batch
-- reports what was accepted before it, and each recording of a window is counted once.
pub record IsExact (plan : PlanValue) (start : ℕ) (h : History) : Type 0 where
  pub legal : IsLegal plan.facts start h
  pub safe : IsSafeHistory plan start h
  pub reports : AreReports plan.facts start h
  pub counted : (s : Stream) (window : List Entry) → CountsOnce s window

-- what holds of each run of a new core of the plan
abbrev pub RunsAreExact : {B : Type 0} → (B → Standing) → PlanValue → Type 0
RunsAreExact {B} stands plan =
    (core : CoreValue B) (runs : List (Run B)) → core.plan ≡ plan → CoreStands stands core []
    → AreRuns stands core runs → IsExact core.plan core.start (history_after [] runs)

-- So it is where a catalogue, as each is sound, and a config are safe together, whoever vouched for
-- them. Each premise is a clause: of a plan, what each plan keeps; of a core, `plan` and `stands` of
-- a new one, and those of its runs.
abbrev pub SafeRunsAreExact : {B : Type 0} → (B → Standing) → Type 0
SafeRunsAreExact {B} stands =
    (is_certified : Bool) (by_product : List Bool) (contents : Contents) (config : Config)
    → IsSound contents → IsSafe contents config
    → RangesFit (plan_of is_certified by_product contents config).facts.instruments
    → RunsAreExact stands (plan_of is_certified by_product contents config)

-- so also where a certificate is valid for them, whoever made it
abbrev pub CertifiedRunsAreExact : {B : Type 0} → (B → Standing) → Type 0
CertifiedRunsAreExact {B} stands =
    (contents : Contents) (config : Config) (certificate : Claims)
    → IsSound contents → IsValid contents config certificate
    → RangesFit (plan_of true (by_product_of certificate) contents config).facts.instruments
    → RunsAreExact stands (plan_of true (by_product_of certificate) contents config)
