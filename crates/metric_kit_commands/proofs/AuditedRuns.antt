-- What is known of an audited run, put together.
use Rattle.std.proofs.Common.{◌≡◌, ℕ, List, [], sym, subst}
use Rattle.metric_history.specs.Legal.{grown}
use Rattle.metric_history.specs.declared.event.Event.{Event}
use Rattle.metric_history.specs.declared.event.Reply.{Reply}
use Rattle.metric_parts.specs.declared.parts.Parts.{Parts}
use Rattle.metric_plan.specs.Plans.{PlanValue}
use Rattle.metric_script.specs.Scripts.{IsScript}
use Rattle.metric_kit_commands.specs.Audits.{AreAudited}
use Rattle.metric_kit_commands.specs.Replaying.{IsAuditedRun, IsPrepared}
use Rattle.metric_kit_commands.specs.Replies.{accepted_count}
use Rattle.metric_kit_commands.specs.Runs.{IsRun}
use Rattle.metric_kit_commands.specs.declared.options.ReplayOptions.{ReplayOptions}

pub is_audited_run : (options : ReplayOptions) (read : Parts) (plan now : PlanValue) (since start : ℕ) (events given : List Event) (replies : List Reply) (accepted : ℕ)
    → IsPrepared options read plan since events → since ≡ start → given ≡ events → now ≡ plan → IsRun plan start given replies
    → AreAudited plan.facts start (grown [] given replies) → accepted ≡ accepted_count replies → IsAuditedRun options read now replies accepted
is_audited_run options read plan now since start events given replies accepted p begun is same run audited counted =
    subst (λ (q : PlanValue). IsAuditedRun options read q replies accepted) (sym same) (record {
      answered = record {
        script = p.script;
        start = start;
        events = events;
        is_planned = p.is_planned;
        has_script = p.has_script;
        is_script = subst (λ (n : ℕ). IsScript p.script.lines n events) begun p.is_script;
        run = subst (λ (l : List Event). IsRun plan start l replies) is run;
      };
      audited = subst (λ (l : List Event). AreAudited plan.facts start (grown [] l replies)) is audited;
      counted = counted;
    })
