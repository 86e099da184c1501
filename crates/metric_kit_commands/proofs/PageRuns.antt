-- What is known of a run with its replies, put together.
use Rattle.std.proofs.Common.{◌≡◌, ◌∙◌, ℕ, List, [], Option, length, ap, refl, sym, subst}
use Rattle.metric_history.specs.declared.batch.Batch.{Batch}
use Rattle.metric_history.specs.declared.event.Event.{Event}
use Rattle.metric_history.specs.declared.event.Reply.{Reply}
use Rattle.metric_parts.specs.declared.parts.Parts.{Parts}
use Rattle.metric_plan.specs.Plans.{PlanValue}
use Rattle.metric_kit_commands.specs.DueRuns.{is_due_run}
use Rattle.metric_kit_commands.specs.Pages.{AreLast, IsPageRun}
use Rattle.metric_kit_commands.specs.Replaying.{IsAnswered, IsPrepared}
use Rattle.metric_kit_commands.specs.Runs.{IsRun, due_replies}
use Rattle.metric_kit_commands.specs.declared.options.ReplayOptions.{ReplayOptions}

pub is_page_run : (options : ReplayOptions) (read : Parts) (plan now : PlanValue) (start : ℕ) (events given : List Event) (replies : List Reply)
    → IsPrepared options read plan start events → given ≡ events → now ≡ plan → replies ≡ due_replies plan.facts start [] given → IsAnswered options read now replies
is_page_run options read plan now start events given replies p is same due =
    subst (λ (q : PlanValue). IsAnswered options read q replies) (sym same) (record {
      script = p.script;
      start = start;
      events = events;
      is_planned = p.is_planned;
      has_script = p.has_script;
      is_script = p.is_script;
      run = subst (λ (l : List Reply). IsRun plan start events l) (sym (due ∙ ap (due_replies plan.facts start []) is)) (is_due_run plan start events);
    })

pub is_kept_run : (options : ReplayOptions) (read : Parts) (plan now : PlanValue) (start : ℕ) (events given : List Event) (reader begun size count : ℕ) (last : List (Option Batch))
    → IsPrepared options read plan start events → given ≡ events → now ≡ plan → begun ≡ reader → size ≡ count → count ≡ length plan.facts.contents.instruments
    → AreLast begun size last (due_replies plan.facts start [] given) → IsPageRun options reader read now last
is_kept_run options read plan now start events given reader begun size count last p is same named sized counted known =
    let replies = due_replies plan.facts start [] given in
    record {
      replies = replies;
      answered = is_page_run options read plan now start events given replies p is same refl;
      are_last = subst (λ (r : ℕ). AreLast r (length now.facts.contents.instruments) last replies) named
          (subst (λ (n : ℕ). AreLast begun n last replies) (sized ∙ counted ∙ ap (λ (q : PlanValue). length q.facts.contents.instruments) (sym same)) known);
    }
