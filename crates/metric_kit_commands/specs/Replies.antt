-- How the replies to a script are written.
use Rattle.std.specs.Prelude.{ℕ, Bool, true, false, List, [], ◌∷◌, ◌++◌, codes, count_by}
use Rattle.metric_text.specs.Lists.{numbered}
use Rattle.metric_contents.specs.Refusals.{refusal_text}
use Rattle.metric_contents.specs.declared.refusal.Refusal.{Refusal}
use Rattle.metric_contents.specs.declared.refusal.Refusal.TheVariants as refusals
use Rattle.metric_history.specs.declared.batch.Batch.{Batch}
use Rattle.metric_history.specs.declared.event.Reply.{Reply}
use Rattle.metric_history.specs.declared.event.Reply.TheVariants.{Accepted, Collected, Done}
use Rattle.metric_history.specs.declared.event.Reply.TheVariants.{Granted, Refused}
use Rattle.metric_plan.specs.Plans.{PlanValue}
use Rattle.metric_lines.specs.Batches.{batch_text}
use Rattle.metric_kit_commands.specs.Written.{parts_text}

-- the line of a refusal
abbrev pub refused_text : Refusal → List ℕ
refused_text refusal = codes "refused " ++ (refusal_text refusal ++ codes "\n")

-- # text of a reply (profile) [reply_text, replies_text]
-- `accepted`, `closed`, `granted`, the refusal with its number and name, or the batch.
abbrev pub reply_text : PlanValue → Reply → List ℕ
reply_text plan Accepted = codes "accepted" ++ 10 ∷ []
reply_text plan (Collected batch) = batch_text plan.facts.contents plan.config plan.streams batch
reply_text plan Done = codes "closed" ++ 10 ∷ []
reply_text plan Granted = codes "granted" ++ 10 ∷ []
reply_text plan (Refused refusal) = refused_text refusal

-- replies one after the other, each as some form has it
abbrev pub formed_text : (Reply → List ℕ) → List Reply → List ℕ
formed_text text replies = parts_text (λ _ reply. text reply) replies

-- all of them
abbrev pub replies_text : PlanValue → List Reply → List ℕ
replies_text plan replies = formed_text (reply_text plan) replies

-- a reply in an encoding: the bytes of its batch, and nothing where it has none
abbrev pub encoded_reply : (PlanValue → Batch → List ℕ) → PlanValue → Reply → List ℕ
encoded_reply encode plan (Collected batch) = encode plan batch
encoded_reply encode plan _ = []

-- how many recordings were accepted
abbrev pub is_accepted : Reply → Bool
is_accepted Accepted = true
is_accepted _ = false

-- # line of an audit (profile) [accepted_count, audited_text]
-- `audited` and how many replies accept a recording.
abbrev pub accepted_count : List Reply → ℕ
accepted_count replies = count_by is_accepted replies

-- the line that ends an audited replay
abbrev pub audited_text : ℕ → List ℕ
audited_text accepted = numbered (codes "audited ") accepted ++ codes "\n"

-- out of memory
abbrev pub is_want_of_memory : Reply → Bool
is_want_of_memory (Refused refusals.Memory) = true
is_want_of_memory _ = false
