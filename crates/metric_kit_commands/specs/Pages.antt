-- The page that a replay writes.
use Rattle.std.specs.Prelude.{◌≡◌, ◌<◌, ◌==◌, ◌&&◌, ◌++◌, ℕ, List, [], ◌∷◌, Option, Some, None}
use Rattle.std.specs.Prelude.{get_or, if◌then◌else◌, length, map}
use Rattle.std.specs.List.{filter_map, last_or, range_with_len}
use Rattle.metric_plan.specs.Plans.{PlanValue}
use Rattle.metric_history.specs.declared.batch.Batch.{Batch}
use Rattle.metric_history.specs.declared.event.Reply.{Reply}
use Rattle.metric_history.specs.declared.event.Reply.TheVariants.{Collected}
use Rattle.metric_parts.specs.declared.parts.Parts.{Parts}
use Rattle.metric_kit_commands.specs.Replaying.{IsAnswered}
use Rattle.metric_kit_commands.specs.declared.options.ReplayOptions.{ReplayOptions}

-- the batch of a reply, where it is of the reader and the instrument
abbrev pub batch_of : ℕ → ℕ → Reply → Option Batch
batch_of reader instrument (Collected batch) =
    if (batch.reader == reader) && (batch.instrument == instrument) then Some batch else None
batch_of reader instrument _ = None

-- the last of those
abbrev pub last_batch : ℕ → ℕ → List Reply → Option Batch
last_batch reader instrument replies = last_or None (filter_map (batch_of reader instrument) replies)

-- the last batches of all instruments, in the order of the catalogue
abbrev pub last_batches : ℕ → ℕ → List Reply → List (Option Batch)
last_batches reader count replies =
    map (λ instrument. last_batch reader instrument replies) (range_with_len 0 count)

-- a page of batches: what it begins with, these in an encoding, and its end
abbrev pub page_of_last : (PlanValue → List (Option Batch) → List ℕ) → List ℕ → List ℕ → PlanValue
    → List (Option Batch) → List ℕ
page_of_last encode head tail plan batches =
    head ++ encode plan batches ++ tail

-- # page of a replay (profile) [page_text, IsPage, last_batch]
-- What it begins with, the last batch of the reader of each instrument in an encoding, and its end.
abbrev pub page_text
    : (PlanValue → List (Option Batch) → List ℕ) → ℕ → List ℕ → List ℕ → PlanValue → List Reply → List ℕ
page_text encode reader head tail plan replies = page_of_last encode head tail plan
    (last_batches reader (length plan.facts.contents.instruments) replies)

-- The page of the replies to the script of parts.
pub record IsPage (encode : PlanValue → List (Option Batch) → List ℕ) (reader : ℕ) (head tail : List ℕ)
    (options : ReplayOptions) (read : Parts) (bytes : List ℕ) : Type 0 where
  pub plan : PlanValue
  pub replies : List Reply
  pub answered : IsAnswered options read plan replies
  pub written : bytes ≡ page_text encode reader head tail plan replies

-- The last batch that a reader collected of each of so many instruments, one a place.
pub record AreLast (reader count : ℕ) (last : List (Option Batch)) (replies : List Reply)
    : Type 0 where
  pub len : length last ≡ count
  pub each : (i : ℕ) → i < count → get_or last i None ≡ last_batch reader i replies

-- One reply more: its batch takes the place of its instrument.
pub record KeepsLast (reader : ℕ) (old new : List (Option Batch)) (reply : Reply) : Type 0 where
  pub len : length new ≡ length old
  pub each : (i : ℕ) → i < length old
      → get_or new i None ≡ last_or (get_or old i None) (filter_map (batch_of reader i) (reply ∷ []))

-- What the last batches of a reader have become with some replies more.
pub record Keeps (reader : ℕ) (old : List (Option Batch)) (reader_now : ℕ)
    (now : List (Option Batch)) (more : List Reply) : Type 0 where
  pub reader_is : reader_now ≡ reader
  pub are_last : (count : ℕ) (told : List Reply) → AreLast reader count old told
      → AreLast reader count now (told ++ more)

-- A run of the script of parts, with the last batches of a reader.
pub record IsPageRun (options : ReplayOptions) (reader : ℕ) (read : Parts) (plan : PlanValue)
    (last : List (Option Batch)) : Type 0 where
  pub replies : List Reply
  pub answered : IsAnswered options read plan replies
  pub are_last : AreLast reader (length plan.facts.contents.instruments) last replies
