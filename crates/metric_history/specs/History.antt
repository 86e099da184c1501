-- What a history of events and replies, newest first, says of one instrument.
use Rattle.std.specs.Prelude.{ℕ, ◌+◌, Bool, true, false, ◌&&◌, List, [], ◌∷◌, ◌++◌, length, max}
use Rattle.std.specs.Prelude.{◌==◌, if◌then◌else◌}
use Rattle.std.specs.Result.{result_unwrap_or}
use Rattle.metric_history.specs.Encoded.{encoded}
use Rattle.metric_history.specs.declared.entry.Entry.{Entry}
use Rattle.metric_history.specs.declared.event.Event.{Event}
use Rattle.metric_history.specs.declared.event.Event.TheVariants.{Record, Collect, Close, Grant}
use Rattle.metric_history.specs.declared.event.Reply.{Reply}
use Rattle.metric_history.specs.declared.event.Reply.TheVariants.{Accepted, Collected, Done}
use Rattle.metric_history.specs.declared.event.Reply.TheVariants.{Granted}
use Rattle.metric_history.specs.Answers.{Past}
use Rattle.metric_facts.specs.Facts.{RunFacts}

-- an event and its reply
pub record Answered : Type 0 where
  pub event : Event
  pub reply : Reply

abbrev pub answered : Event → Reply → Answered
answered event reply = record { event = event; reply = reply }

-- # history (profile)
-- Events with their replies, newest first.
abbrev pub History : Type 0
History = List Answered

-- the entries that an event adds to an instrument
abbrev pub added_by : RunFacts → ℕ → Event → Reply → List Entry
added_by facts i (Record recorder instrument attrs value) Accepted =
    if instrument == i then record {
      recorder = recorder;
      set =
          result_unwrap_or (encoded facts.contents instrument attrs) [];
      value = value;
    } ∷ [] else []
added_by facts i (Record recorder instrument attrs value) _ = []
added_by facts i _ _ = []

-- # accepted recordings (profile)
-- The entries of an instrument's recordings that were answered Accepted, oldest first.
abbrev pub accepted : RunFacts → History → ℕ → List Entry
accepted facts [] i = []
accepted facts (a ∷ older) i = accepted facts older i ++ added_by facts i a.event a.reply

-- whether an event was a collection of the instrument by the reader that was answered with a batch
abbrev pub collects : ℕ → ℕ → Event → Reply → Bool
collects i reader (Collect by instrument now) (Collected b) = (instrument == i) && (by == reader)
collects i reader _ _ = false

-- # mark (profile)
-- How many recordings were accepted before the reader's last answered collection of the instrument.
abbrev pub mark_of : RunFacts → History → ℕ → ℕ → ℕ
mark_of facts [] i reader = 0
mark_of facts (a ∷ older) i reader =
    if collects i reader a.event a.reply then length (accepted facts older i)
    else mark_of facts older i reader

abbrev pub batch_time : Reply → ℕ
batch_time (Collected b) = b.time
batch_time _ = 0

-- # previous time (profile)
-- The greatest of the start and the times of the reader's batches of the instrument.
abbrev pub previous_of : ℕ → History → ℕ → ℕ → ℕ
previous_of start [] i reader = start
previous_of start (a ∷ older) i reader =
    if collects i reader a.event a.reply then max (batch_time a.reply)
    (previous_of start older i reader) else previous_of start older i reader

abbrev pub closes : ℕ → Event → Reply → Bool
closes i (Close instrument) Done = instrument == i
closes i _ _ = false

-- whether the instrument was closed
abbrev pub is_closed : History → ℕ → Bool
is_closed [] i = false
is_closed (a ∷ older) i = if closes i a.event a.reply then true else is_closed older i

-- how many recordings of the instrument an event granted a recorder
abbrev pub grants_to : ℕ → ℕ → Event → Reply → ℕ
grants_to i recorder (Grant to instrument amount) Granted =
    if (instrument == i) && (to == recorder) then amount else 0
grants_to i recorder _ _ = 0

-- # granted (profile) [granted_of, handed_of]
-- The amounts of a recorder's grants on an instrument that were answered Granted, together; those
-- of all recorders.
abbrev pub granted_of : History → ℕ → ℕ → ℕ
granted_of [] i recorder = 0
granted_of (a ∷ older) i recorder =
    granted_of older i recorder + grants_to i recorder a.event a.reply

-- how many recordings of the instrument an event granted
abbrev pub grants_of : ℕ → Event → Reply → ℕ
grants_of i (Grant to instrument amount) Granted = if instrument == i then amount else 0
grants_of i _ _ = 0

-- how many were granted in all
abbrev pub handed_of : History → ℕ → ℕ
handed_of [] i = 0
handed_of (a ∷ older) i = handed_of older i + grants_of i a.event a.reply

-- all of it
abbrev pub told_of : RunFacts → ℕ → History → ℕ → Past
told_of facts start h i = record {
  accepted = accepted facts h i;
  mark = mark_of facts h i;
  previous = previous_of start h i;
  closed = is_closed h i;
  granted = granted_of h i;
  handed = handed_of h i;
}
