-- What one event does to the cell of its instrument, and to all cells.
use Rattle.std.specs.Prelude.{◌≡◌, ℕ, ℤ, true, List, [], ◌∷◌, ◌++◌, Result, Ok, Err}
use Rattle.std.specs.Result.{result_unwrap_or}
use Rattle.metric_history.specs.Journals.{Standing}
use Rattle.metric_contents.specs.declared.contents.Contents.{Contents}
use Rattle.metric_contents.specs.declared.refusal.Refusal.{Refusal}
use Rattle.metric_history.specs.Encoded.{encoded}
use Rattle.metric_history.specs.declared.entry.Entry.{Entry}
use Rattle.metric_history.specs.declared.event.Event.{Event}
use Rattle.metric_history.specs.declared.event.Event.TheVariants.{Record, Collect, Close, Grant}
use Rattle.metric_history.specs.declared.event.Reply.{Reply}
use Rattle.metric_history.specs.declared.event.Reply.TheVariants.{Accepted, Collected, Done}
use Rattle.metric_history.specs.declared.event.Reply.TheVariants.{Granted}
use Rattle.metric_history.specs.Answers.{recorded, collected, closing, granting}
use Rattle.metric_facts.specs.declared.facts.Facts.{Facts}
use Rattle.metric_facts.specs.Facts.{RunFacts, is_allowed_set}
use Rattle.metric_history.specs.History.{History, answered}
use Rattle.metric_history.specs.Legal.{Legal, LegalRecord, LegalCollect, LegalClose, LegalGrant}
use Rattle.metric_core.specs.Cells.{CellValue, CellStands, told_by}
use Rattle.metric_core.specs.CellAnswers.{entry_of, with_batch, with_entry, with_grant}
use Rattle.metric_core.specs.CoreStands.{AreCellsOf, CellsStand}

-- the entry of a recording whose attributes are encoded to this
abbrev pub encoded_entry : ℕ → Result (List ℕ) Refusal → ℤ → Entry
encoded_entry recorder set value = entry_of recorder (result_unwrap_or set []) value

-- attributes are encoded to an allowed set, where they are not refused
abbrev pub IsAllowedSet : Facts → Result (List ℕ) Refusal → Type 0
IsAllowedSet facts (Ok set) = is_allowed_set facts set ≡ true
IsAllowedSet facts (Err refusal) = Unit {0}

-- the same of the attributes of an event
abbrev pub HasAllowedSet : Contents → Facts → Event → Type 0
HasAllowedSet contents facts (Record recorder instrument attrs value) =
    IsAllowedSet facts (encoded contents instrument attrs)
HasAllowedSet contents facts _ = Unit {0}

-- the recordings that the reply to one adds
abbrev pub gained : Entry → Reply → List Entry
gained entry Accepted = entry ∷ []
gained entry _ = []

-- those that the reply to an event adds to its instrument
abbrev pub added : Contents → Event → Reply → List Entry
added contents (Record recorder instrument attrs value) reply =
    gained (encoded_entry recorder (encoded contents instrument attrs) value) reply
added contents _ reply = []

-- the cell after the reply to a recording, with this book
abbrev pub after_record : {B : Type 0} → CellValue B → Entry → Reply → B → CellValue B
after_record c entry Accepted book = with_entry c entry book
after_record c entry _ book = c

-- the cell after the reply to a collection by a reader, with this book
abbrev pub after_collect : {B : Type 0} → CellValue B → ℕ → Reply → B → CellValue B
after_collect c reader (Collected b) book = with_batch c reader b.time book
after_collect c reader _ book = c

-- the cell after the reply to a close
abbrev pub after_close : {B : Type 0} → CellValue B → Reply → CellValue B
after_close c Done = record c { is_closed = true }
after_close c _ = c

-- the cell after the reply to a grant to a recorder
abbrev pub after_grant : {B : Type 0} → CellValue B → ℕ → ℕ → Reply → CellValue B
after_grant c recorder amount Granted = with_grant c recorder amount
after_grant c recorder amount _ = c

-- the cell after the reply to an event of the instrument, with this book
abbrev pub cell_after : {B : Type 0} → Contents → CellValue B → Event → Reply → B → CellValue B
cell_after contents c (Record recorder instrument attrs value) reply book =
    after_record c (encoded_entry recorder (encoded contents instrument attrs) value) reply book
cell_after contents c (Collect reader instrument now) reply book = after_collect c reader reply book
cell_after contents c (Close instrument) reply book = after_close c reply
cell_after contents c (Grant recorder instrument amount) reply book =
    after_grant c recorder amount reply

-- what an event is answered, and what it makes of the state that it is a step on
pub record Outcome (S : Type 0) : Type 0 where
  pub reply : Reply
  pub state : S

abbrev pub outcome : {S : Type 0} → Reply → S → Outcome S
outcome reply state = record { reply = reply; state = state }

-- what a recording that is encoded to a set key, or refused, may come to
pub record RecordStep {B : Type 0} (stands : B → Standing) (c : CellValue B) (entry : Entry)
    (set : Result (List ℕ) Refusal) (out : Outcome (CellValue B)) : Type 0 where
  pub legal : (journal : List Entry) → CellStands stands c journal
      → LegalRecord (recorded c.facts (told_by c journal) set entry.recorder entry.value) out.reply
  pub gains : (journal : List Entry) → CellStands stands c journal
      → CellStands stands out.state (journal ++ gained entry out.reply)
  pub after : out.state ≡ after_record c entry out.reply out.state.book

-- the same of a collection
pub record CollectStep {B : Type 0} (stands : B → Standing) (c : CellValue B) (reader now : ℕ)
    (out : Outcome (CellValue B)) : Type 0 where
  pub legal : (journal : List Entry) → CellStands stands c journal
      → LegalCollect (collected c.facts c.start (told_by c journal) reader now) out.reply
  pub keeps : (journal : List Entry) → CellStands stands c journal
      → CellStands stands out.state journal
  pub after : out.state ≡ after_collect c reader out.reply out.state.book

-- the same of a close
pub record CloseStep {B : Type 0} (stands : B → Standing) (c : CellValue B)
    (out : Outcome (CellValue B)) : Type 0 where
  pub legal : (journal : List Entry) → CellStands stands c journal
      → LegalClose (closing (told_by c journal)) out.reply
  pub keeps : (journal : List Entry) → CellStands stands c journal
      → CellStands stands out.state journal
  pub after : out.state ≡ after_close c out.reply

-- the same of a grant
pub record GrantStep {B : Type 0} (stands : B → Standing) (c : CellValue B) (recorder amount : ℕ)
    (out : Outcome (CellValue B)) : Type 0 where
  pub legal : (journal : List Entry) → CellStands stands c journal
      → LegalGrant (granting c.facts (told_by c journal) recorder amount) out.reply
  pub keeps : (journal : List Entry) → CellStands stands c journal
      → CellStands stands out.state journal
  pub after : out.state ≡ after_grant c recorder amount out.reply

-- a reply that an event of the instrument may get from a cell that stands for these recordings
abbrev pub LegalOn : {B : Type 0} → Contents → CellValue B → List Entry → Event → Reply → Type 0
LegalOn contents c journal (Record recorder instrument attrs value) reply =
    LegalRecord
    (recorded c.facts (told_by c journal) (encoded contents instrument attrs) recorder value) reply
LegalOn contents c journal (Collect reader instrument now) reply =
    LegalCollect (collected c.facts c.start (told_by c journal) reader now) reply
LegalOn contents c journal (Close instrument) reply = LegalClose (closing (told_by c journal)) reply
LegalOn contents c journal (Grant recorder instrument amount) reply =
    LegalGrant (granting c.facts (told_by c journal) recorder amount) reply

-- The reply is legal for each list of recordings for which the cell stands, and the new
-- cell stands for the longer list.
pub record CellStep {B : Type 0} (stands : B → Standing) (contents : Contents) (c : CellValue B)
    (event : Event) (out : Outcome (CellValue B)) : Type 0 where
  pub legal : (journal : List Entry) → CellStands stands c journal
      → LegalOn contents c journal event out.reply
  pub gains : (journal : List Entry) → CellStands stands c journal
      → CellStands stands out.state (journal ++ added contents event out.reply)
  pub after : out.state ≡ cell_after contents c event out.reply out.state.book

-- The reply is legal after each history for which the cells stand, and the new
-- cells stand for the longer history.
pub record Steps {B : Type 0} (stands : B → Standing) (facts : RunFacts)
    (cells : List (CellValue B)) (event : Event) (out : Outcome (List (CellValue B))) : Type 0 where
  pub cells_of : AreCellsOf facts.instruments cells → AreCellsOf facts.instruments out.state
  pub legal : (since : ℕ) (h : History) → CellsStand stands facts since cells h
      → Legal facts since h event out.reply
  pub follows : (since : ℕ) (h : History) → CellsStand stands facts since cells h
      → CellsStand stands facts since out.state (answered event out.reply ∷ h)
