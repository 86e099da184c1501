-- Steps over all lanes of an instrument, call by call.
use Rattle.std.specs.Prelude.{◌≡◌, ◌≤◌, ◌==◌, ◌+◌, ◌-◌, ℕ, List, [], ◌∷◌, ◌++◌, Option, Some, None}
use Rattle.std.specs.Prelude.{Result, Ok, Err, if◌then◌else◌, length}
use Rattle.metric_contents.specs.declared.refusal.Refusal.{Refusal}
use Rattle.metric_facts.specs.declared.facts.Facts.{Facts}
use Rattle.metric_history.specs.declared.batch.Batch.{Batch}
use Rattle.metric_lanes.specs.Gathering.{Gathers, of_both}
use Rattle.metric_lanes.specs.Together.{AreStreamsTogether}
use Rattle.metric_lanes.specs.declared.gathered.Asked.{Asked}
use Rattle.metric_lanes.specs.declared.gathered.Gathered.{Gathered}
use Rattle.metric_safety.specs.SafeFacts.{IsSafeFacts}

-- A call of a lane, of which H is what is held of it.
pub data Step (H : Type 0) : Type 0 where
  Lock : ℕ → H → Step H
  Unlock : H → Step H
  Inside : Step H
  Report : H → Facts → Asked → Result Gathered Refusal → Step H
  Advance : H → H → ℕ → ℕ → Step H
  Close : H → H → Result (Unit {0}) Refusal → Step H
  Granted : H → Facts → Result ℕ Refusal → Step H
  MayGrant : H → H → Facts → ℕ → Result ℕ Refusal → Step H
  Grant : H → H → Facts → ℕ → ℕ → Result (Unit {0}) Refusal → Step H

-- # steps in order (profile) [Does, nested]
-- These calls, one after the other, and no others.
abbrev pub Does : {D S : Type 0} → (D → D → S → Type 0) → D → List S → D → Type 0
Does does d [] e = d ≡ e
Does {D} does d (s ∷ ss) e = (m : D) × (does d m s) × Does does m ss e

-- The calls of each lane stand around those of the lanes behind it, and these around the gate.
abbrev pub nested : {H V : Type 0} → (ℕ → V → List (Step H)) → (ℕ → V → List (Step H)) → ℕ → List V
    → List (Step H)
nested up down at [] = Step.Inside ∷ []
nested up down at (v ∷ vs) = up at v ++ (nested up down (at + 1) vs ++ down at v)

-- ---- a collection

-- What is gathered of an instrument with these facts, for this question.
pub record IsGathered (own : Facts) (question : Asked) (g : Gathered) : Type 0 where
  pub safe : IsSafeFacts own
  pub gathers : Gathers own g
  pub asked : g.asked ≡ question

-- Both are put together.
pub record IsJoined (a b all : Gathered) : Type 0 where
  pub both : all ≡ of_both a b all.batch.streams
  pub streams : AreStreamsTogether a.batch.streams b.batch.streams all.batch.streams

-- a lane behind those before it, if there are any
abbrev pub JoinsOne : Option Gathered → Gathered → Gathered → Type 0
JoinsOne None b all = b ≡ all
JoinsOne (Some a) b all = IsJoined a b all

-- all of these, one after the other, behind those before them
abbrev pub JoinsAll : Option Gathered → List Gathered → Gathered → Type 0
JoinsAll None [] all = ⊥
JoinsAll (Some a) [] all = a ≡ all
JoinsAll before (b ∷ bs) all = (m : Gathered) × (JoinsOne before b m) × JoinsAll (Some m) bs all

-- the same of what a lane answered, which is a report
abbrev pub JoinsAnswer : Option Gathered → Result Gathered Refusal → Gathered → Type 0
JoinsAnswer before (Ok b) all = JoinsOne before b all
JoinsAnswer before (Err refusal) all = ⊥

-- the batch of what they come to, which are one or more
abbrev pub IsBatchOf : Option Gathered → Batch → Type 0
IsBatchOf None told = ⊥
IsBatchOf (Some all) told = told ≡ all.batch

-- What was held of a lane before and after the reader had its part, and the part.
pub record Reporting (H : Type 0) : Type 0 where
  pub held : H
  pub left : H
  pub part : Gathered

abbrev pub report_up : {H : Type 0} → Facts → Asked → ℕ → Reporting H → List (Step H)
report_up own asked at v =
    Step.Lock at v.held ∷ Step.Report v.held own asked (Ok v.part) ∷ []

abbrev pub report_down : {H : Type 0} → ℕ → ℕ → ℕ → Reporting H → List (Step H)
report_down reader time at v = Step.Advance v.held v.left reader time ∷ Step.Unlock v.left ∷ []

abbrev pub parts_of : {H : Type 0} → List (Reporting H) → List Gathered
parts_of [] = []
parts_of (v ∷ vs) = v.part ∷ parts_of vs

-- # collection of all lanes (SDK, collect) [Collects, TakesNothing]
-- Each lane from a place on is locked, in order, and reports once; the batch is what they come to
-- behind those before them. Then each is moved on to the batch's time, and let go.
pub record Collects {H D : Type 0} (does : D → D → Step H → Type 0) (before : D) (at count : ℕ)
    (own : Facts) (asked : Asked) (first : Option Gathered) (told : Batch) (after : D)
    : Type 0 where
  pub visits : List (Reporting H)
  pub each : at + length visits ≡ count
  pub steps : Does does before
      (nested (report_up own asked) (report_down asked.reader told.time) at visits) after
  pub all : Gathered
  pub joins : JoinsAll first (parts_of visits) all
  pub batch : told ≡ all.batch

-- What was held of a lane that reported or refused, and its answer.
pub record Refusing (H : Type 0) : Type 0 where
  pub held : H
  pub answer : Result Gathered Refusal

abbrev pub refuse_up : {H : Type 0} → Facts → Asked → ℕ → Refusing H → List (Step H)
refuse_up own asked at v = Step.Lock at v.held ∷ Step.Report v.held own asked v.answer ∷ []

abbrev pub refuse_down : {H : Type 0} → ℕ → Refusing H → List (Step H)
refuse_down at v = Step.Unlock v.held ∷ []

-- Refused, the lanes from a place on were asked in order, up to some, and let go as they were.
pub record TakesNothing {H D : Type 0} (does : D → D → Step H → Type 0) (before : D) (at : ℕ)
    (own : Facts) (asked : Asked) (after : D) : Type 0 where
  pub visits : List (Refusing H)
  pub steps : Does does before (nested (refuse_up own asked) refuse_down at visits) after

-- ---- the end

-- What was held of a lane before and after it was closed, and its answer.
pub record Closing (H : Type 0) : Type 0 where
  pub held : H
  pub left : H
  pub answer : Result (Unit {0}) Refusal

abbrev pub close_up : {H : Type 0} → ℕ → Closing H → List (Step H)
close_up at v = Step.Lock at v.held ∷ Step.Close v.held v.left v.answer ∷ []

abbrev pub close_down : {H : Type 0} → ℕ → Closing H → List (Step H)
close_down at v = Step.Unlock v.left ∷ []

abbrev pub first_answer : {H : Type 0} → List (Closing H) → Result (Unit {0}) Refusal
first_answer [] = Ok tt
first_answer (v ∷ vs) = v.answer

-- # end of all lanes (profile)
-- Each lane from a place on is locked, in order, and closed once, and all are then let go; the
-- answer is that of the first.
pub record Closes {H D : Type 0} (does : D → D → Step H → Type 0) (before : D) (at count : ℕ)
    (result : Result (Unit {0}) Refusal) (after : D) : Type 0 where
  pub visits : List (Closing H)
  pub each : at + length visits ≡ count
  pub steps : Does does before (nested close_up close_down at visits) after
  pub answer : result ≡ first_answer visits

-- ---- the spare

-- What was held of a lane, and what it had granted.
pub record Telling (H : Type 0) : Type 0 where
  pub held : H
  pub granted : ℕ

abbrev pub tell_up : {H : Type 0} → Facts → ℕ → Telling H → List (Step H)
tell_up own at v = Step.Lock at v.held ∷ Step.Granted v.held own (Ok v.granted) ∷ []

abbrev pub tell_down : {H : Type 0} → ℕ → Telling H → List (Step H)
tell_down at v = Step.Unlock v.held ∷ []

abbrev pub granted_over : {H : Type 0} → List (Telling H) → ℕ
granted_over [] = 0
granted_over (v ∷ vs) = v.granted + granted_over vs

-- # spare of all lanes (profile)
-- What is left without what each lane from a place on had granted, all of them locked.
pub record Spares {H D : Type 0} (does : D → D → Step H → Type 0) (before : D) (at count : ℕ)
    (own : Facts) (left result : ℕ) (after : D) : Type 0 where
  pub visits : List (Telling H)
  pub each : at + length visits ≡ count
  pub steps : Does does before (nested (tell_up own) tell_down at visits) after
  pub answer : result ≡ left - granted_over visits

-- ---- a grant

-- What was held of a lane, as it was found, as it was asked whether it is open, and after the grant;
-- and what it had granted before.
pub record Granting (H : Type 0) : Type 0 where
  pub found : H
  pub held : H
  pub left : H
  pub granted : ℕ

abbrev pub grant_up : {H : Type 0} → Facts → ℕ → ℕ → Granting H → List (Step H)
grant_up own recorder at v =
    Step.Lock at v.found ∷ Step.MayGrant v.found v.held own recorder (Ok v.granted) ∷ []

-- in the recorder's lane alone
abbrev pub grant_down : {H : Type 0} → Facts → ℕ → ℕ → ℕ → ℕ → Granting H → List (Step H)
grant_down own lane recorder amount at v =
    if at == lane
    then (Step.Grant v.held v.left own recorder amount (Ok tt) ∷ Step.Unlock v.left ∷ [])
    else (Step.Unlock v.held ∷ [])

abbrev pub granted_of : {H : Type 0} → List (Granting H) → ℕ
granted_of [] = 0
granted_of (v ∷ vs) = v.granted + granted_of vs

-- # grant over all lanes (profile) [Grants, GrantsNothing]
-- So many are granted to the recorder in its lane alone, where as many are left without what each
-- lane from a place on had granted, all of them locked and open.
pub record Grants {H D : Type 0} (does : D → D → Step H → Type 0) (before : D) (at count : ℕ)
    (own : Facts) (left lane recorder amount : ℕ) (after : D) : Type 0 where
  pub visits : List (Granting H)
  pub each : at + length visits ≡ count
  pub steps : Does does before
      (nested (grant_up own recorder) (grant_down own lane recorder amount) at visits) after
  pub enough : amount ≤ left - granted_of visits

-- What was held of a lane, as it was found and as it was asked whether it is open, its answer, and
-- what a grant that was refused left of it, where one was tried, with the refusal.
pub record Ungranting (H : Type 0) : Type 0 where
  pub found : H
  pub held : H
  pub answer : Result ℕ Refusal
  pub tried : Option (H × Refusal)

abbrev pub ungrant_up : {H : Type 0} → Facts → ℕ → ℕ → Ungranting H → List (Step H)
ungrant_up own recorder at v =
    Step.Lock at v.found ∷ Step.MayGrant v.found v.held own recorder v.answer ∷ []

abbrev pub after_try : {H : Type 0} → Facts → ℕ → ℕ → H → Option (H × Refusal) → List (Step H)
after_try own recorder amount held None = Step.Unlock held ∷ []
after_try own recorder amount held (Some (left, refusal)) =
    Step.Grant held left own recorder amount (Err refusal) ∷ Step.Unlock left ∷ []

abbrev pub ungrant_down : {H : Type 0} → Facts → ℕ → ℕ → ℕ → Ungranting H → List (Step H)
ungrant_down own recorder amount at v = after_try own recorder amount v.held v.tried

-- Refused, the lanes from a place on were asked in order, up to some, and nothing was granted.
pub record GrantsNothing {H D : Type 0} (does : D → D → Step H → Type 0) (before : D) (at : ℕ)
    (own : Facts) (recorder amount : ℕ) (after : D) : Type 0 where
  pub visits : List (Ungranting H)
  pub steps : Does does before
      (nested (ungrant_up own recorder) (ungrant_down own recorder amount) at visits) after

-- The lane of a recorder is at this place, and grants.
pub record GrantsIn {L H D : Type 0} (does : D → D → Step H → Type 0) (count : L → ℕ)
    (is_place : L → ℕ → ℕ → Type 0) (before : D) (row : L) (own : Facts) (recorder amount : ℕ)
    (after : D) : Type 0 where
  pub lane : ℕ
  pub place : is_place row recorder lane
  pub grants : Grants does before 0 (count row) own own.spare lane recorder amount after
