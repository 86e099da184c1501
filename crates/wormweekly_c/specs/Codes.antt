-- The numbers that calls answer.
use Rattle.std.specs.Prelude.{◌≡◌, ◌⊎◌, ◌<◌, ℕ, List, Option, Some, None, Result, Ok, Err}
use Rattle.metric_contents.specs.Encoding.{Given}
use Rattle.metric_contents.specs.Refusals.{number_of}
use Rattle.metric_contents.specs.declared.refusal.Refusal.{Refusal}
use Rattle.metric_hosted.specs.Hosts.{HostedValue}
use Rattle.metric_hosted.specs.declared.planned.HostedReader.{HostedReader}
use Rattle.metric_hosted.specs.declared.planned.HostedRecorder.{HostedRecorder}
use Rattle.wormweekly_c.specs.declared.handles.Handle.{Handle}
use Rattle.wormweekly_c.specs.declared.held.Held.{Held}
use Rattle.wormweekly_c.specs.declared.held.Held.TheVariants.{Instrument, Recorder, Reader}

-- # code (profile) [code_of, IsCodeOf, WhereBoth]
-- 0 for done, else the number of the refusal; 100 where a handle is null, or holds another kind.
abbrev pub code_of : Result (Unit {0}) Refusal → ℕ
code_of (Ok done) = 0
code_of (Err refusal) = number_of refusal

-- a call is answered the code of an answer
pub record IsCodeOf (Answers : Result (Unit {0}) Refusal → Type 0) (code : ℕ) : Type 0 where
  pub result : Result (Unit {0}) Refusal
  pub is : code ≡ code_of result
  pub answer : Answers result

-- Memory ran out for reading so many attributes, which never happens with at most eight.
abbrev pub IsWantOfMemory : ℕ → ℕ → Type 0
IsWantOfMemory count code = (8 < count) × (code ≡ 11)

-- a call with so many attributes is answered the code of an answer to them, or
-- 101 exactly where they are none
abbrev pub IsCodeOfRead : ℕ → Option (List Given)
    → (List Given → Result (Unit {0}) Refusal → Type 0) → ℕ → Type 0
IsCodeOfRead count None Answers code = (code ≡ 101) ⊎ IsWantOfMemory count code
IsCodeOfRead count (Some attrs) Answers code =
    IsCodeOf (Answers attrs) code ⊎ IsWantOfMemory count code

-- what is said where both handles hold something, and where one of them holds nothing
abbrev pub WhereBoth : {A B : Type 0} → Option A → Option B → Type 0 → (A → B → Type 0) → Type 0
WhereBoth None other nothing P = nothing
WhereBoth (Some x) None nothing P = nothing
WhereBoth (Some x) (Some y) nothing P = P x y

-- the same of one handle
abbrev pub WhereHeld : {A : Type 0} → Option A → Type 0 → (A → Type 0) → Type 0
WhereHeld None nothing P = nothing
WhereHeld (Some x) nothing P = P x

-- two handles hold something before and after a call
abbrev pub Changes : {A B : Type 0} → Option A → Option A → Option B → Option B
    → (A → A → B → B → Type 0) → Type 0
Changes (Some old) (Some new) (Some before) (Some after) P = P old new before after
Changes old new before after P = ⊥

-- the instrument among what a handle may hold; none where it holds nothing, or something else
abbrev pub instrument_of : Option Held → Option HostedValue
instrument_of (Some (Instrument h)) = Some h
instrument_of other = None

-- the same of a recorder
abbrev pub recorder_of : Option Held → Option HostedRecorder
recorder_of (Some (Recorder own)) = Some own
recorder_of other = None

-- the same of a reader
abbrev pub reader_of : Option Held → Option HostedReader
reader_of (Some (Reader own)) = Some own
reader_of other = None

-- what a handle holds, where it is of this kind
abbrev pub instrument_in : Handle → Option HostedValue
instrument_in handle = instrument_of handle.value

abbrev pub recorder_in : Handle → Option HostedRecorder
recorder_in handle = recorder_of handle.value

abbrev pub reader_in : Handle → Option HostedReader
reader_in handle = reader_of handle.value
