-- Where an answer is written, and the exit status then.
use Rattle.std.specs.Prelude.{◌≡◌, ℕ, Bool, List, Option, Some, None, codes, if◌then◌else◌}
use Rattle.std.specs.Io.KnownBytes.{Appends}
use Rattle.wormweekly_commands.specs.Concerns.{denies_some}
use Rattle.wormweekly_commands.specs.Folders.{MadeFile, Makes}
use Rattle.wormweekly_commands.specs.Lasting.{some_end_early}
use Rattle.metric_command_lines.specs.declared.wormweekly.request.Request.{Request}
use Rattle.wormweekly_commands.specs.declared.answer.Answer.{Answer}
use Rattle.wormweekly_commands.specs.declared.answer.Answer.TheVariants as answers

-- # where an answer is written (profile) [IsDelivered, IsDeliveredAnswer]
-- The text is made as a file at the path and nothing written to the sink, or else the text is
-- written to the sink and no file made.
abbrev pub IsDelivered : Option (List ℕ) → List ℕ → Option (List MadeFile) → Option (List MadeFile)
    → Option (List ℕ) → Option (List ℕ) → Type 0
IsDelivered None text made made_after contents contents_after =
    Appends contents contents_after text × (made_after ≡ made)
IsDelivered (Some path) text made made_after contents contents_after =
    Makes made made_after path text × (contents_after ≡ contents)

-- what is told of an accepted certificate: a line, or lines of JSON
abbrev pub accepted_text : Bool → List ℕ
accepted_text json =
    if json then codes "{\"schema\":1}\n{\"accepted\":true}\n" else codes "accepted\n"

-- A certificate and what is told of an accepted one are written whole and once. A file is made of
-- none but the first.
abbrev pub IsDeliveredAnswer : Request → Answer → Option (List MadeFile)
    → Option (List MadeFile) → Option (List ℕ) → Option (List ℕ) → Type 0
IsDeliveredAnswer request (answers.Certificate text) made made_after contents contents_after =
    IsDelivered request.files.output text made made_after contents contents_after
IsDeliveredAnswer request answers.Accepted made made_after contents contents_after =
    IsDelivered None (accepted_text request.options.json) made made_after contents contents_after
IsDeliveredAnswer request answer made made_after contents contents_after = made_after ≡ made

-- What is told of an accepted certificate is written whole and once, and so is a text.
abbrev pub IsPrinted : Request → Answer → Option (List ℕ) → Option (List ℕ) → Type 0
IsPrinted request (answers.Certificate text) contents contents_after =
    Appends contents contents_after text
IsPrinted request answers.Accepted contents contents_after =
    Appends contents contents_after (accepted_text request.options.json)
IsPrinted request answer contents contents_after = Unit {0}

-- 1 where some remark is denied, or where recordings do not last as long as they are to, else 0
abbrev pub answer_status : Request → Answer → ℕ
answer_status request (answers.Notes notes) =
    if denies_some request.concerns.denied notes then 1 else 0
answer_status request (answers.Rooms rooms) =
    if some_end_early request.options rooms.rooms then 1 else 0
answer_status request _ = 0
