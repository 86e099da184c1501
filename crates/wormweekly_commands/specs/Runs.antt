-- What running a request does.
use Rattle.std.specs.Prelude.{◌≡◌, ◌≢◌, ◌⊎◌, ℕ, Bool, false, true, not, List, Option, Some, None, Result, Ok}
use Rattle.std.specs.Prelude.{Err, IfErr, IfOk, IfSome, IsErr, IsErrAnd, IsOk, IsOkAnd, IsSomeAnd, OnErr, [], is_some, slice_get, string_bytes}
use Rattle.std.specs.List.{list_any}
use Rattle.std.specs.Str.{bytes_eq}
use Rattle.metric_contents.specs.declared.contents.Contents.{Contents}
use Rattle.metric_catalogue.specs.Catalogues.{catalogue_of, opened_of}
use Rattle.metric_catalogue.specs.InFull.{fits_in_full}
use Rattle.metric_parts.specs.declared.parts.Parts.{Parts}
use Rattle.metric_views.specs.Configs.{config_of}
use Rattle.metric_command_lines.specs.declared.wormweekly.request.Files.{Files}
use Rattle.metric_command_lines.specs.declared.wormweekly.request.Request.{Request}
use Rattle.metric_command_lines.specs.declared.wormweekly.request.Task.{Task}
use Rattle.metric_command_lines.specs.declared.wormweekly.request.Task.TheVariants.{Replay, Diff, Draw, Expand, Queries}
use Rattle.metric_command_lines.specs.declared.wormweekly.request.Task.TheVariants as tasks
use Rattle.metric_exposition.specs.declared.dialect.Dialect.{Dialect}
use Rattle.metric_kit_commands.specs.Commands.{SinkRun}
use Rattle.metric_kit_commands.specs.declared.fault.KitFault.TheVariants.{Memory}
use Rattle.metric_kit_commands.specs.declared.fault.KitFault.TheVariants as kit
use Rattle.wormweekly_commands.specs.Answers.{HasReaders, IsAnswer, IsAnswerFault}
use Rattle.wormweekly_commands.specs.Comparing.{RunsDiff}
use Rattle.wormweekly_commands.specs.Delivered.{IsDelivered, IsDeliveredAnswer, answer_status}
use Rattle.wormweekly_commands.specs.Drawing.{IsDrawing}
use Rattle.wormweekly_commands.specs.Faults.{IsDeviceFault, IsRefusal, status_of}
use Rattle.wormweekly_commands.specs.Folders.{MadeFile}
use Rattle.wormweekly_commands.specs.Inputs.{IsReplayIn, scripted}
use Rattle.wormweekly_commands.specs.PageReaders.{LacksReader}
use Rattle.wormweekly_commands.specs.Paging.{ReplaysPage, dialect_of}
use Rattle.wormweekly_commands.specs.Queries.{RunsQueries}
use Rattle.wormweekly_commands.specs.Readings.{AreTexts, IsHeld}
use Rattle.wormweekly_commands.specs.Reporting.{IsReport, RefusesReport, RefusesWhole}
use Rattle.wormweekly_commands.specs.declared.answer.Answer.{Answer}
use Rattle.wormweekly_commands.specs.declared.drawing.Drawing.{Drawing}
use Rattle.wormweekly_commands.specs.declared.fault.ConsoleFault.{ConsoleFault}
use Rattle.wormweekly_commands.specs.declared.fault.ConsoleFault.TheVariants.{Unread, Kit, Page}
use Rattle.wormweekly_commands.specs.declared.fault.ConsoleFault.TheVariants.{Overwrites, Unwritten}
use Rattle.wormweekly_commands.specs.declared.fault.ConsoleFault.TheVariants as faults
use Rattle.wormweekly_commands.specs.declared.fault.Role.{Role}
use Rattle.wormweekly_commands.specs.declared.fault.Role.TheVariants as roles
use Rattle.wormweekly_commands.specs.declared.fault.Role.TheVariants.{Catalogue, Config, OldCatalogue, OldConfig}
use Rattle.wormweekly_commands.specs.declared.folder.Unread.TheVariants as unread
use Rattle.wormweekly_commands.specs.declared.parts.Texts.{Texts}
use Rattle.wormweekly_commands.specs.declared.report.Report.{Report}

-- The files that a folder has made, and the bytes that a sink holds, before and after.
pub record Writing : Type 0 where
  pub made : Option (List MadeFile)
  pub made_after : Option (List MadeFile)
  pub contents : Option (List ℕ)
  pub contents_after : Option (List ℕ)

abbrev pub writing : {F W : Type 0} → (F → Option (List MadeFile)) → (W → Option (List ℕ)) → F → F
    → W → W → Writing
writing made contents folder folder_after sink sink_after = record {
  made = made folder;
  made_after = made folder_after;
  contents = contents sink;
  contents_after = contents sink_after;
}

-- The answer that is due of the parts is written where the request wants it,
-- and the status is the answer's.
pub record Answers (request : Request) (parts : Parts) (writing : Writing) (status : ℕ)
    : Type 0 where
  pub answer : Answer
  pub is_answer : IsAnswer request.task request parts answer
  pub readers : HasReaders request.concerns.outlets answer
  pub delivered : IsDeliveredAnswer request answer writing.made writing.made_after
      writing.contents writing.contents_after
  pub is_status : status ≡ answer_status request answer

-- A fault is of a device, or the first that the parts have, or a
-- certificate is not there to be checked, or a reader that words name.
abbrev pub RefusesFor : Request → Parts → ConsoleFault → Type 0
RefusesFor request parts (Unread role cause) = parts.certificate ≡ None
RefusesFor request parts (Overwrites role) = ⊥
RefusesFor request parts (Unwritten cause) = Unit {0}
RefusesFor request parts (Page fault) = LacksReader request.concerns.outlets parts fault
RefusesFor request parts (faults.Old fault) = ⊥
RefusesFor request parts (Kit fault) = IsDeviceFault fault ⊎ IsAnswerFault request.task fault parts

-- What a replay of parts comes to in the form that is asked for, which is no page.
abbrev pub EndsPlain : Request → Parts → Bool → SinkRun → Result (Unit {0}) ConsoleFault → Type 0
EndsPlain request parts trial sink (Ok done) =
    IsReplayIn request.options.form request.resource trial request.options.audit parts sink (Ok tt)
EndsPlain request parts trial sink (Err (Kit fault)) =
    IsReplayIn request.options.form request.resource trial request.options.audit parts sink
    (Err fault)
EndsPlain request parts trial sink (Err _) = ⊥

-- The same of a page, and of any other form.
abbrev pub EndsAs : Option Dialect → Request → Parts → Bool → SinkRun
    → Result (Unit {0}) ConsoleFault → Type 0
EndsAs (Some dialect) request parts trial sink result =
    ReplaysPage request parts dialect trial sink result
EndsAs None request parts trial sink result = EndsPlain request parts trial sink result

-- In the form that is asked for: a trial, where there is no certificate.
abbrev pub IsReplayEnd : Request → Parts → SinkRun → Result (Unit {0}) ConsoleFault → Type 0
IsReplayEnd request parts sink result =
    EndsAs (dialect_of request.options.form) request parts (not (is_some parts.certificate)) sink
    result

-- an end without its status
abbrev pub done_of : Result ℕ ConsoleFault → Result (Unit {0}) ConsoleFault
done_of (Ok status) = Ok tt
done_of (Err fault) = Err fault

-- The replay of parts with a script, and its status.
pub record EndsScript (request : Request) (parts : Parts) (sink : SinkRun)
    (end : Result ℕ ConsoleFault) : Type 0 where
  pub status : IfOk end (λ status. status ≡ 0)
  pub ends : IsReplayEnd request parts sink (done_of end)

-- Memory runs out before it begins, or it comes to its end.
abbrev pub ReplaysScript : Request → Parts → List ℕ → SinkRun → Result ℕ ConsoleFault → Type 0
ReplaysScript request parts script sink end =
    ((end ≡ Err (Kit Memory)) × (sink.contents_after ≡ sink.contents))
    ⊎ EndsScript request (scripted parts script) sink end

-- Nothing is written where there is no script.
abbrev pub ReplaysText : Request → Parts → Option (List ℕ) → SinkRun → Result ℕ ConsoleFault
    → Type 0
ReplaysText request parts None sink result = IsErr result × (sink.contents_after ≡ sink.contents)
ReplaysText request parts (Some script) sink result =
    ReplaysScript request parts script sink result

abbrev pub Replays : Request → Texts → SinkRun → Result ℕ ConsoleFault → Type 0
Replays request texts sink result = ReplaysText request texts.parts texts.script sink result

-- Nothing was made and nothing written.
abbrev pub IsUntouched : Writing → Type 0
IsUntouched writing =
    (writing.made_after ≡ writing.made) × (writing.contents_after ≡ writing.contents)

-- An answer is written, or the command refused; where it is refused,
-- nothing is made and nothing written.
pub record RunsAnswer (request : Request) (parts : Parts) (writing : Writing)
    (end : Result ℕ ConsoleFault) : Type 0 where
  pub ok : IfOk end (Answers request parts writing)
  pub first : IfErr end (RefusesFor request parts)
  pub untouched : IfErr end (λ fault. IsRefusal fault → IsUntouched writing)
  pub unmade : OnErr end (writing.made_after ≡ writing.made)

-- A report is written whole and once.
pub record Reports (request : Request) (texts : Texts) (writing : Writing) (status : ℕ)
    : Type 0 where
  pub report : Report
  pub is_report : IsReport request texts report
  pub page : List ℕ
  pub delivered : IsDelivered request.files.output page writing.made writing.made_after
      writing.contents writing.contents_after
  pub is_status : status ≡ 0

-- A report is written, or refused; where it is refused, nothing is made and nothing written.
pub record RunsReport (request : Request) (texts : Texts) (writing : Writing)
    (end : Result ℕ ConsoleFault) : Type 0 where
  pub ok : IfOk end (Reports request texts writing)
  pub first : IfErr end (RefusesWhole request.concerns.outlets texts)
  pub untouched : IfErr end (λ fault. IsRefusal fault → IsUntouched writing)
  pub unmade : OnErr end (writing.made_after ≡ writing.made)

-- A picture is written whole and once.
pub record Draws (request : Request) (texts : Texts) (writing : Writing) (status : ℕ)
    : Type 0 where
  pub drawing : Drawing
  pub is_drawing : IsDrawing texts drawing
  pub delivered : IsDelivered request.files.output (string_bytes drawing.picture) writing.made
      writing.made_after writing.contents writing.contents_after
  pub is_status : status ≡ 0

-- A picture is written, or refused; where it is refused, nothing is made and nothing written.
pub record RunsDraw (request : Request) (texts : Texts) (writing : Writing)
    (end : Result ℕ ConsoleFault) : Type 0 where
  pub ok : IfOk end (Draws request texts writing)
  pub first : IfErr end (RefusesReport texts)
  pub untouched : IfErr end (λ fault. IsRefusal fault → IsUntouched writing)
  pub unmade : OnErr end (writing.made_after ≡ writing.made)

-- A replay is run, a comparison made, a report or a picture written, and each other command answered.
pub record RunsTexts (request : Request) (texts : Texts) (writing : Writing) (sink : SinkRun)
    (end : Result ℕ ConsoleFault) : Type 0 where
  pub replayed : request.task ≡ Replay
      → Replays request texts sink end × (writing.made_after ≡ writing.made)
  pub compared : request.task ≡ Diff
      → RunsDiff request texts writing.contents writing.contents_after end
      × (writing.made_after ≡ writing.made)
  pub reported : request.task ≡ tasks.Report → RunsReport request texts writing end
  pub drawn : request.task ≡ Draw → RunsDraw request texts writing end
  pub queried : request.task ≡ Queries
      → RunsQueries request texts writing.contents writing.contents_after end
      × (writing.made_after ≡ writing.made)
  pub answered : request.task ≢ Replay → request.task ≢ Diff → request.task ≢ tasks.Report
      → request.task ≢ Draw → request.task ≢ Queries → RunsAnswer request texts.parts writing end

-- The texts of the files, with what running the command on them comes to.
pub record RunsRead (held : List ℕ → Option (List ℕ)) (request : Request) (writing : Writing)
    (sink : SinkRun) (end : Result ℕ ConsoleFault) : Type 0 where
  pub texts : Texts
  pub are_texts : AreTexts held request.files texts
  pub runs : RunsTexts request texts writing sink end

-- Two paths lead to one file, as far as the folder knows.
abbrev pub IsOneFile : (List ℕ → List ℕ → Option Bool) → List ℕ → List ℕ → Type 0
IsOneFile same output path = IfSome (same output path) (λ known. known ≡ true)

-- A path leads to an old file of this role.
abbrev pub IsOld : (List ℕ → List ℕ → Option Bool) → List ℕ → Files → Role → Type 0
IsOld same output files OldCatalogue = IsSomeAnd files.old_catalogue (IsOneFile same output)
IsOld same output files OldConfig = IsSomeAnd files.old_config (IsOneFile same output)
IsOld same output files _ = ⊥

-- A path leads to the file of queries of a number.
abbrev pub IsQueriesFile : (List ℕ → List ℕ → Option Bool) → List ℕ → List (List ℕ) → ℕ → Type 0
IsQueriesFile same output queries number =
    IsSomeAnd (slice_get queries number) (IsOneFile same output)

-- A path leads to the file of a role that is read.
abbrev pub IsInput : (List ℕ → List ℕ → Option Bool) → List ℕ → Files → Role → Type 0
IsInput same output files Catalogue = IsOneFile same output files.catalogue
IsInput same output files Config = IsOneFile same output files.config
IsInput same output files (roles.Queries number) = IsQueriesFile same output files.queries number
IsInput same output files role = IsOld same output files role

-- The output is that file, as far as the folder knows.
abbrev pub IsOverwriting : (List ℕ → List ℕ → Option Bool) → Files → Role → Type 0
IsOverwriting same files role = IsSomeAnd files.output (λ path. IsInput same path files role)

-- A path is that of an old file.
abbrev pub NamesOld : List ℕ → Files → Type 0
NamesOld output files =
    IsSomeAnd files.old_catalogue (λ path. path ≡ output)
    ⊎ IsSomeAnd files.old_config (λ path. path ≡ output)

-- A path is that of an old file, or of a file of queries.
abbrev pub NamesOther : List ℕ → Files → Type 0
NamesOther output files = NamesOld output files ⊎ (list_any (bytes_eq output) files.queries ≡ true)

-- The path of the output is that of a file that is read.
abbrev pub NamesInput : Files → Type 0
NamesInput files = IsSomeAnd files.output
    (λ path. (path ≡ files.catalogue) ⊎ ((path ≡ files.config) ⊎ NamesOther path files))

-- The output is a file that is read, or a file cannot be read.
abbrev pub IsUnstarted : (List ℕ → List ℕ → Option Bool) → Files → ConsoleFault → Type 0
IsUnstarted same files (Overwrites role) = IsOverwriting same files role
IsUnstarted same files (Unread role cause) = Unit {0}
IsUnstarted same files _ = ⊥

-- What a folder knows: the texts of files, and whether two paths lead to one.
pub record Known : Type 0 where
  pub held : List ℕ → Option (List ℕ)
  pub same : List ℕ → List ℕ → Option Bool

abbrev pub known_by : {F : Type 0} → (F → List ℕ → Option (List ℕ))
    → (F → List ℕ → List ℕ → Option Bool) → F → Known
known_by held same folder = record { held = held folder; same = same folder }

-- The command does not start, and nothing is made or written; or it runs on the texts of the files,
-- and the path of its output is that of none.
abbrev pub RunsFiles : Known → Request → Writing → SinkRun → Result ℕ ConsoleFault → Type 0
RunsFiles known request writing sink end =
    (IsErrAnd end (IsUnstarted known.same request.files) × IsUntouched writing)
    ⊎ ((NamesInput request.files → ⊥) × RunsRead known.held request writing sink end)

-- the exit status of how a command ends
abbrev pub exit_of : Result ℕ ConsoleFault → ℕ
exit_of (Ok status) = status
exit_of (Err fault) = status_of fault

-- A command is run on its files, and its end is told by the exit status.
pub record RunsCommand (known : Known) (request : Request) (writing : Writing)
    (sink : SinkRun) (status : ℕ) : Type 0 where
  pub end : Result ℕ ConsoleFault
  pub runs : RunsFiles known request writing sink end
  pub is_status : status ≡ exit_of end

-- The text declares what the catalogue does, as a file of format 1 or 2.
pub record IsInFull (source printed : List ℕ) : Type 0 where
  pub contents : Contents
  pub opened : opened_of source ≡ Ok contents
  pub reads : catalogue_of printed ≡ Ok contents

-- The catalogue that the file is is written in full.
pub record IsExpanded (known : Known) (files : Files) (writing : Writing) : Type 0 where
  pub source : List ℕ
  pub printed : List ℕ
  pub is_held : IsHeld known.held files.catalogue source
  pub is_in_full : IsInFull source printed
  pub delivered : IsDelivered files.output printed writing.made writing.made_after
      writing.contents writing.contents_after
  pub apart : IsSomeAnd files.output (λ path. path ≡ files.catalogue) → ⊥

-- The fault is the first of a catalogue; or it is too large in full, or memory ran out.
abbrev pub IsFullFault : List ℕ → ConsoleFault → Type 0
IsFullFault source (Kit (kit.Catalogue fault)) = opened_of source ≡ Err fault
IsFullFault source (Unread Catalogue unread.TooLarge) =
    IsOkAnd (opened_of source) (λ contents. fits_in_full contents ≡ false)
IsFullFault source (Unread Catalogue unread.Memory) = Unit {0}
IsFullFault source _ = ⊥

-- The catalogue that the file is is refused, and nothing is written.
pub record RefusesFull (known : Known) (files : Files) (writing : Writing) (status : ℕ) : Type 0 where
  pub source : List ℕ
  pub fault : ConsoleFault
  pub is_held : IsHeld known.held files.catalogue source
  pub first : IsFullFault source fault
  pub untouched : IsUntouched writing
  pub is_status : status ≡ status_of fault

-- A file cannot be read or written.
pub record StopsExpansion (writing : Writing) (status : ℕ) : Type 0 where
  pub fault : ConsoleFault
  pub unmade : writing.made_after ≡ writing.made
  pub untouched : IsRefusal fault → IsUntouched writing
  pub is_status : status ≡ status_of fault

-- # what expanding does (profile) [ExpandsFile]
-- The catalogue is written in full; or it is refused by its first fault, and nothing is written; or a file is not read
-- or not written. The exit status says which.
abbrev pub ExpandsFile : Known → Files → Writing → ℕ → Type 0
ExpandsFile known files writing status =
    ((status ≡ 0) × IsExpanded known files writing)
    ⊎ (RefusesFull known files writing status ⊎ StopsExpansion writing status)

-- Code is written where the request wants it; or it is what stands in the file that it is compared with, and nothing is
-- written.
abbrev pub IsPut : Known → Option (List ℕ) → Files → List ℕ → Writing → Type 0
IsPut known None files code writing =
    IsDelivered files.output code writing.made writing.made_after writing.contents writing.contents_after
IsPut known (Some path) files code writing = IsHeld known.held path code × IsUntouched writing

-- The parts are the texts of the catalogue and, where the request names one, of the config; the output is neither file.
pub record AreSources (held : List ℕ → Option (List ℕ)) (files : Files) (parts : Parts) : Type 0
  where
    pub is_held : IsHeld held files.catalogue parts.catalogue
    pub apart : IsSomeAnd files.output (λ path. path ≡ files.catalogue) → ⊥
    pub config_is_held : files.config ≢ [] → IsHeld held files.config parts.config
    pub config_apart : files.config ≢ [] → IsSomeAnd files.output (λ path. path ≡ files.config) → ⊥

-- Code is made of the catalogue that the file is, with the config where the request names one.
pub record IsBound (known : Known) (files : Files) (writing : Writing) : Type 0 where
  pub parts : Parts
  pub contents : Contents
  pub code : List ℕ
  pub are_sources : AreSources known.held files parts
  pub opened : opened_of parts.catalogue ≡ Ok contents
  pub config_read : files.config ≢ [] → IsOk (config_of parts.config)
  pub put : IsPut known files.bound files code writing

-- The fault is the first of a catalogue, or memory ran out.
abbrev pub IsSourceFault : List ℕ → ConsoleFault → Type 0
IsSourceFault source (Kit (kit.Catalogue fault)) = opened_of source ≡ Err fault
IsSourceFault source (Unread Catalogue unread.Memory) = Unit {0}
IsSourceFault source _ = ⊥

-- The catalogue that the file is is refused, and nothing is written.
pub record RefusesSource (known : Known) (files : Files) (writing : Writing) (status : ℕ) : Type 0
  where
    pub parts : Parts
    pub fault : ConsoleFault
    pub are_sources : AreSources known.held files parts
    pub first : IsSourceFault parts.catalogue fault
    pub untouched : IsUntouched writing
    pub is_status : status ≡ status_of fault

-- The fault is the first of a config, or memory ran out.
abbrev pub IsSetupFault : List ℕ → ConsoleFault → Type 0
IsSetupFault config (Kit (kit.Config fault)) = config_of config ≡ Err fault
IsSetupFault config (Unread Config unread.Memory) = Unit {0}
IsSetupFault config _ = ⊥

-- The config that a file is is refused, where the catalogue can be read, and nothing is written.
pub record RefusesSetup (known : Known) (files : Files) (writing : Writing) (status : ℕ) : Type 0
  where
    pub parts : Parts
    pub contents : Contents
    pub fault : ConsoleFault
    pub are_sources : AreSources known.held files parts
    pub opened : opened_of parts.catalogue ≡ Ok contents
    pub named : files.config ≢ []
    pub first : IsSetupFault parts.config fault
    pub untouched : IsUntouched writing
    pub is_status : status ≡ status_of fault

-- No code is made of files that can be read, or other code than a file has, and nothing is written.
pub record RefusesCode (known : Known) (files : Files) (writing : Writing) (status : ℕ) : Type 0
  where
    pub parts : Parts
    pub contents : Contents
    pub are_sources : AreSources known.held files parts
    pub opened : opened_of parts.catalogue ≡ Ok contents
    pub config_read : files.config ≢ [] → IsOk (config_of parts.config)
    pub untouched : IsUntouched writing
    pub is_status : status ≡ 1

-- # what making code does (profile) [BindsFile]
-- Code of the catalogue, and of the config where the request names one, is written, or compared; or the catalogue is
-- refused by its first fault, or else the config, or no code is made of them, and nothing is written; or a file is not
-- read or not written. The exit status says which.
abbrev pub BindsFile : Known → Files → Writing → ℕ → Type 0
BindsFile known files writing status =
    ((status ≡ 0) × IsBound known files writing)
    ⊎ (RefusesSource known files writing status
    ⊎ (RefusesSetup known files writing status
    ⊎ (RefusesCode known files writing status ⊎ StopsExpansion writing status)))

-- # what running a request does (profile)
-- A catalogue is expanded, code made of one, or another command run, and the end is told by the exit status.
pub record RunsRequest (known : Known) (request : Request) (writing : Writing)
    (sink : SinkRun) (status : ℕ) : Type 0 where
  pub expanded : request.task ≡ Expand → ExpandsFile known request.files writing status
  pub bound : request.task ≡ tasks.Bind → BindsFile known request.files writing status
  pub commanded : request.task ≢ Expand → request.task ≢ tasks.Bind
      → RunsCommand known request writing sink status
