-- What the program does for a command line.
use Rattle.std.specs.Prelude.{◌≡◌, ◌++◌, ◌⊎◌, ℕ, List, Result, Ok, Err, codes}
use Rattle.std.specs.Io.KnownBytes.{Appends, Keeps}
use Rattle.metric_io.specs.Counts.{HasFailed}
use Rattle.metric_io.specs.Prefix.{AppendsPrefix}
use Rattle.metric_command_lines.specs.declared.kit.line.Line.{Line}
use Rattle.metric_command_lines.specs.declared.kit.line.Line.TheVariants as lines
use Rattle.metric_command_lines.specs.declared.kit.line.LineFault.{LineFault}
use Rattle.metric_command_lines.specs.declared.kit.line.LineFault.TheVariants as unasked
use Rattle.metric_kit_commands.specs.declared.fault.KitFault.{KitFault}
use Rattle.metric_kit_commands.specs.declared.fault.KitFault.TheVariants.{Memory}
use Rattle.metric_kit_commands.specs.Certifying.{IsCertificateText, IsFirstMakeFault}
use Rattle.metric_kit_commands.specs.Checking.{IsAcceptance, IsFirstCheckFault}
use Rattle.metric_kit_commands.specs.Commands.{RunsCommand, SinkRun, SourceRun}
use Rattle.metric_kit_commands.specs.Faults.{status_of}
use Rattle.metric_kit_commands.specs.Replaying.{IsFirstFault, IsOutput, replay_options}
use Rattle.metric_kit_commands.specs.Showing.{IsFirstShowFault, IsShown}
use Rattle.metric_kit_program.specs.Threading.{IsCounted, IsFirstThreadsFault}

-- Each command line runs the command that it names.
abbrev pub RunsLine : Line → SourceRun → SinkRun → Result (Unit {0}) KitFault → Type 0
RunsLine lines.Make = RunsCommand IsCertificateText IsFirstMakeFault
RunsLine lines.Check = RunsCommand IsAcceptance IsFirstCheckFault
RunsLine lines.Show = RunsCommand IsShown IsFirstShowFault
RunsLine (lines.Replay trial audit) =
    RunsCommand (IsOutput (replay_options trial audit)) (IsFirstFault (replay_options trial audit))
RunsLine (lines.Threads each) = RunsCommand IsCounted IsFirstThreadsFault

-- the exit status where the words name no command
abbrev pub usage_status : ℕ
usage_status = 2

-- what is told then
abbrev pub usage_line : List ℕ
usage_line = codes "refused: usage"

-- 0 where a command is done, else the status of its fault
abbrev pub exit_status : {A : Type 0} → Result A KitFault → ℕ
exit_status (Ok done) = 0
exit_status (Err fault) = status_of fault

-- A line is written with its end, or a prefix of both where the sink failed.
pub record IsTold (line : List ℕ) (errors : SinkRun) : Type 0 where
  pub prefix : AppendsPrefix errors.contents errors.contents_after (line ++ codes "\n")
  pub whole : Appends errors.contents errors.contents_after (line ++ codes "\n")
      ⊎ HasFailed errors.failures errors.failures_after

-- Some line is.
pub record TellsLine (errors : SinkRun) : Type 0 where
  pub line : List ℕ
  pub told : IsTold line errors

-- A fault is told by a line, and the end of a command that is done by none.
abbrev pub IsEndTold : {A : Type 0} → Result A KitFault → SinkRun → Type 0
IsEndTold (Ok done) errors = Keeps errors.contents errors.contents_after
IsEndTold (Err fault) errors = TellsLine errors

-- # a command line run (profile) [RunsTold, RunsLine, IsUnasked]
-- Each names one command, which runs with its own promises; a fault is told by one line, and how
-- the command ends by the exit status. Without a command only that is told.
pub record RunsTold (line : Line) (source : SourceRun) (sink errors : SinkRun) (status : ℕ)
    : Type 0 where
  pub end : Result (Unit {0}) KitFault
  pub runs : RunsLine line source sink end
  pub told : IsEndTold end errors
  pub is_status : status ≡ exit_status end

-- That there is no command is told, also by the exit status.
abbrev pub IsUnasked : LineFault → SinkRun → ℕ → Type 0
IsUnasked unasked.Usage errors status = IsTold usage_line errors × (status ≡ usage_status)
IsUnasked unasked.Memory errors status = TellsLine errors × (status ≡ status_of Memory)
