-- Why a command line asks for nothing, and what clap's refusal of one is told as.
use Rattle.std.specs.Prelude.{◌≡◌, List, [], Option, None, Result, Err, IsOk, IsSomeAnd}
use Rattle.clap.specs.Words.{IsAmong, Row, Text, fault_of, subcommand_of}
use Rattle.clap.specs.declared.error.ErrorKind.{ErrorKind}
use Rattle.clap.specs.declared.error.ErrorKind.TheVariants.{DisplayHelp, DisplayVersion}
use Rattle.clap.specs.declared.error.ErrorKind.TheVariants.{OutOfMemory}
use Rattle.metric_command_lines.specs.Apps.{program_app}
use Rattle.metric_command_lines.specs.Requests.{resource_asked, task_of}
use Rattle.metric_command_lines.specs.declared.wormweekly.fault.Misuse.{Misuse}
use Rattle.metric_command_lines.specs.declared.wormweekly.fault.RequestFault.{RequestFault}
use Rattle.metric_command_lines.specs.declared.wormweekly.fault.RequestFault.TheVariants.{Told, Usage, Nothing, Misused}
use Rattle.metric_command_lines.specs.declared.wormweekly.fault.RequestFault.TheVariants.{Memory}

-- Help or the version is told, unless memory ran out for the text.
abbrev pub IsToldOrMemory : RequestFault → Type 0
IsToldOrMemory (Told text) = Unit {0}
IsToldOrMemory (Usage text) = ⊥
IsToldOrMemory Nothing = ⊥
IsToldOrMemory (Misused misuse) = ⊥
IsToldOrMemory Memory = Unit {0}

-- A misuse is told, unless memory ran out for the text.
abbrev pub IsUsageOrMemory : RequestFault → Type 0
IsUsageOrMemory (Told text) = ⊥
IsUsageOrMemory (Usage text) = Unit {0}
IsUsageOrMemory Nothing = ⊥
IsUsageOrMemory (Misused misuse) = ⊥
IsUsageOrMemory Memory = Unit {0}

abbrev pub IsMemory : RequestFault → Type 0
IsMemory (Told text) = ⊥
IsMemory (Usage text) = ⊥
IsMemory Nothing = ⊥
IsMemory (Misused misuse) = ⊥
IsMemory Memory = Unit {0}

-- # what a refusal by clap is told as, and why words ask for nothing (profile) [TellsKind,
-- IsNoRequest]
-- A call for help or for the version is told as that, out of memory as such, and everything else as
-- a misuse.
abbrev pub TellsKind : ErrorKind → RequestFault → Type 0
TellsKind DisplayHelp = IsToldOrMemory
TellsKind DisplayVersion = IsToldOrMemory
TellsKind OutOfMemory = IsMemory
TellsKind _ = IsUsageOrMemory

-- Clap has faults of the words to tell, and this tells one of them.
pub record IsRefused (fault : RequestFault) (words : List Text) : Type 0 where
  pub kind : ErrorKind
  pub among : IsAmong kind (fault_of program_app words)
  pub told : TellsKind kind fault

-- The fault is the misuse that stands in place of what was asked for, or memory ran out.
abbrev pub IsMisuse : {A : Type 0} → RequestFault → Result A Misuse → Type 0
IsMisuse (Told text) asked = ⊥
IsMisuse (Usage text) asked = ⊥
IsMisuse Nothing asked = ⊥
IsMisuse (Misused misuse) asked = asked ≡ Err misuse
IsMisuse Memory asked = Unit {0}

-- The command that words name, with its arguments, is one that may be asked for.
abbrev pub IsAllowed : Option (Text × List Row) → Type 0
IsAllowed named = IsSomeAnd named (λ n. IsOk (resource_asked (task_of n.0) n.1))

-- No command is named; or an option of it is misused; or memory ran out.
abbrev pub IsNotAsked : RequestFault → Option (Text × List Row) → Type 0
IsNotAsked (Told text) named = ⊥
IsNotAsked (Usage text) named = ⊥
IsNotAsked Nothing named = named ≡ None
IsNotAsked (Misused misuse) named =
    IsSomeAnd named (λ n. resource_asked (task_of n.0) n.1 ≡ Err misuse)
IsNotAsked Memory named = Unit {0}

-- The fault says why the words ask for nothing: clap refuses them, or it takes them and they name
-- no command, or misuse an option; or memory ran out.
abbrev pub IsNoRequest : RequestFault → List Text → Type 0
IsNoRequest (Told text) words = IsRefused (Told text) words
IsNoRequest (Usage text) words = IsRefused (Usage text) words
IsNoRequest Nothing words =
    (fault_of program_app words ≡ []) × IsNotAsked Nothing (subcommand_of program_app words)
IsNoRequest (Misused misuse) words =
    (fault_of program_app words ≡ [])
    × IsNotAsked (Misused misuse) (subcommand_of program_app words)
IsNoRequest Memory words = Unit {0}

-- The fault is none of clap's.
abbrev pub IsOwn : RequestFault → Type 0
IsOwn (Told text) = ⊥
IsOwn (Usage text) = ⊥
IsOwn fault = Unit {0}
