-- What the words of a command line come to that asks for nothing.
use Rattle.std.specs.Prelude.{◌≡◌, ◌⊎◌, ℕ, List, Option, codes, if◌then◌else◌, string_bytes}
use Rattle.std.specs.Io.KnownBytes.{Appends}
use Rattle.metric_command_lines.specs.declared.wormweekly.fault.RequestFault.{RequestFault}
use Rattle.metric_command_lines.specs.declared.wormweekly.fault.RequestFault.TheVariants.{Told, Usage, Nothing, Misused}
use Rattle.metric_command_lines.specs.declared.wormweekly.fault.RequestFault.TheVariants.{Memory}
use Rattle.metric_command_lines.specs.Standard.{is_standard}

-- Help and the version are written whole, or the status is that of a write that failed; else
-- nothing is written to the sink, and the status is that of a misuse or out of memory.
abbrev pub IsLineEnd : RequestFault → Option (List ℕ) → Option (List ℕ) → ℕ → Type 0
IsLineEnd (Told text) contents contents_after status =
    ((status ≡ 0) × Appends contents contents_after (string_bytes text)) ⊎ (status ≡ 5)
IsLineEnd (Usage text) contents contents_after status = (status ≡ 2) × (contents_after ≡ contents)
IsLineEnd Nothing contents contents_after status = (status ≡ 2) × (contents_after ≡ contents)
IsLineEnd (Misused misuse) contents contents_after status =
    (status ≡ 2) × (contents_after ≡ contents)
IsLineEnd Memory contents contents_after status = (status ≡ 4) × (contents_after ≡ contents)

-- what a file that is read is called
abbrev pub shown : List ℕ → List ℕ
shown path = if is_standard path then codes "<stdin>" else path
