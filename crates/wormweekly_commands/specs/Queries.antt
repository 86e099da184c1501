-- What holding queries against pages comes to.
use Rattle.std.specs.Prelude.{◌≡◌, ◌⊎◌, ℕ, [], List, Option, Result, IfErr, IfOk, OnErr}
use Rattle.metric_parts.specs.declared.parts.Parts.{Parts}
use Rattle.metric_command_lines.specs.declared.wormweekly.request.Request.{Request}
use Rattle.metric_kit_commands.specs.Declarations.{IsDeclaredFault}
use Rattle.metric_kit_commands.specs.declared.fault.KitFault.TheVariants.{Memory}
use Rattle.wormweekly_commands.specs.Answers.{AreRight}
use Rattle.wormweekly_commands.specs.Faults.{IsDeviceFault, IsRefusal}
use Rattle.wormweekly_commands.specs.declared.fault.ConsoleFault.{ConsoleFault}
use Rattle.wormweekly_commands.specs.declared.fault.ConsoleFault.TheVariants as faults
use Rattle.wormweekly_commands.specs.declared.parts.Texts.{Texts}

-- Without a kind that is denied the status is 0; else it may be 1.
abbrev pub IsQueriesStatus : List (List ℕ) → ℕ → Type 0
IsQueriesStatus denied status = (status ≡ 0) ⊎ ((status ≡ 1) × (denied ≡ [] → ⊥))

-- No page can be asked about, or memory ran out.
abbrev pub IsReadersFault : ConsoleFault → Type 0
IsReadersFault (faults.Page fault) = Unit {0}
IsReadersFault (faults.Kit fault) = fault ≡ Memory
IsReadersFault _ = ⊥

-- A fault is the first of the parts, or one of a device; or no page can be asked about.
abbrev pub RefusesQueries : Parts → ConsoleFault → Type 0
RefusesQueries parts (faults.Unread role cause) = ⊥
RefusesQueries parts (faults.Overwrites role) = ⊥
RefusesQueries parts (faults.Unwritten cause) = ⊥
RefusesQueries parts (faults.Page fault) = AreRight parts
RefusesQueries parts (faults.Old fault) = ⊥
RefusesQueries parts (faults.Kit fault) = IsDeviceFault fault ⊎ IsDeclaredFault fault parts

-- What is told is written, or the command refused; then nothing is written.
pub record RunsQueries (request : Request) (texts : Texts) (contents contents_after : Option (List ℕ))
    (end : Result ℕ ConsoleFault) : Type 0 where
  pub right : IfOk end (λ status. AreRight texts.parts)
  pub status : IfOk end (λ status. IsQueriesStatus request.concerns.denied status)
  pub first : IfErr end (RefusesQueries texts.parts)
  pub untouched : IfErr end (λ fault. IsRefusal fault → contents_after ≡ contents)
