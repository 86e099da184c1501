-- What a fault of a layer is to a command, and the exit status of each fault.
use Rattle.std.specs.Prelude.{ℕ}
use Rattle.metric_audit.specs.declared.fault.AuditFault.{AuditFault}
use Rattle.metric_audit.specs.declared.fault.AuditFault.TheVariants as audits
use Rattle.metric_io.specs.declared.whole.ReadFault.{ReadFault}
use Rattle.metric_io.specs.declared.whole.ReadFault.TheVariants as read
use Rattle.metric_parts.specs.declared.fault.InputFault.{InputFault}
use Rattle.metric_parts.specs.declared.fault.InputFault.TheVariants as input
use Rattle.metric_setup.specs.declared.fault.SetupFault.{SetupFault}
use Rattle.metric_setup.specs.declared.fault.SetupFault.TheVariants as setups
use Rattle.metric_kit_commands.specs.declared.fault.KitFault.{KitFault}
use Rattle.metric_kit_commands.specs.declared.fault.KitFault.TheVariants.{
  Read,
  Input,
  Catalogue,
  Config,
  Certificate,
  Check,
  Make,
  Audit,
  Finish,
  Write,
  Memory,
}

abbrev pub from_read : ReadFault → KitFault
from_read read.Read = Read
from_read read.Memory = Memory

abbrev pub from_input : InputFault → KitFault
from_input (input.Input line) = Input line
from_input input.Memory = Memory

abbrev pub from_setup : SetupFault → KitFault
from_setup (setups.Catalogue fault) = Catalogue fault
from_setup (setups.Config fault) = Config fault
from_setup (setups.Certificate fault) = Certificate fault
from_setup (setups.Check fault) = Check fault
from_setup (setups.Unsafe fault) = Make fault
from_setup setups.Memory = Memory

abbrev pub from_audit : AuditFault → KitFault
from_audit (audits.Slips recorder) = Audit (audits.Slips recorder)
from_audit (audits.Entry at) = Audit (audits.Entry at)
from_audit (audits.Batch at) = Audit (audits.Batch at)
from_audit audits.Memory = Memory

-- # exit status (profile)
-- 0 done, 1 refused, 2 no command, 3 unreadable input, 4 memory, 5 write fault.
abbrev pub status_of : KitFault → ℕ
status_of Read = 3
status_of (Input line) = 3
status_of (Catalogue fault) = 1
status_of (Config fault) = 1
status_of (Certificate fault) = 1
status_of (Check fault) = 1
status_of (Make fault) = 1
status_of (Audit fault) = 1
status_of (Finish fault) = 1
status_of Write = 5
status_of Memory = 4

-- The fault is of an input that was read, or memory ran out.
abbrev pub IsOfInput : KitFault → Type 0
IsOfInput Read = ⊥
IsOfInput Write = ⊥
IsOfInput _ = Unit {0}
