-- A fault of a device is no refusal.
use Rattle.std.proofs.Common.{ℕ, Bool, List, Option}
use Rattle.metric_kit_commands.specs.declared.fault.KitFault.{KitFault}
use Rattle.metric_kit_commands.specs.declared.fault.KitFault.TheVariants.{Read, Input, Catalogue, Config, Certificate, Check, Make, Audit, Finish, Write, Memory}
use Rattle.metric_command_lines.specs.declared.wormweekly.request.Files.{Files}
use Rattle.wormweekly_commands.specs.Faults.{IsDeliveryFault, IsDeviceFault, IsRefusal, IsRefused, IsUnread}
use Rattle.wormweekly_commands.specs.Runs.{IsUnstarted}
use Rattle.wormweekly_commands.specs.declared.fault.ConsoleFault.{ConsoleFault}
use Rattle.wormweekly_commands.specs.declared.fault.ConsoleFault.TheVariants.{Kit, Overwrites, Page}
use Rattle.wormweekly_commands.specs.declared.fault.ConsoleFault.TheVariants as faults

pub device_is_not_refused : (fault : KitFault) → IsDeviceFault fault → IsRefused fault → ⊥
device_is_not_refused Read device refused = device
device_is_not_refused (Input line) device refused = device
device_is_not_refused (Catalogue fault) device refused = device
device_is_not_refused (Config fault) device refused = device
device_is_not_refused (Certificate fault) device refused = device
device_is_not_refused (Check fault) device refused = device
device_is_not_refused (Make fault) device refused = device
device_is_not_refused (Audit fault) device refused = device
device_is_not_refused (Finish fault) device refused = device
device_is_not_refused Write device refused = refused
device_is_not_refused Memory device refused = refused

-- nor is one of what an answer is written to
pub delivery_is_no_refusal : (fault : ConsoleFault) → IsDeliveryFault fault → IsRefusal fault → ⊥
delivery_is_no_refusal (faults.Unread role cause) delivery refused = delivery
delivery_is_no_refusal (Overwrites role) delivery refused = delivery
delivery_is_no_refusal (faults.Unwritten cause) delivery refused = refused
delivery_is_no_refusal (Page fault) delivery refused = delivery
delivery_is_no_refusal (faults.Old fault) delivery refused = delivery
delivery_is_no_refusal (Kit fault) delivery refused = device_is_not_refused fault delivery refused

-- a file that cannot be read does not let a command start
pub unread_is_unstarted : (same : List ℕ → List ℕ → Option Bool) (files : Files) (fault : ConsoleFault) → IsUnread fault → IsUnstarted same files fault
unread_is_unstarted same files (faults.Unread role cause) unread = tt
unread_is_unstarted same files (Overwrites role) unread = absurd unread
unread_is_unstarted same files (faults.Unwritten cause) unread = unread
unread_is_unstarted same files (Page fault) unread = unread
unread_is_unstarted same files (faults.Old fault) unread = unread
unread_is_unstarted same files (Kit fault) unread = unread
