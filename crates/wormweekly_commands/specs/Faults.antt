-- Which faults stop a command before it writes, and the exit status of each.
use Rattle.std.specs.Prelude.{ℕ}
use Rattle.metric_kit_commands.specs.declared.fault.KitFault.{KitFault}
use Rattle.metric_kit_commands.specs.declared.fault.KitFault.TheVariants as kit
use Rattle.wormweekly_commands.specs.declared.folder.Unread.{Unread}
use Rattle.wormweekly_commands.specs.declared.folder.Unread.TheVariants as unread
use Rattle.wormweekly_commands.specs.declared.fault.ConsoleFault.{ConsoleFault}
use Rattle.wormweekly_commands.specs.declared.fault.ConsoleFault.TheVariants.{Kit, Overwrites, Page}
use Rattle.wormweekly_commands.specs.declared.fault.ConsoleFault.TheVariants as faults
use Rattle.wormweekly_commands.specs.declared.fault.PageFault.{PageFault}
use Rattle.wormweekly_commands.specs.declared.fault.PageFault.TheVariants as pages

-- 4 when out of memory, else 3
abbrev pub unread_status : Unread → ℕ
unread_status unread.Memory = 4
unread_status _ = 3

-- 1 where the files have no reader for a page, 2 where the words are wrong
abbrev pub page_status : PageFault → ℕ
page_status pages.NoneServed = 1
page_status (pages.Exposure fault) = 1
page_status _ = 2

-- 3 where a file has a fault, 4 when out of memory, 5 where a write failed, else 1: the files can be
-- read, and what is asked for is refused
abbrev pub kit_status : KitFault → ℕ
kit_status kit.Read = 3
kit_status (kit.Input line) = 3
kit_status (kit.Catalogue fault) = 3
kit_status (kit.Config fault) = 3
kit_status kit.Memory = 4
kit_status kit.Write = 5
kit_status _ = 1

abbrev pub status_of : ConsoleFault → ℕ
status_of (faults.Unread role cause) = unread_status cause
status_of (Overwrites role) = 2
status_of (faults.Unwritten cause) = 5
status_of (Page fault) = page_status fault
status_of (faults.Old fault) = kit_status fault
status_of (Kit fault) = kit_status fault

abbrev pub IsUnread : ConsoleFault → Type 0
IsUnread (faults.Unread role cause) = Unit {0}
IsUnread _ = ⊥

-- The sink failed, or memory ran out.
abbrev pub IsDeviceFault : KitFault → Type 0
IsDeviceFault kit.Write = Unit {0}
IsDeviceFault kit.Memory = Unit {0}
IsDeviceFault _ = ⊥

-- The sink failed, the file was not made, or memory ran out.
abbrev pub IsDeliveryFault : ConsoleFault → Type 0
IsDeliveryFault (faults.Unread role cause) = ⊥
IsDeliveryFault (Overwrites role) = ⊥
IsDeliveryFault (faults.Unwritten cause) = Unit {0}
IsDeliveryFault (Page fault) = ⊥
IsDeliveryFault (faults.Old fault) = ⊥
IsDeliveryFault (Kit fault) = IsDeviceFault fault

-- The fault is not of a device: what was asked for is refused.
abbrev pub IsRefused : KitFault → Type 0
IsRefused kit.Write = ⊥
IsRefused kit.Memory = ⊥
IsRefused _ = Unit {0}

abbrev pub IsRefusal : ConsoleFault → Type 0
IsRefusal (faults.Unread role cause) = Unit {0}
IsRefusal (Overwrites role) = Unit {0}
IsRefusal (faults.Unwritten cause) = ⊥
IsRefusal (Page fault) = Unit {0}
IsRefusal (faults.Old fault) = Unit {0}
IsRefusal (Kit fault) = IsRefused fault
