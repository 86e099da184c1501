-- What keeps a page from being printed, put together.
use Rattle.std.proofs.Common.{◌≡◌, ◌≢◌, ℕ, Bool, List, Option, Result, Ok, Err, ap, inl, inr, refl, subst, sym}
use Rattle.metric_parts.specs.declared.parts.Parts.{Parts}
use Rattle.metric_contents.specs.declared.attributes.OwnedAttr.{OwnedAttr}
use Rattle.metric_contents.specs.declared.contents.Contents.{Contents}
use Rattle.metric_views.specs.declared.config.Setup.{Setup}
use Rattle.metric_exposition.specs.TargetFaults.{target_check}
use Rattle.metric_exposition.specs.Pages.{end_text}
use Rattle.metric_exposition.specs.Targets.{target_text}
use Rattle.metric_exposition.specs.declared.dialect.Dialect.{Dialect}
use Rattle.metric_exposition.specs.declared.target.TargetFault.{TargetFault}
use Rattle.metric_exposition.specs.declared.target.TargetFault.TheVariants as targets
use Rattle.metric_command_lines.specs.declared.wormweekly.request.Request.{Request}
use Rattle.metric_kit_commands.specs.Commands.{SinkRun}
use Rattle.metric_kit_commands.specs.Declarations.{IsDeclared, IsDeclaredFault}
use Rattle.metric_kit_commands.specs.declared.fault.KitFault.{KitFault}
use Rattle.metric_kit_commands.specs.declared.fault.KitFault.TheVariants.{Memory}
use Rattle.wormweekly_commands.specs.Paging.{IsHead, IsPageEnd, IsPageReplay, IsReaderAsked, IsReaderFound, IsReaderRead, ReplaysPage, label_fault, of_target, page_reader}
use Rattle.wormweekly_commands.specs.declared.fault.ConsoleFault.{ConsoleFault}
use Rattle.wormweekly_commands.specs.declared.fault.ConsoleFault.TheVariants.{Kit, Overwrites, Page}
use Rattle.wormweekly_commands.specs.declared.fault.ConsoleFault.TheVariants as faults

-- out of memory is a fault of any parts
pub of_memory : (parts : Parts) (fault : KitFault) → fault ≡ Memory → IsDeclaredFault fault parts
of_memory parts fault is = subst (λ (f : KitFault). IsDeclaredFault f parts) (sym is) tt

-- the fault of a target
pub target_refused : (dialect : Dialect) (resource : List OwnedAttr) (fault : TargetFault) (told : ConsoleFault) → told ≡ of_target fault
    → (fault ≢ targets.Memory → target_check resource ≡ Err fault) → IsHead dialect resource (Err told)
target_refused dialect resource (targets.BadLabel attribute) told is check =
    subst (λ (f : ConsoleFault). IsHead dialect resource (Err f)) (sym is) (ap label_fault (check (λ (w : targets.BadLabel attribute ≡ targets.Memory). cc)))
target_refused dialect resource (targets.LabelCollision attribute other) told is check =
    subst (λ (f : ConsoleFault). IsHead dialect resource (Err f)) (sym is) (ap label_fault (check (λ (w : targets.LabelCollision attribute other ≡ targets.Memory). cc)))
target_refused dialect resource targets.Memory told is check = subst (λ (f : ConsoleFault). IsHead dialect resource (Err f)) (sym is) refl

-- the reader of what the parts declare
pub of_declared : (name : Option (List ℕ)) (parts : Parts) (contents : Contents) (config : Setup) (result : Result ℕ ConsoleFault) → IsDeclared parts contents config
    → IsReaderFound (page_reader name contents config) result → IsReaderRead name parts result
of_declared name parts contents config (Ok reader) declared is = record { contents = contents; config = config; declared = declared; is = is }
of_declared name parts contents config (Err (Page fault)) declared is = record { contents = contents; config = config; declared = declared; is = is }
of_declared name parts contents config (Err (Kit fault)) declared is = of_memory parts fault is
of_declared name parts contents config (Err (Overwrites role)) declared is = is
of_declared name parts contents config (Err (faults.Unread role cause)) declared is = is
of_declared name parts contents config (Err (faults.Unwritten cause)) declared is = is
of_declared name parts contents config (Err (faults.Old fault)) declared is = is

pub of_head : (request : Request) (parts : Parts) (dialect : Dialect) (trial : Bool) (sink : SinkRun) (fault : ConsoleFault)
    → IsHead dialect request.resource (Err fault) → sink.contents_after ≡ sink.contents → ReplaysPage request parts dialect trial sink (Err fault)
of_head request parts dialect trial sink (Kit fault) head same = inl (of_memory parts fault head, same)
of_head request parts dialect trial sink (Page fault) head same = (inl head, same)
of_head request parts dialect trial sink (Overwrites role) head same = head
of_head request parts dialect trial sink (faults.Old fault) head same = head
of_head request parts dialect trial sink (faults.Unread role cause) head same = head
of_head request parts dialect trial sink (faults.Unwritten cause) head same = head

pub of_reader : (request : Request) (parts : Parts) (dialect : Dialect) (trial : Bool) (sink : SinkRun) (fault : ConsoleFault)
    → target_check request.resource ≡ Ok tt → IsReaderRead request.reader parts (Err fault) → sink.contents_after ≡ sink.contents
    → ReplaysPage request parts dialect trial sink (Err fault)
of_reader request parts dialect trial sink (Kit fault) passes read same = inl (read, same)
of_reader request parts dialect trial sink (Page fault) passes read same = (inr (passes, read), same)
of_reader request parts dialect trial sink (Overwrites role) passes read same = read
of_reader request parts dialect trial sink (faults.Old fault) passes read same = read
of_reader request parts dialect trial sink (faults.Unread role cause) passes read same = read
of_reader request parts dialect trial sink (faults.Unwritten cause) passes read same = read

pub of_end : (request : Request) (parts : Parts) (dialect : Dialect) (reader : ℕ) (head : List ℕ) (trial : Bool) (sink : SinkRun) (result : Result (Unit {0}) ConsoleFault)
    → target_check request.resource ≡ Ok tt → head ≡ target_text dialect request.resource → IsReaderAsked request.reader parts (Ok reader)
    → IsPageEnd dialect reader head trial parts sink result → ReplaysPage request parts dialect trial sink result
of_end request parts dialect reader head trial sink (Ok done) passes is asked end = record {
  reader = reader;
  labelled = passes;
  asked = asked;
  printed = subst (λ (h : List ℕ). IsPageReplay dialect reader h (end_text dialect) trial parts sink (Ok tt)) is end;
}
of_end request parts dialect reader head trial sink (Err (Kit fault)) passes is asked (inl end) = inl (of_memory parts fault end.0, end.1)
of_end request parts dialect reader head trial sink (Err (Kit fault)) passes is asked (inr end) = inr (record {
  reader = reader;
  labelled = passes;
  asked = asked;
  printed = subst (λ (h : List ℕ). IsPageReplay dialect reader h (end_text dialect) trial parts sink (Err fault)) is end;
})
of_end request parts dialect reader head trial sink (Err (Page fault)) passes is asked end = absurd end
of_end request parts dialect reader head trial sink (Err (Overwrites role)) passes is asked end = end
of_end request parts dialect reader head trial sink (Err (faults.Old fault)) passes is asked end = end
of_end request parts dialect reader head trial sink (Err (faults.Unread role cause)) passes is asked end = end
of_end request parts dialect reader head trial sink (Err (faults.Unwritten cause)) passes is asked end = end
