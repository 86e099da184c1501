-- The page that a replay prints.
use Rattle.std.specs.Prelude.{◌≡◌, ◌⊎◌, ℕ, Bool, List, [], ◌∷◌, Option, Some, None, Result, Ok, Err}
use Rattle.std.specs.List.{flat_map}
use Rattle.std.specs.Option.{option_map_or, option_to_list}
use Rattle.metric_parts.specs.declared.parts.Parts.{Parts}
use Rattle.metric_contents.specs.declared.attributes.OwnedAttr.{OwnedAttr}
use Rattle.metric_contents.specs.declared.contents.Contents.{Contents}
use Rattle.metric_views.specs.declared.config.Setup.{Setup}
use Rattle.metric_views.specs.declared.stream.Stream.{Stream}
use Rattle.metric_history.specs.declared.batch.Batch.{Batch}
use Rattle.metric_plan.specs.Plans.{PlanValue}
use Rattle.metric_resolve.specs.Resolved.{streams_of}
use Rattle.metric_exposition.specs.Pages.{end_text, page_lines}
use Rattle.metric_exposition.specs.Sections.{batch_sections}
use Rattle.metric_exposition.specs.TargetFaults.{target_check}
use Rattle.metric_exposition.specs.Targets.{target_text}
use Rattle.metric_exposition.specs.declared.dialect.Dialect.{Dialect}
use Rattle.metric_exposition.specs.declared.dialect.Dialect.TheVariants as dialects
use Rattle.metric_exposition.specs.declared.section.Section.{Section}
use Rattle.metric_exposition.specs.declared.target.TargetFault.{TargetFault}
use Rattle.metric_exposition.specs.declared.target.TargetFault.TheVariants as targets
use Rattle.metric_exposure.specs.Exposures.{exposure_faults}
use Rattle.metric_exposure.specs.declared.fault.ExposureFault.{ExposureFault}
use Rattle.metric_exposure.specs.declared.outlet.Outlet.TheVariants as outlets
use Rattle.metric_command_lines.specs.declared.wormweekly.request.Form.{Form}
use Rattle.metric_command_lines.specs.declared.wormweekly.request.Form.TheVariants.{Replies, OtlpLines, OtlpBytes}
use Rattle.metric_command_lines.specs.declared.wormweekly.request.Form.TheVariants.{Prometheus, OpenMetrics}
use Rattle.metric_command_lines.specs.declared.wormweekly.request.Form.TheVariants.{OpenMetricsCreated}
use Rattle.metric_command_lines.specs.declared.wormweekly.request.Request.{Request}
use Rattle.metric_kit_commands.specs.Commands.{RunsParts, SinkRun}
use Rattle.metric_kit_commands.specs.Declarations.{IsDeclared, IsDeclaredFault}
use Rattle.metric_kit_commands.specs.Pages.{IsPage}
use Rattle.metric_kit_commands.specs.Replaying.{IsReplayFault, plain_options}
use Rattle.metric_kit_commands.specs.declared.fault.KitFault.{KitFault}
use Rattle.metric_kit_commands.specs.declared.fault.KitFault.TheVariants.{Memory}
use Rattle.wormweekly_commands.specs.PageReaders.{reader_asked}
use Rattle.wormweekly_commands.specs.declared.fault.ConsoleFault.{ConsoleFault}
use Rattle.wormweekly_commands.specs.declared.fault.ConsoleFault.TheVariants.{Kit, Page}
use Rattle.wormweekly_commands.specs.declared.fault.PageFault.{PageFault}
use Rattle.wormweekly_commands.specs.declared.fault.PageFault.TheVariants.{BadLabel, LabelCollision}
use Rattle.wormweekly_commands.specs.declared.fault.PageFault.TheVariants.{Exposure}

-- the format of the page that a form is, where it is one
abbrev pub dialect_of : Form → Option Dialect
dialect_of Replies = None
dialect_of OtlpLines = None
dialect_of OtlpBytes = None
dialect_of Prometheus = Some dialects.Text
dialect_of OpenMetrics = Some dialects.OpenMetrics
dialect_of OpenMetricsCreated = Some dialects.OpenMetricsCreated

-- the first of the faults that keep a reader out of a page, or the reader
abbrev pub exposed_by : List ExposureFault → ℕ → Result ℕ PageFault
exposed_by [] reader = Ok reader
exposed_by (fault ∷ others) reader = Err (Exposure fault)

abbrev pub exposed : Contents → List Stream → Result ℕ PageFault → Result ℕ PageFault
exposed contents streams (Ok reader) =
    exposed_by (exposure_faults outlets.Prometheus contents streams reader) reader
exposed contents streams (Err fault) = Err fault

-- # what keeps a page from being printed (profile) [page_reader, ReplaysPage]
-- The reader that is asked for, where a server would hold each sample of its page.
abbrev pub page_reader : Option (List ℕ) → Contents → Setup → Result ℕ PageFault
page_reader name contents config = exposed contents (streams_of contents config)
    (reader_asked name config.readers (streams_of contents config))

-- What is found of it is that, unless memory ran out.
abbrev pub IsReaderFound : Result ℕ PageFault → Result ℕ ConsoleFault → Type 0
IsReaderFound asked (Ok reader) = asked ≡ Ok reader
IsReaderFound asked (Err (Page fault)) = asked ≡ Err fault
IsReaderFound asked (Err (Kit fault)) = fault ≡ Memory
IsReaderFound asked (Err _) = ⊥

-- It is that of what the parts declare.
pub record IsReaderAsked (name : Option (List ℕ)) (parts : Parts) (asked : Result ℕ PageFault)
    : Type 0 where
  pub contents : Contents
  pub config : Setup
  pub declared : IsDeclared parts contents config
  pub is : page_reader name contents config ≡ asked

-- The same, or the first fault of the parts.
abbrev pub IsReaderRead : Option (List ℕ) → Parts → Result ℕ ConsoleFault → Type 0
IsReaderRead name parts (Ok reader) = IsReaderAsked name parts (Ok reader)
IsReaderRead name parts (Err (Page fault)) = IsReaderAsked name parts (Err fault)
IsReaderRead name parts (Err (Kit fault)) = IsDeclaredFault fault parts
IsReaderRead name parts (Err _) = ⊥

-- the fault that keeps the attributes of a resource out of a page
abbrev pub label_fault : Result (Unit {0}) TargetFault → Option PageFault
label_fault (Ok passed) = None
label_fault (Err (targets.BadLabel attribute)) = Some (BadLabel attribute)
label_fault (Err (targets.LabelCollision attribute other)) = Some (LabelCollision attribute other)
label_fault (Err targets.Memory) = None

-- a fault of a target, as one of the console
abbrev pub of_target : TargetFault → ConsoleFault
of_target (targets.BadLabel attribute) = Page (BadLabel attribute)
of_target (targets.LabelCollision attribute other) = Page (LabelCollision attribute other)
of_target targets.Memory = Kit Memory

-- What a page begins with, or why the attributes of the resource can't be the labels of one line.
abbrev pub IsHead : Dialect → List OwnedAttr → Result (List ℕ) ConsoleFault → Type 0
IsHead dialect resource (Ok head) =
    (target_check resource ≡ Ok tt) × (head ≡ target_text dialect resource)
IsHead dialect resource (Err (Page fault)) = label_fault (target_check resource) ≡ Some fault
IsHead dialect resource (Err (Kit fault)) = fault ≡ Memory
IsHead dialect resource (Err _) = ⊥

-- the sections of the batch of an instrument, none where there is none
abbrev pub sections_of : Dialect → PlanValue → Option Batch → List Section
sections_of dialect plan batch =
    option_map_or (batch_sections dialect plan.facts.contents plan.streams) batch []

-- the lines of the batches of a plan, those of one family together
abbrev pub plan_lines : Dialect → PlanValue → List (Option Batch) → List ℕ
plan_lines dialect plan batches =
    page_lines dialect plan.facts.contents plan.streams (flat_map option_to_list batches)

-- The replay of parts, of which a page is written.
abbrev pub IsPageReplay : Dialect → ℕ → List ℕ → List ℕ → Bool → Parts → SinkRun
    → Result (Unit {0}) KitFault → Type 0
IsPageReplay dialect reader head tail trial parts sink result =
    RunsParts (IsPage (plan_lines dialect) reader head tail (plain_options trial) parts)
    (λ fault. IsReplayFault (plain_options trial) fault parts) sink result

-- The page of a reader behind a head, or out of memory before it.
abbrev pub IsPageEnd : Dialect → ℕ → List ℕ → Bool → Parts → SinkRun
    → Result (Unit {0}) ConsoleFault → Type 0
IsPageEnd dialect reader head trial parts sink (Ok done) =
    IsPageReplay dialect reader head (end_text dialect) trial parts sink (Ok tt)
IsPageEnd dialect reader head trial parts sink (Err (Kit fault)) =
    ((fault ≡ Memory) × (sink.contents_after ≡ sink.contents))
    ⊎ IsPageReplay dialect reader head (end_text dialect) trial parts sink (Err fault)
IsPageEnd dialect reader head trial parts sink (Err _) = ⊥

-- The page of the reader that is asked for, between the target and the end.
pub record PrintsPage (request : Request) (parts : Parts) (dialect : Dialect) (trial : Bool)
    (sink : SinkRun) (result : Result (Unit {0}) KitFault) : Type 0 where
  pub reader : ℕ
  pub labelled : target_check request.resource ≡ Ok tt
  pub asked : IsReaderAsked request.reader parts (Ok reader)
  pub printed : IsPageReplay dialect reader (target_text dialect request.resource)
      (end_text dialect) trial parts sink result

-- The fault is that of the resource; or this has none, and it is that of the reader.
abbrev pub IsPageFault : Request → Parts → PageFault → Type 0
IsPageFault request parts fault =
    (label_fault (target_check request.resource) ≡ Some fault)
    ⊎ ((target_check request.resource ≡ Ok tt)
    × IsReaderAsked request.reader parts (Err fault))

-- The page is printed, or nothing is written and this is the first fault.
abbrev pub ReplaysPage : Request → Parts → Dialect → Bool → SinkRun
    → Result (Unit {0}) ConsoleFault → Type 0
ReplaysPage request parts dialect trial sink (Ok done) =
    PrintsPage request parts dialect trial sink (Ok tt)
ReplaysPage request parts dialect trial sink (Err (Page fault)) =
    IsPageFault request parts fault × (sink.contents_after ≡ sink.contents)
ReplaysPage request parts dialect trial sink (Err (Kit fault)) =
    (IsDeclaredFault fault parts × (sink.contents_after ≡ sink.contents))
    ⊎ PrintsPage request parts dialect trial sink (Err fault)
ReplaysPage request parts dialect trial sink (Err _) = ⊥
