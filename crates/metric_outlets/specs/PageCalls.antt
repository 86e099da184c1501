-- An exporter that replaces a page after each collection.
use Rattle.std.specs.Prelude.{◌≡◌, ◌≢◌, ℕ, ◌⊎◌, List, ◌++◌, Result, Ok, Err, slice_set}
use Rattle.std.specs.List.{flat_map}
use Rattle.metric_io.specs.Counts.{next_count}
use Rattle.metric_io.specs.declared.devices.Broken.{Broken}
use Rattle.metric_history.specs.declared.batch.Batch.{Batch}
use Rattle.metric_plan.specs.Plans.{PlanValue}
use Rattle.metric_export.specs.ExporterCalls.{flush_answer}
use Rattle.metric_export.specs.Exports.{KeepsNone, refuses}
use Rattle.metric_export.specs.declared.fault.ExportFault.{ExportFault}
use Rattle.metric_export.specs.declared.fault.ExportFault.TheVariants as fault
use Rattle.metric_export.specs.declared.state.ExporterState.{ExporterState}
use Rattle.metric_export.specs.declared.state.ExporterState.TheVariants.{Open, ShutDown}
use Rattle.metric_exposition.specs.Pages.{end_text}
use Rattle.metric_exposition.specs.Sections.{batch_sections, gathered}
use Rattle.metric_exposition.specs.declared.section.Section.{Section}
use Rattle.metric_exposition.specs.declared.dialect.Dialect.{Dialect}
use Rattle.metric_outlets.specs.Served.{is_served}
use Rattle.metric_outlets.specs.declared.served.Served.{Served}

-- Such an exporter, as contracts see it: the reader that it is for, its format, what a page begins with, the last lines of each
-- instrument, what takes the pages, how often that failed, and its state.
pub record PageExporterValue (P : Type 0) : Type 0 where
  pub served : Served
  pub dialect : Dialect
  pub target : List ℕ
  pub lines : List (List Section)
  pub pages : P
  pub failures : ℕ
  pub state : ExporterState

-- # page of an exporter (profile)
-- What it begins with, the last lines of each instrument in order, those of one family together, and
-- the end.
abbrev pub page_of : {P : Type 0} → PageExporterValue P → List ℕ
page_of e = e.target ++ gathered (flat_map (λ lines. lines) e.lines) ++ end_text e.dialect

-- the lines of a batch are kept, in place of those of its instrument; no page is replaced yet, and a
-- batch that it refused it does not say to keep
abbrev pub KeepsLines : {P : Type 0} → PageExporterValue P → PageExporterValue P → PlanValue → Batch
    → Result (Unit {0}) ExportFault → Type 0
KeepsLines old new plan batch (Ok done) =
    new ≡ record old {
      lines = slice_set old.lines batch.instrument
          (batch_sections old.dialect plan.facts.contents plan.streams batch);
    }
KeepsLines old new plan batch (Err fault) =
    (new ≡ old) × KeepsNone (refuses (is_served old.served) plan batch) (Err fault)

-- what is said of the replacement of a page: what takes pages before and after it, the page, and the
-- answer
abbrev pub Replacing : Type 0 → Type 1
Replacing P = P → P → List ℕ → Result (Unit {0}) Broken → Type 0

-- one failure more, where the page stayed
abbrev pub failures_after : ℕ → Result (Unit {0}) Broken → ℕ
failures_after failures (Ok done) = failures
failures_after failures (Err broken) = next_count failures

-- The page of the lines that are kept was handed on once, and the answer passed on.
pub record HandsOnPage {P : Type 0} (replaces : Replacing P) (old new : PageExporterValue P)
    (answer : Result (Unit {0}) ExportFault) : Type 0 where
  pub told : Result (Unit {0}) Broken
  pub call : replaces old.pages new.pages (page_of old) told
  pub passed : answer ≡ flush_answer told
  pub counted : new.failures ≡ failures_after old.failures told

-- what is kept stays
pub record KeepsPage {P : Type 0} (old new : PageExporterValue P) : Type 0 where
  pub served : new.served ≡ old.served
  pub dialect : new.dialect ≡ old.dialect
  pub target : new.target ≡ old.target
  pub lines : new.lines ≡ old.lines

-- # flush of it (SDK, push metric exporter) [FlushesPage, ShutsPageDown]
-- The page was handed on once, and the answer passed on; else memory ran out and nothing changed.
pub record FlushesPage {P : Type 0} (replaces : Replacing P) (old new : PageExporterValue P)
    (answer : Result (Unit {0}) ExportFault) : Type 0 where
  pub kept : KeepsPage old new
  pub state : new.state ≡ old.state
  pub handed : old.state ≡ Open
      → HandsOnPage replaces old new answer ⊎ ((answer ≡ Err fault.Memory) × (new ≡ old))
  pub unhanded : old.state ≢ Open → new ≡ old

-- One shutdown: the same, and no call is taken from then on.
pub record ShutsPageDown {P : Type 0} (replaces : Replacing P) (old new : PageExporterValue P)
    (answer : Result (Unit {0}) ExportFault) : Type 0 where
  pub kept : KeepsPage old new
  pub state : new.state ≡ ShutDown
  pub handed : old.state ≡ Open → HandsOnPage replaces old new answer
      ⊎ ((answer ≡ Err fault.Memory) × (new ≡ record old { state = ShutDown }))
  pub unhanded : old.state ≢ Open → new ≡ record old { state = ShutDown }
