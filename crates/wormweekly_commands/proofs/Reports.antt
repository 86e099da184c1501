-- With which fault a report or an answer is refused.
use Rattle.std.proofs.Common.{◌≡◌, ℕ, List, inl, inr, refl, subst, sym, true, Option, Some}
use Rattle.std.specs.Prelude.{IsSomeAnd}
use Rattle.metric_parts.specs.declared.parts.Parts.{Parts}
use Rattle.metric_command_lines.specs.declared.wormweekly.request.Request.{Request}
use Rattle.metric_command_lines.specs.declared.wormweekly.request.Task.{Task}
use Rattle.metric_command_lines.specs.declared.wormweekly.request.Task.TheVariants.{Lint, Show, Make, Check, Headroom}
use Rattle.metric_command_lines.specs.declared.wormweekly.request.Task.TheVariants.{Replay, Diff, Report, Expand, Draw, Queries, Bind}
use Rattle.metric_contents.specs.declared.contents.Contents.{Contents}
use Rattle.metric_views.specs.declared.config.Setup.{Setup}
use Rattle.metric_kit_commands.specs.Declarations.{IsDeclared, IsDeclaredFault}
use Rattle.metric_kit_commands.specs.declared.fault.KitFault.{KitFault}
use Rattle.wormweekly_commands.specs.Answers.{IsAnswer, IsUnknownReader}
use Rattle.wormweekly_commands.specs.Comparing.{RefusesPair}
use Rattle.wormweekly_commands.specs.Faults.{IsDeliveryFault}
use Rattle.wormweekly_commands.specs.PageReaders.{LacksReader, names_unknown}
use Rattle.wormweekly_commands.specs.Reporting.{HasParts, RefusesReport, RefusesWhole}
use Rattle.wormweekly_commands.specs.Runs.{RefusesFor}
use Rattle.wormweekly_commands.specs.declared.answer.Answer.{Answer}
use Rattle.wormweekly_commands.specs.declared.answer.Answer.TheVariants as answers
use Rattle.wormweekly_commands.specs.declared.fault.ConsoleFault.{ConsoleFault}
use Rattle.wormweekly_commands.specs.declared.fault.ConsoleFault.TheVariants as faults
use Rattle.wormweekly_commands.specs.declared.fault.PageFault.TheVariants.{NoReader}
use Rattle.wormweekly_commands.specs.declared.notes.Notes.{Notes}
use Rattle.wormweekly_commands.specs.declared.parts.Texts.{Texts}
use Rattle.wormweekly_commands.specs.declared.report.Report.{Report as FullReport}

pub pair_is_refused : (texts : Texts) (old : Parts) (fault : ConsoleFault) → texts.old ≡ Some old → RefusesPair old texts.parts fault → RefusesReport texts fault
pair_is_refused texts old (faults.Unread role cause) is refused = refused
pair_is_refused texts old (faults.Overwrites role) is refused = refused
pair_is_refused texts old (faults.Unwritten cause) is refused = tt
pair_is_refused texts old (faults.Page fault) is refused = absurd refused
pair_is_refused texts old (faults.Old fault) is refused = subst (λ (o : Option Parts). IsSomeAnd o (λ parts. IsDeclaredFault fault parts)) (sym is) refused
pair_is_refused texts old (faults.Kit fault) is refused = refused

pub declared_refused : (texts : Texts) (fault : KitFault) → IsDeclaredFault fault texts.parts → RefusesReport texts (faults.Kit fault)
declared_refused texts fault refused = inr refused

pub delivery_refuses : (texts : Texts) (fault : ConsoleFault) → IsDeliveryFault fault → RefusesReport texts fault
delivery_refuses texts (faults.Unread role cause) delivery = delivery
delivery_refuses texts (faults.Overwrites role) delivery = delivery
delivery_refuses texts (faults.Unwritten cause) delivery = tt
delivery_refuses texts (faults.Page fault) delivery = absurd delivery
delivery_refuses texts (faults.Old fault) delivery = absurd delivery
delivery_refuses texts (faults.Kit fault) delivery = inl delivery

-- a report is refused for that too
pub report_refuses_whole : (words : List (List ℕ)) (texts : Texts) (fault : ConsoleFault) → RefusesReport texts fault → RefusesWhole words texts fault
report_refuses_whole words texts (faults.Unread role cause) refused = refused
report_refuses_whole words texts (faults.Overwrites role) refused = refused
report_refuses_whole words texts (faults.Unwritten cause) refused = tt
report_refuses_whole words texts (faults.Page fault) refused = absurd refused
report_refuses_whole words texts (faults.Old fault) refused = refused
report_refuses_whole words texts (faults.Kit fault) refused = refused

pub delivery_refuses_whole : (words : List (List ℕ)) (texts : Texts) (fault : ConsoleFault) → IsDeliveryFault fault → RefusesWhole words texts fault
delivery_refuses_whole words texts fault delivery = report_refuses_whole words texts fault (delivery_refuses texts fault delivery)

-- a reader that words name is not there
lacking : (words : List (List ℕ)) (parts : Parts) (contents : Contents) (config : Setup) → IsDeclared parts contents config
    → names_unknown words config.readers ≡ true → LacksReader words parts NoReader
lacking words parts contents config declared lacks = record { contents = contents; config = config; declared = declared; lacks = lacks; says = refl }

pub lacking_refuses_whole : (request : Request) (texts : Texts) (report : FullReport) → HasParts request texts report
    → names_unknown request.concerns.outlets report.notes.declared.config.readers ≡ true
    → RefusesWhole request.concerns.outlets texts (faults.Page NoReader)
lacking_refuses_whole request texts report has lacks =
    lacking request.concerns.outlets texts.parts report.notes.declared.catalogue report.notes.declared.config has.notes.declared lacks

noted : (task : Task) (request : Request) (parts : Parts) (notes : Notes) → IsAnswer task request parts (answers.Notes notes)
    → IsDeclared parts notes.declared.catalogue notes.declared.config
noted Lint request parts notes is = is.declared
noted Show request parts notes is = absurd is
noted Make request parts notes is = absurd is
noted Check request parts notes is = absurd is
noted Headroom request parts notes is = absurd is
noted Replay request parts notes is = absurd is
noted Diff request parts notes is = absurd is
noted Report request parts notes is = absurd is
noted Expand request parts notes is = absurd is
noted Draw request parts notes is = absurd is
noted Queries request parts notes is = absurd is
noted Bind request parts notes is = absurd is

pub unknown_reader_refuses : (request : Request) (parts : Parts) (answer : Answer) (fault : ConsoleFault)
    → IsAnswer request.task request parts answer → IsUnknownReader request.concerns.outlets answer fault → RefusesFor request parts fault
unknown_reader_refuses request parts (answers.Certificate text) fault is unknown = absurd unknown
unknown_reader_refuses request parts answers.Accepted fault is unknown = absurd unknown
unknown_reader_refuses request parts (answers.Streams listing) fault is unknown = absurd unknown
unknown_reader_refuses request parts (answers.Rooms rooms) fault is unknown = absurd unknown
unknown_reader_refuses request parts (answers.Notes notes) fault is unknown =
    subst (λ (f : ConsoleFault). RefusesFor request parts f) (sym unknown.1)
    (lacking request.concerns.outlets parts notes.declared.catalogue notes.declared.config (noted request.task request parts notes is) unknown.0)
