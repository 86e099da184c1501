-- What the table of a reason is read as.
use Rattle.std.specs.Prelude.{ℕ, ◌^◌, List, [], ◌∷◌, Option, Some, None, Result, Ok, codes}
use Rattle.toml.specs.Data.{Data, Members}
use Rattle.metric_base.specs.Steps.{◌>>=◌, require_some}
use Rattle.metric_glob.specs.declared.reason.Reason.TheVariants.{Takes, Rows}
use Rattle.metric_table.specs.Fields.{only}
use Rattle.metric_cert.specs.declared.fault.CertFault.{CertFault}
use Rattle.metric_cert.specs.declared.reason.Criterion.{Criterion}
use Rattle.metric_cert.specs.declared.reason.Evidence.{Evidence}
use Rattle.metric_cert.specs.declared.reason.Evidence.TheVariants.{Name, Miss}
use Rattle.metric_cert.specs.declared.reason.SelectionReason.{SelectionReason}
use Rattle.metric_cert.specs.Names.{criterion_of}
use Rattle.metric_cert.specs.Places.{misshapen}
use Rattle.metric_cert.specs.Reading.{list_of, needed, optional, shape_faults, whole_of}
use Rattle.metric_cert.specs.Writing.{Puts}

abbrev pub reason_fields : List (List ℕ)
reason_fields = codes "view" ∷ codes "instrument" ∷ codes "takes" ∷ codes "rows" ∷ codes "miss" ∷ []

-- how many characters each `*` takes
abbrev pub takes_of : Data → Result (List ℕ) CertFault
takes_of = list_of (whole_of (2 ^ 16))

-- rows of pattern places
abbrev pub rows_of : Data → Result (List (List ℕ)) CertFault
rows_of = list_of (list_of (whole_of (2 ^ 16)))

-- exactly one of the three
abbrev pub one_of : Option (List ℕ) → Option (List (List ℕ)) → Option Criterion → Option Evidence
one_of (Some takes) None None = Some (Name (Takes takes))
one_of None (Some rows) None = Some (Name (Rows rows))
one_of None None (Some criterion) = Some (Miss criterion)
one_of _ _ _ = None

unfoldable pub evidence_of : Members → Result Evidence CertFault
evidence_of table = do
  takes ← optional takes_of (codes "takes") table
  rows ← optional rows_of (codes "rows") table
  miss ← optional criterion_of (codes "miss") table
  require_some (one_of takes rows miss) misshapen

unfoldable pub reason_of : Members → Result SelectionReason CertFault
reason_of table = do
  _ ← only shape_faults reason_fields table
  view ← needed (whole_of (2 ^ 32)) (codes "view") table
  instrument ← needed (whole_of (2 ^ 32)) (codes "instrument") table
  evidence ← evidence_of table
  Ok (record { view = view; instrument = instrument; evidence = evidence })

-- The field of an evidence was put into a table.
abbrev pub PutsEvidence : Evidence → Members → Members → Type 0
PutsEvidence (Name (Takes takes)) before after = Puts takes_of 1 (codes "takes") takes before after
PutsEvidence (Name (Rows rows)) before after = Puts rows_of 2 (codes "rows") rows before after
PutsEvidence (Miss criterion) before after =
    Puts criterion_of 0 (codes "miss") criterion before after
