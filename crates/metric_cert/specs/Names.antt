-- The names of criteria and of what bounds a stream.
use Rattle.std.specs.Prelude.{ℕ, if◌then◌else◌, List, Option, Some, None, Result, codes}
use Rattle.std.specs.Str.{bytes_eq}
use Rattle.toml.specs.Data.{Data}
use Rattle.metric_base.specs.Steps.{◌>>=◌, require_some}
use Rattle.metric_table.specs.Fields.{text_of}
use Rattle.metric_cert.specs.declared.fault.CertFault.{CertFault}
use Rattle.metric_cert.specs.declared.reason.Criterion.{Criterion}
use Rattle.metric_cert.specs.declared.reason.Criterion.TheVariants.{InstrumentType, InstrumentUnit}
use Rattle.metric_cert.specs.declared.reason.Criterion.TheVariants.{MeterName, MeterVersion}
use Rattle.metric_cert.specs.declared.reason.Criterion.TheVariants.{MeterSchemaUrl}
use Rattle.metric_cert.specs.declared.stream.BoundWord.{BoundWord}
use Rattle.metric_cert.specs.declared.stream.BoundWord.TheVariants as words
use Rattle.metric_cert.specs.declared.stream.By.{By}
use Rattle.metric_cert.specs.declared.stream.By.TheVariants as by
use Rattle.metric_cert.specs.Places.{misshapen}
use Rattle.metric_cert.specs.Reading.{shape_faults}

abbrev pub criterion_name : Criterion → List ℕ
criterion_name InstrumentType = codes "instrument_type"
criterion_name InstrumentUnit = codes "instrument_unit"
criterion_name MeterName = codes "meter_name"
criterion_name MeterVersion = codes "meter_version"
criterion_name MeterSchemaUrl = codes "meter_schema_url"

abbrev pub criterion_named : List ℕ → Option Criterion
criterion_named text =
    if bytes_eq text (codes "instrument_type") then Some InstrumentType
    else if bytes_eq text (codes "instrument_unit") then Some InstrumentUnit
    else if bytes_eq text (codes "meter_name") then Some MeterName
    else if bytes_eq text (codes "meter_version") then Some MeterVersion
    else if bytes_eq text (codes "meter_schema_url") then Some MeterSchemaUrl
    else None

unfoldable pub criterion_of : Data → Result Criterion CertFault
criterion_of d = do
  text ← text_of shape_faults d
  require_some (criterion_named text) misshapen

abbrev pub word_name : BoundWord → List ℕ
word_name words.Product = codes "product"
word_name words.List = codes "list"
word_name words.Budget = codes "budget"

abbrev pub word_named : List ℕ → Option BoundWord
word_named text =
    if bytes_eq text (codes "product") then Some words.Product
    else if bytes_eq text (codes "list") then Some words.List
    else if bytes_eq text (codes "budget") then Some words.Budget
    else None

unfoldable pub word_of : Data → Result BoundWord CertFault
word_of d = do
  text ← text_of shape_faults d
  require_some (word_named text) misshapen

-- the word for what bounds a stream
abbrev pub word_for : By → BoundWord
word_for by.Product = words.Product
word_for (by.List list) = words.List
word_for by.Budget = words.Budget

-- the name in files
abbrev pub by_name : By → List ℕ
by_name by = word_name (word_for by)
