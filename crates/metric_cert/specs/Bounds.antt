-- What the table of an instrument's bounds is read as.
use Rattle.std.specs.Prelude.{ℕ, ◌^◌, List, [], ◌∷◌, Result, Ok, codes}
use Rattle.toml.specs.Data.{Members}
use Rattle.metric_base.specs.Steps.{◌>>=◌}
use Rattle.metric_table.specs.Fields.{only}
use Rattle.metric_cert.specs.declared.bound.InstrumentBound.{InstrumentBound}
use Rattle.metric_cert.specs.declared.fault.CertFault.{CertFault}
use Rattle.metric_cert.specs.Reading.{decimal_of, needed, shape_faults, signed_decimal_of, whole_of}

abbrev pub bound_fields : List (List ℕ)
bound_fields = codes "instrument" ∷ codes "total" ∷ codes "amount" ∷ codes "low" ∷ codes "high" ∷ []

unfoldable pub bound_of : Members → Result InstrumentBound CertFault
bound_of table = do
  _ ← only shape_faults bound_fields table
  instrument ← needed (whole_of (2 ^ 32)) (codes "instrument") table
  total ← needed decimal_of (codes "total") table
  amount ← needed decimal_of (codes "amount") table
  low ← needed signed_decimal_of (codes "low") table
  high ← needed signed_decimal_of (codes "high") table
  Ok (record { instrument = instrument; total = total; amount = amount; low = low; high = high })
