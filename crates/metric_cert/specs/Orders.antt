-- What the table of a reader's order is read as.
use Rattle.std.specs.Prelude.{◌^◌, [], ◌∷◌, Result, Ok, codes}
use Rattle.toml.specs.Data.{Members}
use Rattle.metric_base.specs.Steps.{◌>>=◌}
use Rattle.metric_table.specs.Fields.{only}
use Rattle.metric_cert.specs.declared.fault.CertFault.{CertFault}
use Rattle.metric_cert.specs.declared.order.ReaderOrder.{ReaderOrder}
use Rattle.metric_cert.specs.Reading.{list_of, needed, shape_faults, whole_of}

unfoldable pub order_of : Members → Result ReaderOrder CertFault
order_of table = do
  _ ← only shape_faults (codes "reader" ∷ codes "streams" ∷ []) table
  reader ← needed (whole_of (2 ^ 32)) (codes "reader") table
  streams ← needed (list_of (whole_of (2 ^ 32))) (codes "streams") table
  Ok (record { reader = reader; streams = streams })
