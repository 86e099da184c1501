-- The certificate that a text is read as, or the fault.
use Rattle.std.specs.Prelude.{ℕ, ◌^◌, if◌then◌else◌, List, [], ◌∷◌, Result, Ok, Err, codes}
use Rattle.toml.specs.Data.{Members}
use Rattle.toml.specs.Parse.{parse_document}
use Rattle.metric_base.specs.Steps.{◌>>=◌, require_some}
use Rattle.metric_table.specs.Fields.{only}
use Rattle.metric_cert.specs.declared.claims.Claims.{Claims}
use Rattle.metric_cert.specs.declared.fault.CertFault.{CertFault}
use Rattle.metric_cert.specs.declared.fault.CertFault.TheVariants.{NotToml}
use Rattle.metric_cert.specs.declared.fault.CertList.TheVariants as lists
use Rattle.metric_cert.specs.Bounds.{bound_of}
use Rattle.metric_cert.specs.Formats.{is_formatted}
use Rattle.metric_cert.specs.Orders.{order_of}
use Rattle.metric_cert.specs.Places.{list_name, misshapen}
use Rattle.metric_cert.specs.Reading.{entries_as, needed, shape_faults, whole_of}
use Rattle.metric_cert.specs.Reasons.{reason_of}
use Rattle.metric_cert.specs.Streams.{stream_of}

abbrev pub certificate_fields : List (List ℕ)
certificate_fields =
    codes "format" ∷ codes "reason" ∷ codes "stream" ∷ codes "bound" ∷ codes "order" ∷ []

-- what the fields say
unfoldable pub claims_of : Members → Result Claims CertFault
claims_of table = do
  format ← needed (whole_of (2 ^ 16)) (codes "format") table
  reasons ← needed (entries_as lists.Reason reason_of) (list_name lists.Reason) table
  streams ← needed (entries_as lists.Stream stream_of) (list_name lists.Stream) table
  bounds ← needed (entries_as lists.Bound bound_of) (list_name lists.Bound) table
  orders ← needed (entries_as lists.Order order_of) (list_name lists.Order) table
  Ok (record {
    format = format;
    reasons = reasons;
    streams = streams;
    bounds = bounds;
    orders = orders;
  })

-- claims of a format that there is
abbrev pub formatted : Claims → Result Claims CertFault
formatted claims = if is_formatted claims then Ok claims else Err misshapen

-- what the certificate of a table says, which has exactly these fields
unfoldable pub certificate_of : Members → Result Claims CertFault
certificate_of table = do
  _ ← only shape_faults certificate_fields table
  claims ← claims_of table
  formatted claims

-- # certificate of a text (profile)
-- What the table that `toml` reads says, or that it is none; or the first table whose shape is wrong.
abbrev pub certificate_from : List ℕ → Result Claims CertFault
certificate_from text = do
  table ← require_some (parse_document text) NotToml
  certificate_of table
