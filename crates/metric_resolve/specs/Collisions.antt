-- Streams of one identity.
use Rattle.std.specs.Prelude.{ℕ, Bool, false, ◌&&◌, ◌==◌, List, length, take, Option, Some, None}
use Rattle.std.specs.Prelude.{slice_get, option_and_then}
use Rattle.std.specs.List.{filter_map, position_from, range_with_len}
use Rattle.std.specs.Option.{option_map}
use Rattle.std.specs.Str.{bytes_eq}
use Rattle.metric_names.specs.Names.{folded}
use Rattle.metric_contents.specs.declared.contents.Contents.{Contents}
use Rattle.metric_contents.specs.declared.contents.Meter.{Meter}
use Rattle.metric_views.specs.declared.stream.Stream.{Stream}
use Rattle.metric_resolve.specs.declared.warning.Warning.{Warning}
use Rattle.metric_resolve.specs.declared.warning.Warning.TheVariants as warnings
use Rattle.metric_resolve.specs.Applying.{meter_at}

-- What tells streams apart: the reader, the instrumentation scope and the name without ASCII case
-- (Metrics data model, identity).
pub record Identity : Type 0 where
  pub reader : ℕ
  pub meter : List ℕ
  pub version : List ℕ
  pub schema_url : List ℕ
  pub name : List ℕ

-- the identity of a stream of a meter
abbrev pub identity_with : Stream → Meter → Identity
identity_with stream meter =
    record {
      reader = stream.reader;
      meter = meter.name;
      version = meter.version;
      schema_url = meter.schema_url;
      name = folded stream.name;
    }

-- # identity (data model, identity; API, instrument name)
-- Reader, meter name, version and schema URL, and the stream's name folded to ASCII lower case.
unfoldable pub identity_of : Contents → Stream → Option Identity
identity_of contents stream =
    option_map (identity_with stream) (meter_at contents stream.instrument)

-- two identities are equal
abbrev pub is_same : Identity → Identity → Bool
is_same x y =
    x.reader == y.reader && (bytes_eq x.meter y.meter && (bytes_eq x.version y.version
    && (bytes_eq x.schema_url y.schema_url && bytes_eq x.name y.name)))

abbrev pub is_identity : Identity → Option Identity → Bool
is_identity x (Some y) = is_same x y
is_identity x None = false

-- the place of the first stream of an identity
unfoldable pub first_of : Contents → List Stream → Identity → Option ℕ
first_of contents streams identity =
    position_from (λ stream. is_identity identity (identity_of contents stream)) 0 streams

-- what is warned of the stream of a number: the first stream before it of
-- its identity, where there is one
unfoldable pub collision_at : Contents → List Stream → ℕ → Option Warning
collision_at contents streams b =
    option_map (λ a. warnings.Collision a b)
    (option_and_then (first_of contents (take b streams))
    (option_and_then (identity_of contents) (slice_get streams b)))

-- # collision (profile)
-- A stream with an earlier one of its identity, of which the first is named.
unfoldable pub collisions_of : Contents → List Stream → List Warning
collisions_of contents streams =
    filter_map (collision_at contents streams) (range_with_len 0 (length streams))
