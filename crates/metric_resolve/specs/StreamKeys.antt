-- What tells the streams of one catalogue apart, and its order.
use Rattle.std.specs.Prelude.{◌≡◌, Option, Some, slice_get}
use Rattle.std.specs.Cmp.{IsTotalOrder}
use Rattle.std.specs.Cmp.Lexicographic.{slice_cmp}
use Rattle.std.specs.Option.{option_map}
use Rattle.std.specs.Ordering.{nat_cmp, on, then_cmp}
use Rattle.std.specs.declared.cmp.Ordering.{Ordering}
use Rattle.std.proofs.lemmas.Cmp.{nat_cmp_total, nat_list_cmp_total, on_total, then_total}
use Rattle.metric_names.specs.Names.{folded}
use Rattle.metric_contents.specs.declared.contents.Contents.{Contents}
use Rattle.metric_contents.specs.declared.contents.Meter.{Meter}
use Rattle.metric_views.specs.declared.stream.Stream.{Stream}
use Rattle.metric_resolve.specs.declared.stream_key.StreamKey.{StreamKey}
use Rattle.metric_resolve.specs.Collisions.{Identity, identity_of}

-- by reader, meter and name, which is compared without ASCII case
abbrev pub key_order : StreamKey → StreamKey → Ordering
key_order =
    then_cmp (on (λ k. k.reader) nat_cmp)
    (then_cmp (on (λ k. k.meter) nat_cmp) (on (λ k. folded k.name) (slice_cmp nat_cmp)))

pub key_order_total : IsTotalOrder key_order
key_order_total =
    then_total (on_total (λ k. k.reader) nat_cmp_total) (then_total
    (on_total (λ k. k.meter) nat_cmp_total) (on_total (λ k. folded k.name) nat_list_cmp_total))

-- the identity of the streams of a key whose meter is this one
abbrev pub key_identity : StreamKey → Meter → Identity
key_identity key meter =
    record {
      reader = key.reader;
      meter = meter.name;
      version = meter.version;
      schema_url = meter.schema_url;
      name = folded key.name;
    }

-- the identity of the streams of a key
abbrev pub identity_by : Contents → StreamKey → Option Identity
identity_by contents key = option_map (key_identity key) (slice_get contents.meters key.meter)

-- The key and the stream have one identity.
pub record IsKeyOf (contents : Contents) (stream : Stream) (key : StreamKey) : Type 0 where
  pub identity : Identity
  pub of_key : identity_by contents key ≡ Some identity
  pub of_stream : identity_of contents stream ≡ Some identity
