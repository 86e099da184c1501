-- What lists of combinations change of the bounds of streams.
use Rattle.std.specs.Prelude.{◌≤◌, Contains}
use Rattle.metric_catalogue.specs.Sound.{IsSound}
use Rattle.metric_contents.specs.declared.contents.Contents.{Contents}
use Rattle.metric_views.specs.declared.config.Config.{Config}
use Rattle.metric_views.specs.declared.stream.Stream.{Stream}
use Rattle.metric_resolve.specs.Resolved.{streams_of}
use Rattle.metric_bounds.specs.Sets.{product_of, sets_of}

-- A stream sees no more sets where its instrument lists combinations than where it does not.
abbrev pub ListsTakeAway : Type 0
ListsTakeAway =
    (contents : Contents) (config : Config) (stream : Stream) → IsSound contents
    → Contains (streams_of contents config) stream
    → sets_of contents stream ≤ product_of contents stream
