-- What a config is warned of.
use Rattle.std.specs.Prelude.{List, ◌++◌}
use Rattle.metric_contents.specs.declared.contents.Contents.{Contents}
use Rattle.metric_views.specs.declared.config.Config.{Config}
use Rattle.metric_views.specs.declared.stream.Stream.{Stream}
use Rattle.metric_resolve.specs.declared.warning.Warning.{Warning}
use Rattle.metric_resolve.specs.Resolved.{streams_of}
use Rattle.metric_resolve.specs.Unfit.{unfit_of}
use Rattle.metric_resolve.specs.Collisions.{collisions_of}

-- # warnings (profile)
-- The unfit pairs by view and instrument, then the collisions by the later stream.
abbrev pub warnings_of : Contents → Config → List Warning
warnings_of contents config =
    unfit_of contents config ++ collisions_of contents (streams_of contents config)

-- what a catalogue and a config give
pub record Resolved : Type 0 where
  pub list : List Stream
  pub warnings : List Warning
