-- The lines of an input, cut into its parts.
use Rattle.std.specs.Prelude.{option_map}
use Rattle.metric_parts.specs.declared.pieces.Pieces.{Pieces}
use Rattle.metric_parts.specs.Input.{Contents}
use Rattle.metric_parts.specs.Reading.{texts}

-- the lines of its parts
abbrev pub contents_of : Pieces → Contents
contents_of s = record {
  catalogue = texts s.catalogue.now;
  config = texts s.config.now;
  certificate = option_map (λ part. texts part.now) s.certificate;
  script = option_map (λ part. texts part.now) s.script;
}
