-- The reader whose page is asked for.
use Rattle.std.specs.Prelude.{◌≡◌, ◌==◌, ◌&&◌, ℕ, Bool, true, not, List, [], ◌∷◌, Option, Some, None}
use Rattle.std.specs.Prelude.{Result, Ok, Err, filter, length}
use Rattle.std.specs.List.{after_first, list_any, position_from, range_with_len}
use Rattle.std.specs.Str.{bytes_eq}
use Rattle.metric_base.specs.Steps.{require_some}
use Rattle.metric_command_lines.specs.Attributes.{has_equals}
use Rattle.metric_contents.specs.declared.contents.Contents.{Contents}
use Rattle.metric_exposure.specs.declared.outlet.Outlet.TheVariants.{Prometheus}
use Rattle.metric_kit_commands.specs.Declarations.{IsDeclared}
use Rattle.metric_parts.specs.declared.parts.Parts.{Parts}
use Rattle.metric_views.specs.declared.config.Reader.{Reader}
use Rattle.metric_views.specs.declared.config.Setup.{Setup}
use Rattle.metric_views.specs.declared.stream.Stream.{Stream}
use Rattle.wormweekly_commands.specs.Exposures.{has_served}
use Rattle.wormweekly_commands.specs.declared.fault.PageFault.{PageFault}
use Rattle.wormweekly_commands.specs.declared.fault.PageFault.TheVariants.{NoReader, NoneServed, SeveralReaders}

-- the number of the reader of a name, where the first is of a number
abbrev pub reader_named : List ℕ → ℕ → List Reader → Result ℕ PageFault
reader_named name number readers = require_some
    (position_from (λ (reader : Reader). bytes_eq reader.name name) number readers) NoReader

-- the only one of these readers
abbrev pub only_reader : List ℕ → Result ℕ PageFault
only_reader [] = Err NoneServed
only_reader (reader ∷ []) = Ok reader
only_reader (reader ∷ other ∷ others) = Err SeveralReaders

-- the only one, where one more is found
abbrev pub with_served : Result ℕ PageFault → ℕ → Result ℕ PageFault
with_served (Err NoneServed) reader = Ok reader
with_served _ reader = Err SeveralReaders

-- # reader of a page (profile) [reader_asked, reader_named, only_reader]
-- The reader of the name that is given, or the only one of which a stream is no delta.
abbrev pub reader_asked : Option (List ℕ) → List Reader → List Stream → Result ℕ PageFault
reader_asked (Some name) readers streams = reader_named name 0 readers
reader_asked None readers streams =
    only_reader (filter (has_served Prometheus streams) (range_with_len 0 (length readers)))

-- there is a reader of the name
abbrev pub has_reader : List Reader → List ℕ → Bool
has_reader readers name = list_any (λ (reader : Reader). bytes_eq reader.name name) readers

-- a word for a way out names a reader behind `=` that is not there
abbrev pub is_unknown : List Reader → List ℕ → Bool
is_unknown readers word =
    has_equals word && not (has_reader readers (after_first (λ b. b == 61) word))

-- some word does
abbrev pub names_unknown : List (List ℕ) → List Reader → Bool
names_unknown words readers = list_any (is_unknown readers) words

-- Some word names a reader that the parts do not declare, which the fault says.
pub record LacksReader (words : List (List ℕ)) (parts : Parts) (fault : PageFault) : Type 0 where
  pub contents : Contents
  pub config : Setup
  pub declared : IsDeclared parts contents config
  pub lacks : names_unknown words config.readers ≡ true
  pub says : fault ≡ NoReader
