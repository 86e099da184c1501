-- Fields of messages. A field that is no choice of several, and not optional, is left out where its
-- value is the default: an empty text or list, or 0.
use Rattle.std.specs.Prelude.{ℕ, ℤ, ◌==◌, if◌then◌else◌, List, [], Option, Some, None, length}
use Rattle.metric_wire.specs.Wire.{double_field, doubles_block, varint_field}
use Rattle.metric_wire.specs.Wire.{word_field, words_block}

-- a number of an enum, or 1 for a flag that is set
unfoldable pub number_field : ℕ → ℕ → List ℕ
number_field field number = if number == 0 then [] else varint_field field number

-- a number of eight bytes
unfoldable pub fixed_field : ℕ → ℕ → List ℕ
fixed_field field number = if number == 0 then [] else word_field field number

-- an optional double
abbrev pub optional_double : ℕ → Option ℤ → List ℕ
optional_double field None = []
optional_double field (Some number) = double_field field number

-- a packed list of words, and one of doubles
unfoldable pub packed_words : ℕ → List ℕ → List ℕ
packed_words field numbers = if length numbers == 0 then [] else words_block field numbers

unfoldable pub packed_doubles : ℕ → List ℤ → List ℕ
packed_doubles field numbers = if length numbers == 0 then [] else doubles_block field numbers
