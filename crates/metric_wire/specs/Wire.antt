-- How fields are written in protocol buffers.
use Rattle.std.specs.Prelude.{ℕ, zero, suc, ℤ, ◌+◌, ◌*◌, ◌/◌, ◌%◌, nat_lt, if◌then◌else◌}
use Rattle.std.specs.Prelude.{List, [], ◌∷◌, ◌++◌, length, to_bits}
use Rattle.std.specs.Float.{binary64}
use Rattle.std.specs.Float.Ieee.{of_int}
use Rattle.std.specs.Int.{w64, cast_unsigned, to_le_bytes}
use Rattle.std.specs.List.{flat_map}

-- a number in base 128, the least digit first, with 128 added to each digit but the last: in at
-- most one digit more than the first number says
unfoldable pub base_128 : ℕ → ℕ → List ℕ
base_128 zero number = number ∷ []
base_128 (suc more) number =
    if nat_lt number 128 then number ∷ []
    else (128 + number % 128) ∷ base_128 more (number / 128)

-- # varint (protobuf, encoding)
-- A number in base 128, the least digit first, with 128 added to each digit but the last.
unfoldable pub varint : ℕ → List ℕ
varint number = base_128 9 number

-- the mark of a field: its number, and in three bits how its value is written
unfoldable pub mark : ℕ → ℕ → List ℕ
mark field form = varint (field * 8 + form)

-- # field (protobuf, encoding) [varint_field, word_field, signed_field, double_field, block,
-- words_block, doubles_block]
-- A mark, which has the field's number and how its value is written, and the value: a varint, eight
-- bytes, or a block.
unfoldable pub varint_field : ℕ → ℕ → List ℕ
varint_field field number = mark field 0 ++ varint number

-- the eight bytes of a number, the least first
unfoldable pub word : ℕ → List ℕ
word number = to_le_bytes w64 number

-- # double of a whole number (IEEE 754)
-- The eight bytes of the double nearest to it, ties to even.
unfoldable pub double : ℤ → List ℕ
double number = to_le_bytes w64 (to_bits binary64 (of_int binary64 number))

-- a field of eight bytes
unfoldable pub word_field : ℕ → ℕ → List ℕ
word_field field number = mark field 1 ++ word number

-- the same for a number that may be negative, in two's complement
unfoldable pub signed_field : ℕ → ℤ → List ℕ
signed_field field number = mark field 1 ++ word (cast_unsigned w64 number)

-- the same for a double
unfoldable pub double_field : ℕ → ℤ → List ℕ
double_field field number = mark field 1 ++ double number

-- how a field begins that is a block of so many bytes
unfoldable pub block_head : ℕ → ℕ → List ℕ
block_head field count = mark field 2 ++ varint count

-- a field that is a block of bytes: how many there are, and the bytes
unfoldable pub block : ℕ → List ℕ → List ℕ
block field bytes = mark field 2 ++ (varint (length bytes) ++ bytes)

-- a block of words, and one of doubles
unfoldable pub words_block : ℕ → List ℕ → List ℕ
words_block field numbers = block field (flat_map word numbers)

unfoldable pub doubles_block : ℕ → List ℤ → List ℕ
doubles_block field numbers = block field (flat_map double numbers)
