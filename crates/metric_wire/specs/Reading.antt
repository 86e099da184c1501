-- What varints and blocks are read as, with what follows them. Nothing where the bytes are none.
use Rattle.std.specs.Prelude.{◌≡◌, ℕ, ◌+◌, ◌-◌, ◌*◌, ◌/◌, ◌%◌, ◌^◌, ◌<◌, ◌==◌, nat_le, nat_lt, if◌then◌else◌}
use Rattle.std.specs.Prelude.{List, [], ◌∷◌, ◌++◌, Option, Some, None, option_and_then, length, take, drop}
use Rattle.std.specs.Option.{option_map}
use Rattle.metric_wire.specs.Wire.{block, varint}

-- a digit of 128 or more says that another one follows
unfoldable pub varint_in : List ℕ → Option (ℕ × List ℕ)
varint_in [] = None
varint_in (digit ∷ bytes) =
    if nat_lt digit 128 then Some (digit, bytes)
    else option_map (λ more. (digit - 128 + 128 * more.0, more.1)) (varint_in bytes)

-- so many bytes, where there are as many
abbrev pub taken : ℕ → List ℕ → Option (List ℕ × List ℕ)
taken count bytes =
    if nat_le count (length bytes) then Some (take count bytes, drop count bytes) else None

-- the bytes after a number that says how many there are
abbrev pub counted_in : List ℕ → Option (List ℕ × List ℕ)
counted_in bytes = option_and_then (λ count. taken count.0 count.1) (varint_in bytes)

-- the number of a field, where it is a block, and its bytes
unfoldable pub block_in : List ℕ → Option (ℕ × List ℕ × List ℕ)
block_in bytes =
    option_and_then (λ mark. if mark.0 % 8 == 2
    then option_map (λ found. (mark.0 / 8, found.0, found.1)) (counted_in mark.1)
    else None) (varint_in bytes)

-- # what is read back (profile) [VarintsReadBack, BlocksReadBack]
-- A varint and a block are read as what was written, whatever follows.
abbrev pub VarintsReadBack : Type 0
VarintsReadBack = (number : ℕ) (rest : List ℕ)
    → number < 2 ^ 64 → varint_in (varint number ++ rest) ≡ Some (number, rest)

-- a block is read as its field and its bytes, whatever follows
abbrev pub BlocksReadBack : Type 0
BlocksReadBack = (field : ℕ) (bytes rest : List ℕ)
    → field < 2 ^ 32 → length bytes < 2 ^ 64
    → block_in (block field bytes ++ rest) ≡ Some (field, bytes, rest)
