-- What a series key is hashed as.
use Rattle.std.specs.Prelude.{◌≡◌, ℕ, ◌*◌, ◌%◌, ◌^◌, List, bit_or, slice_index, IsTrue}
use Rattle.std.proofs.Common.{ap}
use Rattle.std.specs.Hash as fed
use Rattle.std.specs.Str.{bytes_eq}
use Rattle.metric_history.specs.SeriesLaws.{same_key}

-- four entries as one number, the first the lowest
abbrev pub word_of : ℕ → ℕ → ℕ → ℕ → ℕ
word_of first second third fourth =
    let high = bit_or ((fourth * 2 ^ 48) % 2 ^ 64) ((third * 2 ^ 32) % 2 ^ 64) in
    bit_or (bit_or high ((second * 2 ^ 16) % 2 ^ 64)) first

-- the eight entries as one number, the first the lowest
abbrev pub number_of : List ℕ → ℕ
number_of set =
    let entry = slice_index set in
    let high = word_of (entry 4) (entry 5) (entry 6) (entry 7) in
    bit_or ((high * 2 ^ 64) % 2 ^ 128) (word_of (entry 0) (entry 1) (entry 2) (entry 3))

abbrev pub hash_input_of : List ℕ → List (List ℕ)
hash_input_of set = fed.u128 (number_of set)

pub hash_input_respects_eq : (x y : List ℕ) → IsTrue (bytes_eq x y)
    → hash_input_of x ≡ hash_input_of y
hash_input_respects_eq x y e = ap hash_input_of (same_key x y e)
