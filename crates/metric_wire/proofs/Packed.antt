-- How many bytes packed lists have, and what a block is whose bytes are counted before.
use Rattle.std.proofs.Common.{◌≡◌, ℕ, ℤ, ◌*◌, List, [], ◌∷◌, ◌++◌, refl, length, append_assoc, arith}
use Rattle.std.specs.List.{flat_map}
use Rattle.std.proofs.lemmas.List.{length-append}
use Rattle.metric_wire.specs.Wire.{block, double, doubles_block, mark, varint, word, words_block}

words_length : (numbers : List ℕ) → length (flat_map word numbers) ≡ length numbers * 8
unfolding word
words_length [] = refl
words_length (number ∷ numbers) =
    rw (length-append (word number) (flat_map word numbers), words_length numbers) (omega arith)

doubles_length : (numbers : List ℤ) → length (flat_map double numbers) ≡ length numbers * 8
unfolding double
doubles_length [] = refl
doubles_length (number ∷ numbers) =
    rw (length-append (double number) (flat_map double numbers), doubles_length numbers) (omega arith)

counted : (before bytes : List ℕ) (field count : ℕ) → length bytes ≡ count
    → ((before ++ mark field 2) ++ varint count) ++ bytes ≡ before ++ block field bytes
unfolding block
counted before bytes field count h =
    rw (
      h,
      append_assoc (before ++ mark field 2) (varint count) bytes,
      append_assoc before (mark field 2) (varint count ++ bytes),
    ) refl

pub words_counted : (before : List ℕ) (field : ℕ) (numbers : List ℕ)
    → ((before ++ mark field 2) ++ varint (length numbers * 8)) ++ flat_map word numbers
    ≡ before ++ words_block field numbers
unfolding words_block
words_counted before field numbers =
    counted before (flat_map word numbers) field (length numbers * 8) (words_length numbers)

pub doubles_counted : (before : List ℕ) (field : ℕ) (numbers : List ℤ)
    → ((before ++ mark field 2) ++ varint (length numbers * 8)) ++ flat_map double numbers
    ≡ before ++ doubles_block field numbers
unfolding doubles_block
doubles_counted before field numbers =
    counted before (flat_map double numbers) field (length numbers * 8) (doubles_length numbers)
