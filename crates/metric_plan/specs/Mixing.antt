-- How values are mixed into a fingerprint: FNV-1a of 64 bits, a step for each byte of a text and
-- for each number. Lengths and cases come first, so that no two lists run into one another.
use Rattle.std.specs.Prelude.{ℕ, ◌*◌, ◌%◌, ◌^◌, ℤ, pos, Bool, List, Option, Some, None, bit_xor}
use Rattle.std.specs.Prelude.{fold, if◌then◌else◌, int_lt, length, unsigned_abs}

unfoldable pub mixed : ℕ → ℕ → ℕ
mixed print number = (bit_xor print number * 0x100000001B3) % 2 ^ 64

abbrev pub mixed_flag : ℕ → Bool → ℕ
mixed_flag print flag = mixed print (if flag then 1 else 0)

-- whether a number is negative, and how far it is from 0
abbrev pub mixed_signed : ℕ → ℤ → ℕ
mixed_signed print number = mixed (mixed_flag print (int_lt number (pos 0))) (unsigned_abs number)

-- how many values there are, and each
abbrev pub mixed_list : {X : Type 0} → (ℕ → X → ℕ) → ℕ → List X → ℕ
mixed_list mix print xs = fold mix (mixed print (length xs)) xs

abbrev pub mixed_text : ℕ → List ℕ → ℕ
mixed_text print text = mixed_list mixed print text

-- whether there is a value, and the value
abbrev pub mixed_option : {X : Type 0} → (ℕ → X → ℕ) → ℕ → Option X → ℕ
mixed_option mix print None = mixed print 0
mixed_option mix print (Some x) = mix (mixed print 1) x
