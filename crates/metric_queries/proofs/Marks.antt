-- The texts of boundaries are ASCII.
use Rattle.std.proofs.Common.{◌≡◌, ℕ, zero, suc, ◌+◌, ◌-◌, ◌^◌, ◌<◌, ◌≤◌, Bool, true, false, cond, ltb, List, [], ◌∷◌, ◌++◌, codes, length, take, get_or, refl, arith}
use Rattle.std.specs.Prelude.{ℤ, pos, negsuc}
use Rattle.std.specs.Int.Signed.{mag}
use Rattle.std.specs.Fmt.{decimal}
use Rattle.std.specs.List.{concat}
use Rattle.std.specs.Str.{IsAscii, IsUtf8}
use Rattle.std.proofs.lemmas.Fmt.{IsAscii-decimal, length-decimal-le_succ}
use Rattle.std.proofs.lemmas.Str.{IsAscii-append, IsAscii-take, IsUtf8-from_ascii}
use Rattle.metric_exposition.specs.Boundaries.{exponent, le_text, pointed, significant, spelled}

none : IsAscii []
none i = omega arith

more : (c : ℕ) (text : List ℕ) → c < 128 → IsAscii text → IsAscii (c ∷ text)
more c text small ascii zero = small
more c text small ascii (suc i) = ascii i

ascii_pointed : (digits : List ℕ) → IsAscii digits → IsAscii (pointed digits)
ascii_pointed [] ascii = ascii
ascii_pointed (d ∷ []) ascii = ascii
ascii_pointed (d ∷ e ∷ digits) ascii =
    more d (46 ∷ e ∷ digits) (ascii 0) (more 46 (e ∷ digits) (omega arith) (λ i. ascii (suc i)))

ascii_exponent : (n : ℕ) → n < 2 ^ 64 → IsAscii (exponent n)
ascii_exponent n fits = by (ltb n 10)
  where
    by : (b : Bool) → IsAscii (cond b (48 ∷ decimal n) (decimal n))
    by true = more 48 (decimal n) (omega arith) (IsAscii-decimal n fits)
    by false = IsAscii-decimal n fits

ascii_significant : (digits : List ℕ) → IsAscii digits → IsAscii (significant digits)
unfolding significant
ascii_significant digits ascii = IsAscii-take digits _ ascii

ascii_spelled : (digits : List ℕ) → length digits ≤ 2 ^ 64 → IsAscii digits → IsAscii (spelled digits)
unfolding spelled
ascii_spelled digits long ascii = by (ltb (length digits) 7)
  where
    short : IsAscii (digits ++ codes ".0")
    short = IsAscii-append digits (codes ".0") ascii (more 46 (48 ∷ []) (omega arith) (more 48 [] (omega arith) none))

    power : IsAscii (exponent (length digits - 1) ++ [])
    power = IsAscii-append (exponent (length digits - 1)) [] (ascii_exponent (length digits - 1) (omega arith)) none

    wide : IsAscii (pointed (significant digits) ++ (codes "e+" ++ (exponent (length digits - 1) ++ [])))
    wide =
        IsAscii-append (pointed (significant digits)) (codes "e+" ++ (exponent (length digits - 1) ++ []))
        (ascii_pointed (significant digits) (ascii_significant digits ascii))
        (more 101 (43 ∷ (exponent (length digits - 1) ++ [])) (omega arith) (more 43 (exponent (length digits - 1) ++ []) (omega arith) power))

    by : (b : Bool) → IsAscii (cond b (digits ++ codes ".0") (concat (pointed (significant digits) ∷ codes "e+" ∷ exponent (length digits - 1) ∷ [])))
    by true = short
    by false = wide

ascii_decimal : (n : ℕ) → n < 2 ^ 64 → IsAscii (spelled (decimal n))
ascii_decimal n fits = ascii_spelled (decimal n) (omega (arith, length-decimal-le_succ n fits)) (IsAscii-decimal n fits)

pub utf8_mark : (boundary : ℤ) → mag boundary < 2 ^ 63 → IsUtf8 (le_text boundary)
utf8_mark (pos n) fits = IsUtf8-from_ascii (spelled (decimal n)) (ascii_decimal n (omega arith))
utf8_mark (negsuc n) fits =
    let digits = spelled (decimal (suc n)) in
    IsUtf8-from_ascii (45 ∷ digits) (more 45 digits (omega arith) (ascii_decimal (suc n) (omega arith)))
