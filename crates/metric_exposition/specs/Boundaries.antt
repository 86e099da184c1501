-- How a boundary is written: as the double of its value is, with as few digits as tell it.
use Rattle.std.specs.Prelude.{ℕ, ℤ, pos, negsuc, suc, ◌-◌, ◌==◌, nat_lt, if◌then◌else◌}
use Rattle.std.specs.Prelude.{List, [], ◌∷◌, ◌++◌, codes, length, take}
use Rattle.std.specs.Fmt.{decimal}
use Rattle.std.specs.List.{concat, suffix_len}

-- digits without the zeros at their end
unfoldable pub significant : List ℕ → List ℕ
significant digits = take (length digits - suffix_len (λ d. d == 48) digits) digits

-- digits with a point after the first, where there are more
abbrev pub pointed : List ℕ → List ℕ
pointed [] = []
pointed (d ∷ []) = d ∷ []
pointed (d ∷ e ∷ digits) = d ∷ 46 ∷ e ∷ digits

-- an exponent, in two digits at least
abbrev pub exponent : ℕ → List ℕ
exponent n = if nat_lt n 10 then 48 ∷ decimal n else decimal n

-- a whole number of up to six digits has `.0` behind them, a greater one an exponent
unfoldable pub spelled : List ℕ → List ℕ
spelled digits =
    if nat_lt (length digits) 7 then digits ++ codes ".0"
    else concat (pointed (significant digits) ∷ codes "e+" ∷ exponent (length digits - 1) ∷ [])

-- # boundary as it is written (Prometheus)
-- The digits of a whole number as its double is written.
abbrev pub le_text : ℤ → List ℕ
le_text (pos n) = spelled (decimal n)
le_text (negsuc n) = codes "-" ++ spelled (decimal (suc n))
