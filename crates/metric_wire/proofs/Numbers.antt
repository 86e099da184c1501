-- A whole number as a double is a number.
use Rattle.std.proofs.Common.{ℕ, ◌+◌, ◌*◌, ◌^◌, suc, ℤ, pos, negsuc, Bool, true, false, cond, ltb}
use Rattle.std.specs.Float.{Float, NotNan}
use lib.Ieee.{Format, nan, inf, fin, is_nan, odd, units, round, of_int, prec, emax, low}
use lib.Ieee.Exact.{HasValue, odd_sign}
use lib.Ieee.Fits.{round_is}

has_value : (x : Float) (s : Bool) (a c : ℕ) → HasValue x s a c → NotNan x
unfolding is_nan
has_value nan s a c h = absurd h
has_value (inf t) s a c h = absurd h
has_value (fin t m e) s a c h = tt

either : (b : Bool) (s : Bool) (x : Float) → NotNan x → NotNan (cond b x (inf s))
unfolding is_nan
either true s x h = h
either false s x h = tt

units_number : (f : Format) (s : Bool) (q k : ℕ) → NotNan (units f s q k)
unfolding units
units_number f s q k =
    either (ltb (q * 2 ^ k) (2 ^ (low f + suc (emax f)))) s (odd (suc (prec f)) s q k (low f))
    (has_value _ s (q * 2 ^ k) (2 ^ low f) (odd_sign (suc (prec f)) s q k (low f)))

round_number : (f : Format) (s : Bool) (num den : ℕ) → NotNan (round f s num den)
round_number f s num den = rw (round_is f s num den) (units_number f s _ _)

pub whole_number : (f : Format) (z : ℤ) → NotNan (of_int f z)
unfolding of_int
whole_number f (pos n) = round_number f false n 1
whole_number f (negsuc n) = round_number f true (suc n) 1
