-- At how many recordings the numbers of an instrument stay within 64 bits.
use Rattle.std.proofs.Common.{◌≡◌, ℕ, ◌-◌, ◌*◌, ◌/◌, ◌^◌, ◌<◌, ◌≤◌, ℤ, pos, negsuc, neg_ℤ, ◌*ℤ◌, ◌-ℤ◌, ◌≤ℤ◌, ◌<ℤ◌, Bool, true, false, cond, IsTrue, not, Option, Some, None, IfSome, refl, sym, ap, subst, ◌∙◌, arith}
use Rattle.std.specs.Prelude.{◌==◌, FitsSigned, nat_lt, unsigned_abs}
use Rattle.std.specs.Int.{w64, int_min, int_max}
use Rattle.std.proofs.lemmas.Bool.Decides.{nat_tests}
use Rattle.std.proofs.lemmas.Int.{ints, clamps}
use Rattle.std.proofs.Math.Nat.{le-div_iff_mul-le}
use Rattle.metric_bounds.specs.Amounts.{amount_with, low_with, high_with}
use Rattle.metric_contents.specs.declared.contents.Instrument.{Instrument}
use Rattle.metric_contents.specs.Kinds.{is_gauge}
use Rattle.metric_contents.specs.Most.{above, apart_total, below, lesser, most_within, safe_total}
use Rattle.metric_bounds.specs.Safe.{AmountsFit, HighFits, IsSafeInstrument, LowFits}

-- the amount of values of a range
amount_is : (t w : ℕ) (lo hi : ℤ) → hi -ℤ lo ≡ pos w → amount_with t lo hi ≡ pos (t * w)
amount_is t w lo hi wide = ap (λ (z : ℤ). pos t *ℤ z) wide

pub width_is : (lo hi : ℤ) → lo ≤ℤ hi → hi -ℤ lo ≡ pos (unsigned_abs (hi -ℤ lo))
width_is lo hi ordered = by (hi -ℤ lo) (omega (arith, ints, ordered))
  where
    by : (z : ℤ) → pos 0 ≤ℤ z → z ≡ pos (unsigned_abs z)
    by (pos n) up = refl
    by (negsuc n) up = absurd (omega (arith, ints, up))

pub amount_fits : (t w : ℕ) (i : Instrument) → i.hi -ℤ i.lo ≡ pos w → t * w ≤ 2 ^ 64 - 1 → AmountsFit t i
amount_fits t w i wide fits = subst (λ (z : ℤ). z <ℤ pos (2 ^ 64)) (sym (amount_is t w i.lo i.hi wide)) (omega (arith, ints, fits))

pub amount_fitted : (t w : ℕ) (i : Instrument) → i.hi -ℤ i.lo ≡ pos w → AmountsFit t i → t * w ≤ 2 ^ 64 - 1
amount_fitted t w i wide fits =
    let small = subst (λ (z : ℤ). z <ℤ pos (2 ^ 64)) (amount_is t w i.lo i.hi wide) fits in
    omega (arith, ints, small)

-- the least and the greatest sum
times_zero : (n : ℕ) → n * 0 ≡ 0
times_zero n = omega arith

low_is : (t : ℕ) (lo : ℤ) → low_with t lo ≡ neg_ℤ (pos (t * below lo))
low_is t (pos k) =
    let least : int_min (pos k) (pos 0) ≡ pos 0 = omega (arith, ints, clamps) in
    ap (λ (z : ℤ). pos t *ℤ z) least ∙ ap pos (times_zero t) ∙ ap (λ (m : ℕ). neg_ℤ (pos m)) (sym (times_zero t))
low_is t (negsuc k) =
    let least : int_min (negsuc k) (pos 0) ≡ negsuc k = omega (arith, ints, clamps) in
    ap (λ (z : ℤ). pos t *ℤ z) least

high_is : (t : ℕ) (hi : ℤ) → high_with t hi ≡ pos (t * above hi)
high_is t (pos k) =
    let greatest : int_max (pos k) (pos 0) ≡ pos k = omega (arith, ints, clamps) in
    ap (λ (z : ℤ). pos t *ℤ z) greatest
high_is t (negsuc k) =
    let greatest : int_max (negsuc k) (pos 0) ≡ pos 0 = omega (arith, ints, clamps) in
    ap (λ (z : ℤ). pos t *ℤ z) greatest

negative_fits : (m : ℕ) → m ≤ 2 ^ 63 → FitsSigned w64 (neg_ℤ (pos m))
negative_fits m small = grind (arith, ints, small)

negative_fitted : (m : ℕ) → FitsSigned w64 (neg_ℤ (pos m)) → m ≤ 2 ^ 63
negative_fitted m fits = omega (arith, ints, fits)

positive_fits : (m : ℕ) → m ≤ 2 ^ 63 - 1 → FitsSigned w64 (pos m)
positive_fits m small = grind (arith, ints, small)

positive_fitted : (m : ℕ) → FitsSigned w64 (pos m) → m ≤ 2 ^ 63 - 1
positive_fitted m fits = omega (arith, ints, fits)

pub low_fits : (t : ℕ) (i : Instrument) → t * below i.lo ≤ 2 ^ 63 → LowFits t i
low_fits t i fits = subst (FitsSigned w64) (sym (low_is t i.lo)) (negative_fits (t * below i.lo) fits)

pub low_fitted : (t : ℕ) (i : Instrument) → LowFits t i → t * below i.lo ≤ 2 ^ 63
low_fitted t i fits = negative_fitted (t * below i.lo) (subst (FitsSigned w64) (low_is t i.lo) fits)

pub high_fits : (t : ℕ) (i : Instrument) → t * above i.hi ≤ 2 ^ 63 - 1 → HighFits t i
high_fits t i fits = subst (FitsSigned w64) (sym (high_is t i.hi)) (positive_fits (t * above i.hi) fits)

pub high_fitted : (t : ℕ) (i : Instrument) → HighFits t i → t * above i.hi ≤ 2 ^ 63 - 1
high_fitted t i fits = positive_fitted (t * above i.hi) (subst (FitsSigned w64) (high_is t i.hi) fits)

-- so many steps are within a room
fits_within : (room step total : ℕ) → IfSome (most_within room step) (λ most. total ≤ most) → total * step ≤ room
fits_within room step total = by (step == 0) refl
  where
    by : (b : Bool) → (step == 0) ≡ b → IfSome (cond b None (Some (room / step))) (λ most. total ≤ most) → total * step ≤ room
    by true is few =
        let zero_step : step ≡ 0 = grind (arith, nat_tests) in
        let none : total * step ≡ 0 = rw zero_step (omega arith) in
        omega (arith, none)
    by false is few =
        let some : 0 < step = grind (arith, nat_tests) in
        (le-div_iff_mul-le {k = step} {x = total} {y = room} some).0 few

within_fits : (room step total : ℕ) → total * step ≤ room → IfSome (most_within room step) (λ most. total ≤ most)
within_fits room step total = by (step == 0) refl
  where
    by : (b : Bool) → (step == 0) ≡ b → total * step ≤ room → IfSome (cond b None (Some (room / step))) (λ most. total ≤ most)
    by true is fits = tt
    by false is fits =
        let some : 0 < step = grind (arith, nat_tests) in
        (le-div_iff_mul-le {k = step} {x = total} {y = room} some).1 fits

-- a number is within the lesser of two just where it is within both
within_both : (total most : ℕ) (o : Option ℕ) → total ≤ lesser most o → (total ≤ most) × IfSome o (λ other. total ≤ other)
within_both total most None = λ few. (few, tt)
within_both total most (Some other) = by (nat_lt other most) refl
  where
    by : (b : Bool) → nat_lt other most ≡ b → total ≤ cond b other most → (total ≤ most) × (total ≤ other)
    by true is few = let less : other < most = grind (arith, nat_tests) in (omega (arith, less, few), few)
    by false is few = let more : most ≤ other = grind (arith, nat_tests) in (few, omega (arith, more, few))

both_within : (total most : ℕ) (o : Option ℕ) → total ≤ most → IfSome o (λ other. total ≤ other) → total ≤ lesser most o
both_within total most None few also = few
both_within total most (Some other) few also = by (nat_lt other most)
  where
    by : (b : Bool) → total ≤ cond b other most
    by true = also
    by false = few

-- what the greatest safe total of a range means, of a total below 2^63
amounts_within : (total : ℕ) (i : Instrument) → i.lo ≤ℤ i.hi → total ≤ apart_total i.lo i.hi → AmountsFit total i
amounts_within total i ordered few =
    let (_, apart) = within_both total (2 ^ 63 - 1) (most_within (2 ^ 64 - 1) (unsigned_abs (i.hi -ℤ i.lo))) few in
    let fits = fits_within (2 ^ 64 - 1) (unsigned_abs (i.hi -ℤ i.lo)) total apart in
    amount_fits total (unsigned_abs (i.hi -ℤ i.lo)) i (width_is i.lo i.hi ordered) fits

within_amounts : (total : ℕ) (i : Instrument) → i.lo ≤ℤ i.hi → total < 2 ^ 63 → AmountsFit total i → total ≤ apart_total i.lo i.hi
within_amounts total i ordered few fits =
    let step = unsigned_abs (i.hi -ℤ i.lo) in
    both_within total (2 ^ 63 - 1) (most_within (2 ^ 64 - 1) step) (omega (arith, few))
    (within_fits (2 ^ 64 - 1) step total (amount_fitted total step i (width_is i.lo i.hi ordered) fits))

pub safe_within : (total : ℕ) (i : Instrument) → i.lo ≤ℤ i.hi → total ≤ safe_total i.kind i.lo i.hi → IsSafeInstrument total i (IsTrue (not (is_gauge i.kind)))
safe_within total i ordered = by (is_gauge i.kind)
  where
    apart : total ≤ apart_total i.lo i.hi → (total < 2 ^ 64) × AmountsFit total i
    apart few =
        let (short, _) = within_both total (2 ^ 63 - 1) (most_within (2 ^ 64 - 1) (unsigned_abs (i.hi -ℤ i.lo))) few in
        (omega (arith, short), amounts_within total i ordered few)

    by : (gauge : Bool) → total ≤ cond gauge (apart_total i.lo i.hi) (lesser (lesser (apart_total i.lo i.hi) (most_within (2 ^ 63 - 1) (above i.hi))) (most_within (2 ^ 63) (below i.lo)))
        → IsSafeInstrument total i (IsTrue (not gauge))
    by true few =
        let (counts, amounts) = apart few in
        record { counts = counts; amounts = amounts; low = λ summed. absurd cc; high = λ summed. absurd cc }
    by false few =
        let (two, low) = within_both total (lesser (apart_total i.lo i.hi) (most_within (2 ^ 63 - 1) (above i.hi))) (most_within (2 ^ 63) (below i.lo)) few in
        let (one, high) = within_both total (apart_total i.lo i.hi) (most_within (2 ^ 63 - 1) (above i.hi)) two in
        let (counts, amounts) = apart one in
        record {
          counts = counts;
          amounts = amounts;
          low = λ summed. low_fits total i (fits_within (2 ^ 63) (below i.lo) total low);
          high = λ summed. high_fits total i (fits_within (2 ^ 63 - 1) (above i.hi) total high);
        }

pub within_safe : (total : ℕ) (i : Instrument) → i.lo ≤ℤ i.hi → total < 2 ^ 63 → IsSafeInstrument total i (IsTrue (not (is_gauge i.kind))) → total ≤ safe_total i.kind i.lo i.hi
within_safe total i ordered short = by (is_gauge i.kind)
  where
    by : (gauge : Bool) → IsSafeInstrument total i (IsTrue (not gauge))
        → total ≤ cond gauge (apart_total i.lo i.hi) (lesser (lesser (apart_total i.lo i.hi) (most_within (2 ^ 63 - 1) (above i.hi))) (most_within (2 ^ 63) (below i.lo)))
    by true safe = within_amounts total i ordered short safe.amounts
    by false safe =
        let high = within_fits (2 ^ 63 - 1) (above i.hi) total (high_fitted total i (safe.high refl)) in
        let low = within_fits (2 ^ 63) (below i.lo) total (low_fitted total i (safe.low refl)) in
        let one = both_within total (apart_total i.lo i.hi) (most_within (2 ^ 63 - 1) (above i.hi)) (within_amounts total i ordered short safe.amounts) high in
        both_within total (lesser (apart_total i.lo i.hi) (most_within (2 ^ 63 - 1) (above i.hi))) (most_within (2 ^ 63) (below i.lo)) one low
