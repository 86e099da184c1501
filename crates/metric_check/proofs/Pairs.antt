-- The place of a pair of a view and an instrument among all pairs.
use Rattle.std.proofs.Common.{◌≡◌, ℕ, zero, suc, ◌+◌, ◌*◌, ◌/◌, ◌%◌, ◌<◌, List, ◌++◌, map, length, get_or, Some, slice_get, sym, ap, ◌∙◌, length-append, arith}
use Rattle.std.specs.List.{flat_map, range_with_len}
use Rattle.std.proofs.lemmas.List.{get_or-append-add, get_or_append_left, length-map}
use Rattle.std.proofs.lemmas.List.FromFn.{get_or-map-range_with_len, length-range_with_len}
use Rattle.std.proofs.Math.Nat.{div-lt_iff_lt-mul, mod-lt}
use Rattle.std.proofs.lemmas.Nat.{div-add-mod', mul-add-lt}
use Rattle.std.proofs.lemmas.Option.{slice_get-get_or}
use Rattle.metric_contents.specs.declared.contents.Contents.{Contents}
use Rattle.metric_views.specs.declared.config.Config.{Config}
use Rattle.metric_cert.specs.Valid.{all_pairs}

-- the pairs of a view with n instruments
row : ℕ → ℕ → List (ℕ × ℕ)
row n view = map (λ instrument. (view, instrument)) (range_with_len 0 n)

-- the same of m views from the first on
rows : ℕ → ℕ → ℕ → List (ℕ × ℕ)
rows n a m = flat_map (row n) (range_with_len a m)

length-row : (n view : ℕ) → length (row n view) ≡ n
unfolding row
length-row n view = length-map (range_with_len 0 n) (λ instrument. (view, instrument)) ∙ length-range_with_len 0 n

length-rows : (n a m : ℕ) → length (rows n a m) ≡ m * n
unfolding rows
length-rows n a zero = omega arith
length-rows n a (suc m) =
    let rest : length (flat_map (row n) (range_with_len (a + 1) m)) ≡ m * n = length-rows n (a + 1) m in
    let first = length-row n a in
    let joined = length-append (row n a) (flat_map (row n) (range_with_len (a + 1) m)) in
    let more : suc m * n ≡ n + m * n = omega arith in
    omega arith

pair_in_rows : (n a m view instrument : ℕ) (d : ℕ × ℕ) → view < m → instrument < n → get_or (rows n a m) (view * n + instrument) d ≡ (a + view, instrument)
unfolding rows row
pair_in_rows n a zero view instrument d within inside = absurd (omega arith)
pair_in_rows n a (suc m) zero instrument d within inside =
    let here : zero * n + instrument ≡ instrument = omega arith in
    let long : instrument < length (row n a) = omega (arith, length-row n a) in
    let start : a + zero ≡ a = omega arith in
    ap (λ k. get_or (row n a ++ rows n (a + 1) m) k d) here
    ∙ get_or_append_left (row n a) (rows n (a + 1) m) d instrument long
    ∙ get_or-map-range_with_len (λ i. (a, i)) 0 n instrument instrument d inside (omega arith)
    ∙ ap (λ k. (k, instrument)) (sym start)
pair_in_rows n a (suc m) (suc view) instrument d within inside =
    let here : suc view * n + instrument ≡ length (row n a) + (view * n + instrument) = omega (arith, length-row n a) in
    let start : a + 1 + view ≡ a + suc view = omega arith in
    ap (λ k. get_or (row n a ++ rows n (a + 1) m) k d) here
    ∙ get_or-append-add (row n a) (rows n (a + 1) m) (view * n + instrument) d
    ∙ pair_in_rows n (a + 1) m view instrument d (omega arith) inside
    ∙ ap (λ k. (k, instrument)) start

-- how many pairs there are
pub length-all_pairs : (contents : Contents) (config : Config) → length (all_pairs contents config) ≡ length config.views * length contents.instruments
unfolding rows row
length-all_pairs contents config = length-rows (length contents.instruments) 0 (length config.views)

-- the pair at the place of a view and an instrument
pub pair_of : (contents : Contents) (config : Config) (view instrument : ℕ) → view < length config.views → instrument < length contents.instruments
    → slice_get (all_pairs contents config) (view * length contents.instruments + instrument) ≡ Some (view, instrument)
unfolding rows row
pair_of contents config view instrument within inside =
    let n = length contents.instruments in
    let m = length config.views in
    let place = view * n + instrument in
    let long = length-all_pairs contents config in
    let room = mul-add-lt view n instrument m within inside in
    let turned : n * m ≡ m * n = omega arith in
    let below : place < length (all_pairs contents config) = omega arith in
    let is : get_or (all_pairs contents config) place (0, 0) ≡ (0 + view, instrument) = pair_in_rows n 0 m view instrument (0, 0) within inside in
    let start : 0 + view ≡ view = omega arith in
    slice_get-get_or (all_pairs contents config) place (0, 0) below ∙ ap (λ (p : ℕ × ℕ). Some p) is ∙ ap (λ (k : ℕ). Some (k, instrument)) start

-- the view and the instrument of a place
pub view_of : (m n place : ℕ) → place < m * n → place / n < m
view_of m zero place within = absurd (omega arith)
view_of m (suc n) place within = (div-lt_iff_lt-mul {k = suc n} {x = place} {y = m} (omega arith)).1 within

pub instrument_of : (m n place : ℕ) → place < m * n → place % n < n
instrument_of m zero place within = absurd (omega arith)
instrument_of m (suc n) place within = mod-lt place {m = suc n} (omega arith)

-- the pair at a place
pub pair_at : (contents : Contents) (config : Config) (place : ℕ) → place < length config.views * length contents.instruments
    → slice_get (all_pairs contents config) place ≡ Some (place / length contents.instruments, place % length contents.instruments)
pair_at contents config place within =
    let n = length contents.instruments in
    let m = length config.views in
    ap (slice_get (all_pairs contents config)) (sym (div-add-mod' place n))
    ∙ pair_of contents config (place / n) (place % n) (view_of m n place within) (instrument_of m n place within)
