-- Entries compared with slips, one after the other.
use Rattle.std.proofs.Common.{◌≡◌, ◌<◌, ◌≤◌, ℕ, zero, suc, ◌+◌, Bool, true, false, List, [], ◌∷◌, Some, cond, get_or, length, map, drop, sym, ap, ◌∙◌, arith}
use Rattle.std.specs.Prelude.{◌↔◌, IsTrue, ◌==◌, filter, slice_get}
use Rattle.std.proofs.lemmas.List.{drop_all, drop_more}
use Rattle.std.proofs.lemmas.Bool.Decides.{nat_tests}
use Rattle.std.proofs.lemmas.Option.{same_Some}
use Rattle.metric_history.specs.declared.slip.Slip.{Slip}
use Rattle.metric_history.specs.declared.entry.Entry.{Entry}
use Rattle.metric_history.specs.Slips.{is_by, slip_of, slips_of}

own_more : (r : ℕ) (entries : List Entry) (i : ℕ) (d : Entry) → i < length entries → (get_or entries i d).recorder ≡ r
    → slips_of r (drop i entries) ≡ slip_of (get_or entries i d) ∷ slips_of r (drop (i + 1) entries)
own_more r entries i d below own =
    let e : Entry = get_or entries i d in
    let rest : List Entry = drop (i + 1) entries in
    let is : (e.recorder == r) ≡ true = grind (arith, nat_tests) in
    ap (λ (xs : List Entry). slips_of r xs) (drop_more entries i d below)
    ∙ ap (λ (b : Bool). map slip_of (cond b (e ∷ filter (is_by r) rest) (filter (is_by r) rest))) is

other_more : (r : ℕ) (entries : List Entry) (i : ℕ) (d : Entry) → i < length entries → ((get_or entries i d).recorder ≡ r → ⊥)
    → slips_of r (drop i entries) ≡ slips_of r (drop (i + 1) entries)
other_more r entries i d below other =
    let e : Entry = get_or entries i d in
    let rest : List Entry = drop (i + 1) entries in
    let is : (e.recorder == r) ≡ false = grind (arith, nat_tests) in
    ap (λ (xs : List Entry). slips_of r xs) (drop_more entries i d below)
    ∙ ap (λ (b : Bool). map slip_of (cond b (e ∷ filter (is_by r) rest) (filter (is_by r) rest))) is

-- the first of what is left
first_left : (slips : List Slip) (at : ℕ) (s : Slip) → slice_get slips at ≡ Some s → drop at slips ≡ s ∷ drop (at + 1) slips
first_left [] at s found = absurd cc
first_left (x ∷ slips) zero s found = ap (λ y. y ∷ slips) (same_Some x s found)
first_left (x ∷ slips) (suc at) s found =
    let next : at + 1 ≡ suc at = omega arith in
    let last : suc at + 1 ≡ suc (at + 1) = omega arith in
    first_left slips at s found ∙ ap (λ (k : ℕ). s ∷ drop k (x ∷ slips)) (sym last)

found_first : (slips : List Slip) (at : ℕ) (s : Slip) (rest : List Slip) → drop at slips ≡ s ∷ rest → slice_get slips at ≡ Some s
found_first [] zero s rest is = absurd cc
found_first [] (suc at) s rest is = absurd cc
found_first (x ∷ slips) zero s rest is = ap (λ y. Some y) (cc)
found_first (x ∷ slips) (suc at) s rest is = found_first slips at s rest is

within_first : (slips : List Slip) (at : ℕ) (s : Slip) → slice_get slips at ≡ Some s → at < length slips
within_first [] at s found = absurd cc
within_first (x ∷ slips) zero s found = omega arith
within_first (x ∷ slips) (suc at) s found = omega (arith, within_first slips at s found)

tails : (s : Slip) (xs ys : List Slip) → s ∷ xs ≡ s ∷ ys → xs ≡ ys
tails s xs ys is = cc

-- The slips before a place are those of the entries before another.
pub record IsCompared (slips : List Slip) (entries : List Entry) (r at i : ℕ) : Type 0 where
  pub within : at ≤ length slips
  pub passed : at ≤ i
  pub same : (slips ≡ slips_of r entries) ↔ (drop at slips ≡ slips_of r (drop i entries))

-- the entry is the recorder's, and its slip is next
pub own_step : (slips : List Slip) (entries : List Entry) (r at next i : ℕ) (d : Entry) → i < length entries → (get_or entries i d).recorder ≡ r
    → slice_get slips at ≡ Some (slip_of (get_or entries i d)) → next ≡ at + 1 → IsCompared slips entries r at i → IsCompared slips entries r next (i + 1)
own_step slips entries r at next i d below own found is far =
    let s : Slip = slip_of (get_or entries i d) in
    let rest : List Slip = slips_of r (drop (i + 1) entries) in
    let here : drop at slips ≡ s ∷ drop next slips = first_left slips at s found ∙ ap (λ (n : ℕ). s ∷ drop n slips) (sym is) in
    let there : slips_of r (drop i entries) ≡ s ∷ rest = own_more r entries i d below own in
    record {
      within = omega (arith, within_first slips at s found, is);
      passed = omega (arith, far.passed, is);
      same = (
        λ all. tails s (drop next slips) rest (sym here ∙ far.same.0 all ∙ there),
        λ left. far.same.1 (here ∙ ap (λ (xs : List Slip). s ∷ xs) left ∙ sym there),
      );
    }

pub other_step : (slips : List Slip) (entries : List Entry) (r at next i : ℕ) (d : Entry) → i < length entries → ((get_or entries i d).recorder ≡ r → ⊥)
    → next ≡ at → IsCompared slips entries r at i → IsCompared slips entries r next (i + 1)
other_step slips entries r at next i d below other is far =
    let there : slips_of r (drop i entries) ≡ slips_of r (drop (i + 1) entries) = other_more r entries i d below other in
    let here : drop at slips ≡ drop next slips = ap (λ (n : ℕ). drop n slips) (sym is) in
    record {
      within = omega (arith, far.within, is);
      passed = omega (arith, far.passed, is);
      same = (λ all. sym here ∙ far.same.0 all ∙ there, λ left. far.same.1 (here ∙ left ∙ sym there));
    }

pub unlike : (slips : List Slip) (entries : List Entry) (r at i : ℕ) (d : Entry) → i < length entries → (get_or entries i d).recorder ≡ r
    → (slice_get slips at ≡ Some (slip_of (get_or entries i d)) → ⊥)
    → IsCompared slips entries r at i → slips ≡ slips_of r entries → ⊥
unlike slips entries r at i d below own missing far all =
    missing (found_first slips at (slip_of (get_or entries i d)) (slips_of r (drop (i + 1) entries)) (far.same.0 all ∙ own_more r entries i d below own))

left_none : (slips : List Slip) (at : ℕ) → drop at slips ≡ [] → length slips ≤ at
left_none [] at none = omega arith
left_none (x ∷ slips) zero none = absurd cc
left_none (x ∷ slips) (suc at) none = omega (arith, left_none slips at none)

pub at_end : (slips : List Slip) (entries : List Entry) (r at i : ℕ) → length entries ≤ i → IsCompared slips entries r at i
    → IsTrue (at == length slips) ↔ (slips ≡ slips_of r entries)
at_end slips entries r at i end far =
    let within = far.within in
    let same = far.same in
    let none : slips_of r (drop i entries) ≡ [] = ap (λ (xs : List Entry). slips_of r xs) (drop_all i entries end) in (
      λ last. let past : length slips ≤ at = grind (arith, nat_tests) in same.1 (drop_all at slips past ∙ sym none),
      λ all. let past : length slips ≤ at = left_none slips at (same.0 all ∙ none) in grind (arith, nat_tests),
    )
