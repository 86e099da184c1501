-- Journals and slips at the end of a provider.
use Rattle.std.proofs.Common.{◌≡◌, ◌<◌, ℕ, zero, suc, ◌+◌, Bool, true, false, List, [], ◌∷◌, Some, get_or, length, map, refl, sym, ap, subst, ◌∙◌, arith}
use Rattle.std.specs.Prelude.{◌||◌, ◌==◌, if◌then◌else◌, slice_get}
use Rattle.std.specs.List.{list_all, range_with_len}
use Rattle.std.proofs.lemmas.List.Folds.{list_all_at}
use Rattle.std.proofs.lemmas.List.FromFn.{get_or-range_with_len, length-range_with_len}
use Rattle.std.proofs.lemmas.Bool.{eqb-true}
use Rattle.std.proofs.lemmas.List.{length-map}
use Rattle.std.proofs.lemmas.Option.{same_Some, slice_get_within}
use Rattle.metric_history.specs.Slips.{slips_of}
use Rattle.metric_history.specs.declared.slip.Slip.{Slip}
use Rattle.metric_core.specs.Cells.{CellValue}
use Rattle.metric_history.specs.declared.entry.Entry.{Entry}
use Rattle.metric_plan.specs.Plans.{PlanValue}
use Rattle.metric_seat.specs.declared.total.Total.{Total}
use Rattle.metric_seat.specs.Seats.{RecorderValue, slips_at}
use Rattle.metric_seat.specs.Settlements.{has_each, has_seat}
use Rattle.metric_provider.specs.Lanes.{kept_by}
use Rattle.metric_provider.specs.Totals.{AreNoted, AreSettled, Finishes, IsToldJournal, KeepToldJournals, entries_by, number_of, slips_by, slips_of_seats, slips_on, told_totals}

-- ---- the slips of each recorder are its entries

seat_of : (seats : List RecorderValue) (recorders k : ℕ) → has_each number_of seats recorders ≡ true → k < recorders → has_seat number_of seats k ≡ true
seat_of seats recorders k each below = at (has_seat number_of seats k) refl
  where
    at : (b : Bool) → has_seat number_of seats k ≡ b → has_seat number_of seats k ≡ true
    at true e = e
    at false e =
        let is : get_or (range_with_len 0 recorders) k 0 ≡ k = get_or-range_with_len 0 recorders k 0 below ∙ omega arith in
        let none : list_all (has_seat number_of seats) (range_with_len 0 recorders) ≡ false =
        list_all_at (has_seat number_of seats) (range_with_len 0 recorders) k 0 (omega (arith, length-range_with_len 0 recorders, below)) (ap (has_seat number_of seats) is ∙ e) in
        absurd cc

slips_by_if : (b : Bool) (seat : RecorderValue) (seats : List RecorderValue) (number i : ℕ) (entries : List Entry) → (seat.number == number) ≡ b
    → slips_at seat i ≡ slips_of seat.number entries → (has_seat number_of seats number ≡ true → slips_by seats number i ≡ slips_of number entries)
    → has_seat number_of (seat ∷ seats) number ≡ true → slips_by (seat ∷ seats) number i ≡ slips_of number entries
slips_by_if true seat seats number i entries is here rest has =
    ap (λ (b : Bool). if b then slips_at seat i else slips_by seats number i) is
    ∙ here ∙ ap (λ (n : ℕ). slips_of n entries) (eqb-true seat.number number is)
slips_by_if false seat seats number i entries is here rest has =
    ap (λ (b : Bool). if b then slips_at seat i else slips_by seats number i) is
    ∙ rest (ap (λ (b : Bool). b || has_seat number_of seats number) (sym is) ∙ has)

slips_by_noted : (seats : List RecorderValue) (number i : ℕ) (entries : List Entry) → has_seat number_of seats number ≡ true → AreNoted seats i entries → slips_by seats number i ≡ slips_of number entries
slips_by_noted [] number i entries has noted = absurd cc
slips_by_noted (seat ∷ seats) number i entries has noted =
    slips_by_if (seat.number == number) seat seats number i entries refl (noted 0 seat (omega arith))
    (λ there. slips_by_noted seats number i entries there (λ k d below. noted (suc k) d (omega (arith, below)))) has

same_over : {X : Type 0} (f h : ℕ → X) (a n : ℕ) → ((k : ℕ) → k < a + n → f k ≡ h k) → map f (range_with_len a n) ≡ map h (range_with_len a n)
same_over f h a zero same = refl
same_over f h a (suc n) same =
    ap (λ x. x ∷ map f (range_with_len (a + 1) n)) (same a (omega arith))
    ∙ ap (λ xs. h a ∷ xs) (same_over f h (a + 1) n (λ k below. same k (omega (arith, below))))

slips_on_noted : (seats : List RecorderValue) (recorders i : ℕ) (entries : List Entry) → ((k : ℕ) → k < recorders → has_seat number_of seats k ≡ true) → AreNoted seats i entries
    → slips_on seats recorders i ≡ entries_by recorders entries
slips_on_noted seats recorders i entries each noted =
    same_over (λ (k : ℕ). slips_by seats k i) (λ (k : ℕ). slips_of k entries) 0 recorders (λ k below. slips_by_noted seats k i entries (each k (omega (arith, below))) noted)

all_noted : {X : Type 0} (kept : X → List Entry) (books : List X) (seats : List RecorderValue) (recorders from : ℕ) → ((k : ℕ) → k < recorders → has_seat number_of seats k ≡ true)
    → ((i : ℕ) (b : X) → slice_get books i ≡ Some b → AreNoted seats (from + i) (kept b))
    → map (slips_on seats recorders) (range_with_len from (length books)) ≡ map (entries_by recorders) (map kept books)
all_noted kept [] seats recorders from each noted = refl
all_noted kept (b ∷ books) seats recorders from each noted =
    let first : AreNoted seats from (kept b) = subst (λ (n : ℕ). AreNoted seats n (kept b)) (omega arith) (noted 0 b refl) in
    ap (λ xs. xs ∷ map (slips_on seats recorders) (range_with_len (from + 1) (length books))) (slips_on_noted seats recorders from (kept b) each first)
    ∙ ap (λ xs. entries_by recorders (kept b) ∷ xs)
    (all_noted kept books seats recorders (from + 1) each (λ i c found. subst (λ (n : ℕ). AreNoted seats n (kept c)) (omega arith) (noted (suc i) c found)))

-- ---- journals

get_map : {X Y : Type 0} (f : X → Y) (xs : List X) (i : ℕ) (y : Y) → slice_get (map f xs) i ≡ Some y → (x : X) × (slice_get xs i ≡ Some x) × (f x ≡ y)
get_map f [] i y found = absurd cc
get_map f (x ∷ xs) zero y found = (x, refl, same_Some (f x) y found)
get_map f (x ∷ xs) (suc i) y found = get_map f xs i y found

get_some : {X : Type 0} (xs : List X) (i : ℕ) → i < length xs → (x : X) × (slice_get xs i ≡ Some x)
get_some [] i below = absurd (omega (arith, below))
get_some (x ∷ xs) zero below = (x, refl)
get_some (x ∷ xs) (suc i) below = get_some xs i (omega (arith, below))

-- what the parts of the end are told makes the end
pub finishes : {B : Type 0} (kept : B → List Entry) (keeps : Bool) (plan : PlanValue) (lanes : List (List (CellValue B))) (seats : List RecorderValue)
    (totals : List Total) (journals : List (List Entry)) (slips : List (List (List Slip))) (recorders instruments : ℕ)
    → length lanes ≡ length plan.facts.instruments → has_each number_of seats (length plan.facts.contents.recorders) ≡ true → recorders ≡ length plan.facts.contents.recorders → instruments ≡ length plan.facts.instruments
    → totals ≡ told_totals seats 0 plan.facts.instruments → AreSettled true kept plan.facts.instruments lanes seats → KeepToldJournals kept keeps plan.facts.instruments lanes seats
    → journals ≡ map (kept_by kept) lanes → slips ≡ slips_of_seats seats recorders instruments
    → Finishes keeps plan seats totals journals slips
finishes {B} kept keeps plan lanes seats totals journals slips recorders instruments long all counted numbered told as_told kept_told are noted =
    let count : ℕ = length plan.facts.contents.recorders in
    let of : List (CellValue B) → List Entry = kept_by kept in
    let own : slips ≡ slips_of_seats seats count (length plan.facts.instruments) =
    noted ∙ ap (λ (n : ℕ). slips_of_seats seats n instruments) counted ∙ ap (λ (n : ℕ). slips_of_seats seats count n) numbered in
    record {
      told = told;
      accepted = record {
        one_each = ap (λ (js : List (List Entry)). length js) are ∙ length-map lanes of ∙ long;
        told = λ i facts journal at found.
            let from = get_map of lanes i journal (ap (λ (js : List (List Entry)). slice_get js i) (sym are) ∙ found) in
            subst (λ (j : List Entry). IsToldJournal keeps facts seats i j) from.2 (kept_told i facts from.0 at from.1);
      };
      noted = own;
      entries = own ∙ ap (λ (n : ℕ). map (slips_on seats count) (range_with_len 0 n)) (sym long)
          ∙ all_noted of lanes seats count 0 (λ k below. seat_of seats count k all below)
          (λ i c found. let at = get_some plan.facts.instruments i (omega (arith, long, slice_get_within lanes i c found)) in
          let here : i ≡ 0 + i = omega arith in
          subst (λ (n : ℕ). AreNoted seats n (kept_by kept c)) here (as_told i at.0 c at.1 found).noted)
          ∙ ap (λ (js : List (List Entry)). map (entries_by count) js) (sym are);
    }
