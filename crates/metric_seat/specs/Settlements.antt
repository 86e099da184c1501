-- What the seats of recorders were told, beside what an instrument has counted.
use Rattle.std.specs.Prelude.{◌≡◌, ◌<◌, ◌^◌, ℕ, ℤ, pos, ◌+ℤ◌, ◌*ℤ◌, Bool, true, false, not, ◌&&◌}
use Rattle.std.specs.Prelude.{◌==◌, FitsSigned, List, [], ◌∷◌, slice_index, sum_by}
use Rattle.std.specs.Int.{w128}
use Rattle.std.specs.List.{list_all, list_any, range_with_len}
use Rattle.metric_core.specs.Cells.{CellValue}
use Rattle.metric_slot.specs.declared.told.Told.{Told}
use Rattle.metric_seat.specs.declared.total.Total.{Total}

-- ---- whose seats they are, by the number that each tells

-- whether some seat is of the recorder of a number
abbrev pub has_seat : {S : Type 0} → (S → ℕ) → List S → ℕ → Bool
has_seat {S} numbered seats number = list_any (λ (seat : S). numbered seat == number) seats

-- whether no number stands twice
abbrev pub are_distinct : {S : Type 0} → (S → ℕ) → List S → Bool
are_distinct numbered [] = true
are_distinct numbered (seat ∷ seats) =
    not (has_seat numbered seats (numbered seat)) && are_distinct numbered seats

-- whether there is a seat for each recorder of so many
abbrev pub has_each : {S : Type 0} → (S → ℕ) → List S → ℕ → Bool
has_each numbered seats recorders =
    list_all (has_seat numbered seats) (range_with_len 0 recorders)

-- ---- what an instrument has counted

-- # counted (profile) [Numbers, numbers_of]
-- The least value that the instrument takes, how many recordings each recorder has made, how many
-- there are and their sum.
pub record Numbers : Type 0 where
  pub lo : ℤ
  pub spent : ℕ → ℕ
  pub count : ℕ
  pub total : ℤ

-- those of its state
abbrev pub numbers_of : {B : Type 0} → CellValue B → Numbers
numbers_of c = record {
  lo = c.facts.lo;
  spent = slice_index c.spent;
  count = c.count;
  total = c.total;
}

-- ---- what they were told of one instrument

-- how many recordings the seats were told of
abbrev pub told_count : {S : Type 0} → (S → Told) → List S → ℕ
told_count {S} told seats = sum_by (λ (seat : S). (told seat).count) seats

-- how far their values are together above the least
abbrev pub told_amount : {S : Type 0} → (S → Told) → List S → ℕ
told_amount {S} told seats = sum_by (λ (seat : S). (told seat).amount) seats

-- the sum of so many values that are together so far above so many of the least
abbrev pub sum_above : ℤ → ℕ → ℕ → ℤ
sum_above lo count amount = pos amount +ℤ pos count *ℤ lo

-- the sum of the values that the seats were told of
abbrev pub told_sum : {S : Type 0} → (S → Told) → ℤ → List S → ℤ
told_sum told lo seats = sum_above lo (told_count told seats) (told_amount told seats)

-- what the seats were told of an instrument with this least value
abbrev pub told_total : {S : Type 0} → (S → Told) → ℤ → List S → Total
told_total told lo seats = record { count = told_count told seats; sum = told_sum told lo seats }

-- whether there are as many recordings of each recorder as its seat was told of
abbrev pub are_spent : {S : Type 0} → (S → ℕ) → (S → Told) → (ℕ → ℕ) → List S → Bool
are_spent {S} numbered told spent seats =
    list_all (λ (seat : S). spent (numbered seat) == (told seat).count) seats

-- # as told (profile) [IsAsTold, IsPartlyTold, IsTellable, IsToldBy]
-- By the seats of all recorders each spent budget, the count and the sum are what they were told.
-- By those of some, each spent budget is, and what they were told together has 64 bits, its sum 128;
-- the count and the sum are compared with nothing.
pub record IsAsTold {S : Type 0} (numbered : S → ℕ) (told : S → Told) (n : Numbers)
    (seats : List S) : Type 0 where
  pub spent : are_spent numbered told n.spent seats ≡ true
  pub count : n.count ≡ told_count told seats
  pub sum : n.total ≡ told_sum told n.lo seats

-- So many recordings, and so far above the least, have 64 bits, and their sum 128.
pub record IsTellable (lo : ℤ) (count amount : ℕ) : Type 0 where
  pub few : count < 2 ^ 64
  pub near : amount < 2 ^ 64
  pub sum : FitsSigned w128 (sum_above lo count amount)

-- the same by the seats of some recorders
pub record IsPartlyTold {S : Type 0} (numbered : S → ℕ) (told : S → Told) (n : Numbers)
    (seats : List S) : Type 0 where
  pub spent : are_spent numbered told n.spent seats ≡ true
  pub tellable : IsTellable n.lo (told_count told seats) (told_amount told seats)

-- either, by whether the seats are those of all recorders
abbrev pub IsToldBy : {S : Type 0} → Bool → (S → ℕ) → (S → Told) → Numbers → List S → Type 0
IsToldBy true numbered told n seats = IsAsTold numbered told n seats
IsToldBy false numbered told n seats = IsPartlyTold numbered told n seats
