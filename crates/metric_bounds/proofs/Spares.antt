-- The spare budgets of instruments in a list.
use Rattle.std.proofs.Common.{◌≡◌, ◌<◌, ◌^◌, ℕ, zero, suc, List, [], ◌∷◌, get_or, map, refl, All, arith}
use Rattle.std.proofs.lemmas.List.Elements.{All-head, All-tail}
use Rattle.metric_contents.specs.declared.contents.Instrument.{Instrument}
use Rattle.metric_contents.specs.Budgets.{spare_at}
use Rattle.metric_catalogue.specs.Sound.{IsSoundInstrument}

-- each spare budget
abbrev pub spares : List Instrument → List ℕ
spares instruments = map (λ (i : Instrument). i.spare) instruments

pub spare_listed : (instruments : List Instrument) (i : ℕ) → get_or (spares instruments) i 0 ≡ spare_at instruments i
spare_listed [] i = refl
spare_listed (x ∷ instruments) zero = refl
spare_listed (x ∷ instruments) (suc i) = spare_listed instruments i

-- a spare budget is at most 2^63 - 1
pub spare_limited : (meters : ℕ) (instruments : List Instrument) (i : ℕ) → All (IsSoundInstrument meters) instruments → get_or (spares instruments) i 0 < 2 ^ 63
spare_limited meters [] i all = omega arith
spare_limited meters (x ∷ instruments) zero all = (All-head (IsSoundInstrument meters) x instruments all).spare
spare_limited meters (x ∷ instruments) (suc i) all = spare_limited meters instruments i (All-tail (IsSoundInstrument meters) x instruments all)
