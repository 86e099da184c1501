-- A unit that is told is shorter than its family.
use Rattle.std.proofs.Common.{◌≡◌, ◌≢◌, ℕ, ◌-◌, ◌<◌, Bool, true, false, cond, List, [], ◌∷◌, ◌++◌, length, take, refl, ap, arith, length-append}
use Rattle.std.proofs.lemmas.Bool.Decides.{Decides-eqb}
use Rattle.std.proofs.lemmas.Slice.Eq.{ends_is}
use Rattle.metric_family.specs.Families.{ends_with_unit, family, unit_text}
use Rattle.metric_family.specs.Laws.{UnitsArePartsOfFamilies}
use Rattle.metric_family.specs.Units.{unit_parts}
use Rattle.metric_family.specs.Words.{joined}

longer : (name unit : List ℕ) → ends_with_unit name unit ≡ true → length unit < length name
longer name unit ends =
    let front = take (length name - length (95 ∷ unit)) name in
    let whole : name ≡ front ++ (95 ∷ unit) = (ends_is Decides-eqb name (95 ∷ unit) _ refl).0 ends in
    omega (arith, ap length whole, length-append front (95 ∷ unit))

not_whole : (b : Bool) (name unit : List ℕ) → ends_with_unit name unit ≡ b → cond b unit [] ≢ [] → cond b unit [] ≡ name → ⊥
not_whole true name unit ends some same = let more = longer name unit ends in omega (arith, more, ap length same)
not_whole false name unit ends some same = some refl

pub units_are_parts_of_families : UnitsArePartsOfFamilies
unfolding unit_text
units_are_parts_of_families stream some same =
    let unit = joined (unit_parts stream.unit) in
    not_whole (ends_with_unit (family stream) unit) (family stream) unit refl some same
