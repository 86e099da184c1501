-- The refusals that a seat counted, one by one.
use Rattle.std.specs.Prelude.{◌≡◌, refl, ℕ, nat_lt, Bool, true, false, ◌&&◌, ◌==◌, if◌then◌else◌}
use Rattle.std.specs.Prelude.{◌+◌, List, [], ◌∷◌, ◌++◌}
use Rattle.std.specs.List.{flat_map, list_any}
use Rattle.metric_contents.specs.declared.refusal.Refusal.{Refusal}
use Rattle.metric_contents.specs.declared.refusal.Refusal.TheVariants.{
  Stranger,
  UnknownInstrument,
  UnknownRecorder,
  UnknownReader,
  DuplicateKey,
  UnknownKey,
  UnknownValue,
  MissingKey,
  Combination,
  ValueRange,
  Closed,
  Budget,
  NoSpare,
  SumRange,
  Memory,
}
use Rattle.metric_contents.specs.Refusals.{number_of}
use Rattle.metric_handles.specs.Counts.{CountsValue, count_in}
use Rattle.metric_handles.specs.declared.refused.Refused.{Refused}

-- each refusal, in the order in which they are tried
abbrev pub all_refusals : List Refusal
all_refusals =
    Stranger ∷ UnknownInstrument ∷ UnknownRecorder ∷ UnknownReader ∷ DuplicateKey ∷ UnknownKey
    ∷ UnknownValue ∷ MissingKey ∷ Combination ∷ ValueRange ∷ Closed ∷ Budget ∷ NoSpare ∷ SumRange
    ∷ Memory ∷ []

-- whether a refusal is told: it is the first of those that share its number
abbrev pub is_told : Refusal → Bool
is_told UnknownReader = false
is_told other = true

-- a refusal of an instrument, where it came
abbrev pub refusal_on : ℕ → CountsValue → Refusal → List Refused
refusal_on instrument counts refusal =
    let count = count_in counts.refused refusal in
    if is_told refusal && nat_lt 0 count
    then record { instrument = instrument; refusal = refusal; count = count } ∷ []
    else []

-- those of the instrument with some counts
abbrev pub refusals_on : ℕ → CountsValue → List Refused
refusals_on instrument counts = flat_map (refusal_on instrument counts) all_refusals

-- those of the instruments from a number on
abbrev pub refusals_from : ℕ → List CountsValue → List Refused
refusals_from instrument [] = []
refusals_from instrument (counts ∷ all) =
    refusals_on instrument counts ++ refusals_from (instrument + 1) all

-- # refusals told (profile) [refusals_of, refusals_from, refusal_on]
-- Of each instrument in turn, and at last of all others, each refusal that came, with how often.
abbrev pub refusals_of : List CountsValue → List Refused
refusals_of counts = refusals_from 0 counts

-- each refusal is told, by its number
abbrev pub EachIsTold : Type 0
EachIsTold =
    (refusal : Refusal)
    → list_any (λ other. is_told other && (number_of other == number_of refusal)) all_refusals ≡ true

pub each_is_told : EachIsTold
each_is_told Stranger = refl
each_is_told UnknownInstrument = refl
each_is_told UnknownRecorder = refl
each_is_told UnknownReader = refl
each_is_told DuplicateKey = refl
each_is_told UnknownKey = refl
each_is_told UnknownValue = refl
each_is_told MissingKey = refl
each_is_told Combination = refl
each_is_told ValueRange = refl
each_is_told Closed = refl
each_is_told Budget = refl
each_is_told NoSpare = refl
each_is_told SumRange = refl
each_is_told Memory = refl
