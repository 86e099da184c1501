-- What a numbering of values gives.
use Rattle.std.specs.Prelude.{◌≡◌, ℕ, ◌≤◌, true, false, if◌then◌else◌, List, length, Option, Some}
use Rattle.std.specs.Ordering.{int_eq}
use Rattle.std.specs.HashMap.{get, get_by_text}
use Rattle.metric_names.specs.declared.value.AttrValue.{AttrValue}
use Rattle.metric_names.specs.declared.value.AttrValue.TheVariants.{Text, Whole, Flag}
use Rattle.metric_contents.specs.declared.numbering.Numbering.{Numbering}
use Rattle.metric_contents.specs.Places.{has_repeat, place, same_value}

-- the number that the numbering has for a value
abbrev pub number_in : Numbering → AttrValue → Option ℕ
number_in numbering (Text text) = get_by_text numbering.texts text
number_in numbering (Whole number) = get int_eq numbering.wholes number
number_in numbering (Flag true) = numbering.yes
number_in numbering (Flag false) = numbering.no

-- The new numbering gives the value this number, and each other value the number that it had.
abbrev pub PutsNumber : Numbering → Numbering → AttrValue → ℕ → Type 0
PutsNumber old new value number =
    (other : AttrValue)
    → number_in new other ≡ (if same_value value other then Some number else number_in old other)

-- The number of each value is its place in the list, and a value that is not there has none.
abbrev pub Numbers : Numbering → List AttrValue → Type 0
Numbers numbering values = (value : AttrValue) → number_in numbering value ≡ place values value

-- a numbering of distinct values, at most 1,000
pub record IsNumbered (numbering : Numbering) (values : List AttrValue) : Type 0 where
  pub numbers : Numbers numbering values
  pub few : length values ≤ 1000
  pub distinct : has_repeat values ≡ false
