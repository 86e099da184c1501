-- The place of a value in the list that a key declares.
use Rattle.std.specs.Prelude.{ℕ, Bool, false, not, ◌||◌, if◌then◌else◌, List, [], ◌∷◌, ◌++◌, Option}
use Rattle.std.specs.Prelude.{is_some}
use Rattle.std.specs.Ordering.{int_eq}
use Rattle.std.specs.Str.{bytes_eq}
use Rattle.std.specs.List.{position_from}
use Rattle.metric_names.specs.declared.value.AttrValue.{AttrValue}
use Rattle.metric_names.specs.declared.value.AttrValue.TheVariants.{Text, Whole, Flag}

-- equal in type and value
abbrev pub same_value : AttrValue → AttrValue → Bool
same_value (Text a) (Text b) = bytes_eq a b
same_value (Whole a) (Whole b) = int_eq a b
same_value (Flag a) (Flag b) = if a then b else not b
same_value _ _ = false

-- # place of a value (profile)
-- Its place in the list that a key declares.
abbrev pub place : List AttrValue → AttrValue → Option ℕ
place values value = position_from (same_value value) 0 values

-- some value of those that are left stands before its own place
abbrev pub repeats_after : List AttrValue → List AttrValue → Bool
repeats_after before [] = false
repeats_after before (value ∷ left) =
    is_some (place before value) || repeats_after (before ++ value ∷ []) left

-- some value stands twice
abbrev pub has_repeat : List AttrValue → Bool
has_repeat values = repeats_after [] values
