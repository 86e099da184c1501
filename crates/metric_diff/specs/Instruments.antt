-- What differs in what two catalogues declare of an instrument and its recorders.
use Rattle.std.specs.Prelude.{ℕ, ℤ, Bool, true, false, not, ◌==◌, ◌&&◌, ◌||◌, int_lt, nat_lt, is_some}
use Rattle.std.specs.Prelude.{List, [], ◌∷◌, ◌++◌, Option, Some, None, slice_get, if◌then◌else◌}
use Rattle.std.specs.Cmp.Lexicographic.{pointwise}
use Rattle.std.specs.List.{enumerate_from, flat_map, list_any, position_from}
use Rattle.std.specs.Option.{option_and_then, option_map}
use Rattle.std.specs.Ordering.{int_eq}
use Rattle.std.specs.Str.{bytes_eq}
use Rattle.metric_names.specs.declared.value.AttrValue.{AttrValue}
use Rattle.metric_contents.specs.declared.contents.Contents.{Contents}
use Rattle.metric_contents.specs.declared.contents.Instrument.{Instrument}
use Rattle.metric_contents.specs.declared.contents.Key.{Key}
use Rattle.metric_contents.specs.declared.contents.Recorder.{Recorder}
use Rattle.metric_contents.specs.Budgets.{amount_of}
use Rattle.metric_contents.specs.KeyNames.{is_key}
use Rattle.metric_contents.specs.Places.{place}
use Rattle.metric_views.specs.Selection.{is_kind}
use Rattle.metric_diff.specs.declared.change.Change.{Change}
use Rattle.metric_diff.specs.declared.change.Change.TheVariants as changes
use Rattle.metric_diff.specs.declared.change.InstrumentPart.{InstrumentPart}
use Rattle.metric_diff.specs.declared.change.InstrumentPart.TheVariants as parts
use Rattle.metric_diff.specs.declared.keys.Way.{Way}
use Rattle.metric_diff.specs.declared.keys.Way.TheVariants as ways
use Rattle.metric_diff.specs.Combined.{combination_changes}
use Rattle.metric_diff.specs.Parts.{when}

-- neither advises boundaries, or both the same ones
abbrev pub is_same_advice : Option (List ℤ) → Option (List ℤ) → Bool
is_same_advice None None = true
is_same_advice None (Some others) = false
is_same_advice (Some boundaries) None = false
is_same_advice (Some boundaries) (Some others) = pointwise int_eq boundaries others

-- a value of the old range is none of the new one
abbrev pub is_narrower : Instrument → Instrument → Bool
is_narrower old new = int_lt old.lo new.lo || int_lt new.hi old.hi

-- a value of the new range is none of the old one
abbrev pub is_wider : Instrument → Instrument → Bool
is_wider old new = int_lt new.lo old.lo || int_lt old.hi new.hi

-- two instruments differ in a part
abbrev pub instruments_differ : InstrumentPart → Instrument → Instrument → Bool
instruments_differ parts.Name old new = not (bytes_eq old.name new.name)
instruments_differ parts.Description old new = not (bytes_eq old.description new.description)
instruments_differ parts.Unit old new = not (bytes_eq old.unit new.unit)
instruments_differ parts.Kind old new = not (is_kind old.kind new.kind)
instruments_differ parts.Advice old new = not (is_same_advice old.advice new.advice)
instruments_differ parts.Range old new = is_narrower old new
instruments_differ parts.WiderRange old new = not (is_narrower old new) && is_wider old new
instruments_differ parts.Spare old new = nat_lt new.spare old.spare
instruments_differ parts.MoreSpare old new = nat_lt old.spare new.spare
instruments_differ parts.Listed old new = not (is_some old.allowed) && is_some new.allowed
instruments_differ parts.Unlisted old new = is_some old.allowed && not (is_some new.allowed)

abbrev pub all_declared_parts : List InstrumentPart
all_declared_parts =
    parts.Name ∷ parts.Description ∷ parts.Unit ∷ parts.Kind ∷ parts.Advice ∷ parts.Range
    ∷ parts.WiderRange ∷ parts.Spare ∷ parts.MoreSpare ∷ parts.Listed ∷ parts.Unlisted ∷ []

abbrev pub declared_part : ℕ → ℕ → Instrument → Instrument → InstrumentPart → List Change
declared_part old new one other part =
    when (instruments_differ part one other) (changes.InstrumentChanged old new part)

-- each part in which two instruments of these numbers differ
abbrev pub declared_parts : ℕ → ℕ → Instrument → Instrument → List InstrumentPart → List Change
declared_parts old new one other these = flat_map (declared_part old new one other) these

-- that a value goes, or that one is new
abbrev pub value_change : Way → ℕ → ℕ → ℕ → ℕ → Change
value_change ways.Gone old new key value = changes.ValueGone old new key value
value_change ways.New old new key value = changes.ValueNew old new key value

-- a value is none of these
abbrev pub lost_value : Way → ℕ → ℕ → ℕ → List AttrValue → ℕ × AttrValue → List Change
lost_value way old new key others value =
    when (not (is_some (place others value.1))) (value_change way old new key value.0)

-- exactly one of both keys may be left out
abbrev pub is_turned : Bool → Bool → Bool
is_turned old new = if old then not new else new

-- what two keys of one name differ in: whether they may be left out, the values that go, and those
-- that are new
abbrev pub key_differences : ℕ → ℕ → ℕ × Key → ℕ × Key → List Change
key_differences old new key other =
    when (is_turned key.1.optional other.1.optional)
    (changes.KeyTurned old new key.0 other.0 key.1.optional)
    ++ (flat_map (lost_value ways.Gone old new key.0 other.1.values)
    (enumerate_from 0 key.1.values)
    ++ flat_map (lost_value ways.New old new other.0 key.1.values)
    (enumerate_from 0 other.1.values))

-- what stands at a place, with that
abbrev pub at_place : {A : Type 0} → List A → ℕ → Option (ℕ × A)
at_place xs number = option_map (λ x. (number, x)) (slice_get xs number)

-- the first key of a name, with its number
abbrev pub key_named : List Key → List ℕ → Option (ℕ × Key)
key_named keys name = option_and_then (at_place keys) (position_from (is_key name) 0 keys)

abbrev pub key_with : ℕ → ℕ → ℕ × Key → Option (ℕ × Key) → List Change
key_with old new key None = changes.DeclaredKeyGone old new key.0 ∷ []
key_with old new key (Some other) = key_differences old new key other

-- an old key goes, or differs from the new one of its name
abbrev pub old_key : ℕ → ℕ → List Key → ℕ × Key → List Change
old_key old new others key = key_with old new key (key_named others key.1.name)

-- a new key has the name of no old one
abbrev pub new_key : ℕ → ℕ → List Key → ℕ × Key → List Change
new_key old new keys key =
    when (not (list_any (is_key key.1.name) keys))
    (changes.DeclaredKeyNew old new key.0 (not key.1.optional))

-- each key that goes or differs, and then each that is new
abbrev pub declared_keys : ℕ → ℕ → List Key → List Key → List Change
declared_keys old new keys others =
    flat_map (old_key old new others) (enumerate_from 0 keys)
    ++ flat_map (new_key old new keys) (enumerate_from 0 others)

-- the first recorder of a name, with its number
abbrev pub recorder_named : List Recorder → List ℕ → Option (ℕ × Recorder)
recorder_named recorders name =
    option_and_then (at_place recorders)
    (position_from (λ recorder. bytes_eq recorder.name name) 0 recorders)

-- two recorders of one name have other budgets for the instruments of these numbers
abbrev pub budget_with : ℕ → ℕ → ℕ × Recorder → Option (ℕ × Recorder) → List Change
budget_with old new recorder None = []
budget_with old new recorder (Some other) =
    when (not (amount_of recorder.1 old == amount_of other.1 new))
    (changes.BudgetChanged old new recorder.0 other.0
    (nat_lt (amount_of other.1 new) (amount_of recorder.1 old)))

abbrev pub budget : ℕ → ℕ → List Recorder → ℕ × Recorder → List Change
budget old new others recorder =
    budget_with old new recorder (recorder_named others recorder.1.name)

-- what is declared of the instruments of these numbers differs: parts, keys, combinations and
-- budgets
abbrev pub declared_with : Contents → Contents → ℕ → ℕ → Option Instrument → Option Instrument
    → List Change
declared_with contents others old new (Some one) (Some other) =
    declared_parts old new one other all_declared_parts
    ++ (declared_keys old new one.keys other.keys
    ++ (combination_changes contents others old new one other
    ++ flat_map (budget old new others.recorders) (enumerate_from 0 contents.recorders)))
declared_with contents others old new one other = []
