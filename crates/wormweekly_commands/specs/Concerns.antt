-- Which remarks count.
use Rattle.std.specs.Prelude.{◌||◌, ◌&&◌, ◌==◌, ℕ, Bool, false, not, List, [], ◌∷◌, codes, if◌then◌else◌}
use Rattle.std.specs.Prelude.{length, slice_index_or}
use Rattle.std.specs.List.{enumerate_from, flat_map, list_any}
use Rattle.std.specs.Str.{bytes_eq}
use Rattle.metric_lint.specs.Kinds.{kind_of}
use Rattle.metric_diff.specs.Breaking.{is_breaking}
use Rattle.metric_diff.specs.Kinds as changes
use Rattle.metric_diff.specs.declared.change.Change.{Change}
use Rattle.wormweekly_commands.specs.declared.notes.Notes.{Notes}

-- a kind is among words
abbrev pub names : List (List ℕ) → List ℕ → Bool
names words kind = list_any (λ word. bytes_eq word kind) words

-- what has a kind, unless it is among words
abbrev pub unless_named : {A : Type 0} → (A → List ℕ) → List (List ℕ) → A → List A
unless_named kind words one = if names words (kind one) then [] else one ∷ []

-- it is denied by them, by its own name or with all
abbrev pub denies : List (List ℕ) → List ℕ → Bool
denies words kind = names words (codes "remarks") || names words kind

-- they deny some remark
abbrev pub denies_some : List (List ℕ) → Notes → Bool
denies_some words notes =
    list_any (λ remark. denies words (kind_of remark)) notes.remarks
    || (not (length notes.exposures.items == 0) && denies words (codes "exposure"))

-- a change, unless a file accepts it, which is said of each by its place
abbrev pub unless_accepted : List Bool → ℕ × Change → List Change
unless_accepted accepted placed =
    if slice_index_or accepted placed.0 false then [] else placed.1 ∷ []

-- those that are not accepted
abbrev pub still_open : List Bool → List Change → List Change
still_open accepted these = flat_map (unless_accepted accepted) (enumerate_from 0 these)

-- it is denied by words, by the name of its kind or as one that breaks
abbrev pub denies_change : List (List ℕ) → Change → Bool
denies_change words change =
    (names words (codes "breaking") && is_breaking change) || names words (changes.kind_of change)

-- queries that a change breaks are denied
abbrev pub denies_broken : List (List ℕ) → Bool
denies_broken words = names words (codes "breaking") || names words (codes "broken-query")
