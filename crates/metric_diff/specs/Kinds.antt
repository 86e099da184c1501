-- The kinds of changes, by their names.
use Rattle.std.specs.Prelude.{ℕ, Bool, List, [], ◌∷◌, codes}
use Rattle.std.specs.List.{list_any}
use Rattle.std.specs.Str.{bytes_eq}
use Rattle.metric_diff.specs.declared.change.Change.{Change}
use Rattle.metric_diff.specs.declared.change.Change.TheVariants as changes
use Rattle.metric_diff.specs.declared.change.InstrumentPart.{InstrumentPart}
use Rattle.metric_diff.specs.declared.change.InstrumentPart.TheVariants as declared_parts
use Rattle.metric_diff.specs.declared.change.StreamPart.{StreamPart}
use Rattle.metric_diff.specs.declared.change.StreamPart.TheVariants as parts

abbrev pub part_kind : StreamPart → List ℕ
part_kind parts.Name = codes "name"
part_kind parts.Description = codes "description"
part_kind parts.Unit = codes "unit"
part_kind parts.Kind = codes "kind"
part_kind parts.Aggregation = codes "aggregation"
part_kind parts.Boundaries = codes "boundaries"
part_kind parts.MoreBoundaries = codes "boundaries"
part_kind parts.Limit = codes "limit"
part_kind parts.Temporality = codes "temporality"
part_kind parts.Instrument = codes "instrument"

abbrev pub declared_kind : InstrumentPart → List ℕ
declared_kind declared_parts.Name = codes "name"
declared_kind declared_parts.Description = codes "description"
declared_kind declared_parts.Unit = codes "unit"
declared_kind declared_parts.Kind = codes "kind"
declared_kind declared_parts.Advice = codes "boundaries"
declared_kind declared_parts.Range = codes "range"
declared_kind declared_parts.WiderRange = codes "range"
declared_kind declared_parts.Spare = codes "spare"
declared_kind declared_parts.MoreSpare = codes "spare"
declared_kind declared_parts.Listed = codes "combinations"
declared_kind declared_parts.Unlisted = codes "combinations"

-- # kind of change (profile) [kind_of, is_change]
-- What differs, or what is gone or new behind `gone-` or `new-`.
abbrev pub kind_of : Change → List ℕ
kind_of (changes.ReaderGone old) = codes "gone-reader"
kind_of (changes.ReaderNew new) = codes "new-reader"
kind_of (changes.ReaderRenamed old new) = codes "reader"
kind_of (changes.CollisionGone old) = codes "gone-collision"
kind_of (changes.CollisionNew new) = codes "new-collision"
kind_of (changes.StreamGone old) = codes "gone-stream"
kind_of (changes.StreamNew new) = codes "new-stream"
kind_of (changes.StreamChanged old new part) = part_kind part
kind_of (changes.SeriesChanged old new) = codes "series"
kind_of (changes.KeyGone old new key) = codes "gone-key"
kind_of (changes.KeyNew old new key) = codes "new-key"
kind_of (changes.InstrumentGone old) = codes "gone-instrument"
kind_of (changes.InstrumentNew new) = codes "new-instrument"
kind_of (changes.InstrumentChanged old new part) = declared_kind part
kind_of (changes.DeclaredKeyGone old new key) = codes "gone-key"
kind_of (changes.DeclaredKeyNew old new key is_required) = codes "new-key"
kind_of (changes.KeyTurned old new key other is_required) = codes "key"
kind_of (changes.ValueGone old new key value) = codes "gone-value"
kind_of (changes.ValueNew old new key value) = codes "new-value"
kind_of (changes.CombinationGone old new row) = codes "gone-combination"
kind_of (changes.CombinationNew old new row) = codes "new-combination"
kind_of (changes.BudgetChanged old new recorder other is_less) = codes "budget"
kind_of (changes.HeadroomChanged old new) = codes "headroom"
kind_of (changes.RecorderGone old) = codes "gone-recorder"
kind_of (changes.RecorderNew new) = codes "new-recorder"

-- the names of all kinds
unfoldable pub change_kinds : List (List ℕ)
change_kinds =
    codes "gone-reader" ∷ codes "new-reader" ∷ codes "gone-collision" ∷ codes "new-collision" ∷
    codes "gone-stream" ∷ codes "new-stream" ∷ codes "gone-key" ∷ codes "new-key" ∷
    codes "gone-instrument" ∷ codes "new-instrument" ∷ codes "gone-value" ∷ codes "new-value" ∷
    codes "gone-combination" ∷ codes "new-combination" ∷ codes "gone-recorder" ∷
    codes "new-recorder" ∷ codes "reader" ∷ codes "series" ∷ codes "name" ∷
    codes "description" ∷ codes "unit" ∷ codes "kind" ∷ codes "aggregation" ∷
    codes "boundaries" ∷ codes "limit" ∷ codes "temporality" ∷ codes "instrument" ∷ codes "key" ∷
    codes "range" ∷ codes "spare" ∷ codes "combinations" ∷ codes "budget" ∷ codes "headroom" ∷ []

abbrev pub is_change : List ℕ → Bool
is_change name = list_any (bytes_eq name) change_kinds
