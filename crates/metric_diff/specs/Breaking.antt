-- What breaks what is built on the streams, or refuses what could be recorded.
use Rattle.std.specs.Prelude.{Bool, true, false}
use Rattle.metric_diff.specs.declared.change.Change.{Change}
use Rattle.metric_diff.specs.declared.change.Change.TheVariants as changes
use Rattle.metric_diff.specs.declared.change.InstrumentPart.{InstrumentPart}
use Rattle.metric_diff.specs.declared.change.InstrumentPart.TheVariants as declared_parts
use Rattle.metric_diff.specs.declared.change.StreamPart.{StreamPart}
use Rattle.metric_diff.specs.declared.change.StreamPart.TheVariants as parts

abbrev pub breaks : StreamPart → Bool
breaks parts.Name = true
breaks parts.Description = false
breaks parts.Unit = true
breaks parts.Kind = true
breaks parts.Aggregation = true
breaks parts.Boundaries = true
breaks parts.MoreBoundaries = false
breaks parts.Limit = false
breaks parts.Temporality = true
breaks parts.Instrument = true

-- A unit, a description and advised boundaries break where a stream that has them differs.
abbrev pub refuses : InstrumentPart → Bool
refuses declared_parts.Name = false
refuses declared_parts.Description = false
refuses declared_parts.Unit = false
refuses declared_parts.Kind = true
refuses declared_parts.Advice = false
refuses declared_parts.Range = true
refuses declared_parts.WiderRange = false
refuses declared_parts.Spare = true
refuses declared_parts.MoreSpare = false
refuses declared_parts.Listed = true
refuses declared_parts.Unlisted = false

-- # breaking change (profile)
-- A stream, a kept key or a boundary goes; a stream is of another instrument; the capitals of its
-- name, its unit, kind, aggregation or temporality are others. An instrument, a declared key, a
-- value, a combination, a value of a range or a recorder goes; combinations are listed that were
-- not; a key is required that could be left out; an instrument is of another kind; a budget or a
-- spare is less.
abbrev pub is_breaking : Change → Bool
is_breaking (changes.ReaderGone old) = true
is_breaking (changes.ReaderNew new) = false
is_breaking (changes.ReaderRenamed old new) = false
is_breaking (changes.CollisionGone old) = false
is_breaking (changes.CollisionNew new) = true
is_breaking (changes.StreamGone old) = true
is_breaking (changes.StreamNew new) = false
is_breaking (changes.StreamChanged old new part) = breaks part
is_breaking (changes.SeriesChanged old new) = false
is_breaking (changes.KeyGone old new key) = true
is_breaking (changes.KeyNew old new key) = false
is_breaking (changes.InstrumentGone old) = true
is_breaking (changes.InstrumentNew new) = false
is_breaking (changes.InstrumentChanged old new part) = refuses part
is_breaking (changes.DeclaredKeyGone old new key) = true
is_breaking (changes.DeclaredKeyNew old new key is_required) = is_required
is_breaking (changes.KeyTurned old new key other is_required) = is_required
is_breaking (changes.ValueGone old new key value) = true
is_breaking (changes.ValueNew old new key value) = false
is_breaking (changes.CombinationGone old new row) = true
is_breaking (changes.CombinationNew old new row) = false
is_breaking (changes.BudgetChanged old new recorder other is_less) = is_less
is_breaking (changes.HeadroomChanged old new) = false
is_breaking (changes.RecorderGone old) = true
is_breaking (changes.RecorderNew new) = false
