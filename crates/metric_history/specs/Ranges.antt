-- Where each series of a stream stays in range.
use Rattle.std.specs.Prelude.{ℕ, Bool, true, ◌&&◌, List, [], ◌∷◌, ◌++◌, Option, Some, None}
use Rattle.std.specs.List.{list_any}
use Rattle.metric_history.specs.declared.entry.Entry.{Entry}
use Rattle.metric_views.specs.declared.stream.Stream.{Stream}
use Rattle.metric_history.specs.Series.{has, held, belongs}
use Rattle.metric_history.specs.Windows.{fits_stream}

-- whether each recording fits the stream after those before it, of
-- which these came before the first
abbrev pub each_fits : Stream → List Entry → List Entry → Bool
each_fits s before [] = true
each_fits s before (entry ∷ entries) =
    fits_stream s before entry && each_fits s (before ++ entry ∷ []) entries

abbrev pub stays_in_range : Stream → List Entry → Bool
stays_in_range s entries = each_fits s [] entries

-- whether a series has a recording: a held series, or the overflow series
abbrev pub has_rows : Stream → List Entry → Option (List ℕ) → Bool
has_rows s entries (Some key) = has (held s entries) key
has_rows s entries None = list_any (belongs s entries None) entries
