-- The labels of which it is not known what a line has.
use Rattle.std.specs.Prelude.{◌==◌, ℕ, Bool, not, ◌&&◌, ◌||◌, List, ◌++◌, codes, map}
use Rattle.std.specs.List.{ends_with, list_any, starts_with}
use Rattle.std.specs.Str.{bytes_eq}
use Rattle.metric_contents.specs.declared.contents.Contents.{Contents}
use Rattle.metric_lines.specs.Keys.{kept_names}
use Rattle.metric_views.specs.declared.stream.Stream.{Stream}
use Rattle.metric_family.specs.Labels.{label_of}
use Rattle.metric_family.specs.Words.{is_among}
use Rattle.metric_exposure.specs.Sources.{keys_of}
use Rattle.metric_exposure.specs.Renames.{server_labels}

-- the label under which the name of a series is matched
abbrev pub name_label : List ℕ
name_label = codes "__name__"

-- the labels that a server writes itself of each target, with those that it is known to add
abbrev pub own_labels : List (List ℕ) → List (List ℕ)
own_labels added = server_labels ++ added

-- the label may be one to which a server moves what a line has under its own
abbrev pub is_moved : List ℕ → List ℕ → Bool
is_moved label own =
    starts_with ◌==◌ label (codes "exported_") && ends_with ◌==◌ label own

-- the labels of the kept keys
abbrev pub kept_labels : Contents → Stream → List (List ℕ)
kept_labels contents stream = map label_of (kept_names (keys_of contents stream) stream.kept)

-- a label that a server writes itself, or one to which it may move what a line has under that
abbrev pub is_open_by : List (List ℕ) → List ℕ → List ℕ → Bool
is_open_by labels label own =
    bytes_eq label own || (is_among labels own && is_moved label own)

-- # label that is not judged (Prometheus, scrape configuration, honor_labels) [is_open, is_moved]
-- One that a server writes itself; or one with `exported_` before such a label, where a line may
-- have that: the server moves its text there. The name and the boundaries are the page's own.
abbrev pub is_open : List (List ℕ) → List (List ℕ) → List ℕ → Bool
is_open added labels label =
    not (bytes_eq label name_label || bytes_eq label (codes "le"))
    && list_any (is_open_by labels label) (own_labels added)
