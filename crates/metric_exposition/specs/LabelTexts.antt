-- How labels and other texts are written.
use Rattle.std.specs.Prelude.{ℕ, Bool, true, ◌&&◌, ◌==◌, if◌then◌else◌, List, [], ◌∷◌, ◌++◌, codes, length}
use Rattle.std.specs.List.{flat_map, join_by}
use Rattle.metric_family.specs.Labels.{Label, shown}
use Rattle.metric_family.specs.Words.{is_some}

-- a byte of a text: a backslash and a line feed have a backslash before them, and quotes where
-- they are escaped
abbrev pub escape : Bool → ℕ → List ℕ
escape quotes b =
    if b == 92 then 92 ∷ 92 ∷ [] else (
    if b == 10 then 92 ∷ 110 ∷ [] else (
    if (b == 34) && quotes then 92 ∷ 34 ∷ [] else b ∷ []))

unfoldable pub escaped : Bool → List ℕ → List ℕ
escaped quotes text = flat_map (escape quotes) text

-- what stands behind the name of a label: its text in quotes
unfoldable pub quoted : List ℕ → List ℕ
quoted text = codes "=\"" ++ (escaped true text ++ codes "\"")

abbrev pub label_text : Label → List ℕ
label_text label = label.0 ++ quoted label.1

-- # labels of a line (Prometheus text format) [labels_text, braced]
-- The labels of a point with commas between, without those whose text is empty; in braces, where
-- there are any.
unfoldable pub labels_text : List Label → List ℕ
labels_text labels = join_by label_text (44 ∷ []) (shown labels)

-- labels in braces, nothing where there are none
unfoldable pub braced : List ℕ → List ℕ
braced labels = if length labels == 0 then [] else codes "{" ++ (labels ++ codes "}")

-- labels with a comma behind them, nothing where there are none
unfoldable pub comma_after : List ℕ → List ℕ
comma_after labels = if length labels == 0 then [] else labels ++ codes ","

-- a label more, unless its text is empty
unfoldable pub with_label : List ℕ → Label → List ℕ
with_label labels label =
    if is_some label.1 then comma_after labels ++ label_text label else labels

abbrev pub with_labels : List ℕ → List Label → List ℕ
with_labels labels [] = labels
with_labels labels (label ∷ others) = with_labels (with_label labels label) others
