-- Labels that a server writes itself of each target, and keys that have them too.
use Rattle.std.specs.Prelude.{ℕ, zero, suc, Bool, true, false, not, ◌&&◌, ◌||◌, ◌==◌, List, [], ◌∷◌}
use Rattle.std.specs.Prelude.{◌++◌, Option, Some, None, codes, drop, filter, is_some, length, map}
use Rattle.std.specs.Prelude.{slice_get}
use Rattle.std.specs.List.{filter_map, list_all, list_any, range_with_len, zip}
use Rattle.std.specs.Str.{bytes_eq}
use Rattle.metric_names.specs.declared.value.AttrValue.{AttrValue}
use Rattle.metric_names.specs.declared.value.AttrValue.TheVariants.{Text, Whole, Flag}
use Rattle.metric_names.specs.Values.{value_text}
use Rattle.metric_contents.specs.declared.contents.Key.{Key}
use Rattle.metric_family.specs.Labels.{label_of}
use Rattle.metric_family.specs.Words.{is_among}
use Rattle.metric_exposure.specs.KeyTexts.{is_empty_text, texts_of}

-- # labels of the target (Prometheus, automatically generated labels and time series)
-- What a server writes of each sample of a target.
abbrev pub server_labels : List (List ℕ)
server_labels = codes "job" ∷ codes "instance" ∷ []

-- a label with `exported_` before it, so many times
abbrev pub exported : ℕ → List ℕ → List ℕ
exported zero label = label
exported (suc times) label = codes "exported_" ++ exported times label

-- a key, where it is kept
abbrev pub kept_key : Key → Bool → Option Key
kept_key key true = Some key
kept_key key false = None

-- a line may show the key under this label
abbrev pub is_shown_as : List ℕ → Key → Bool
is_shown_as label key =
    bytes_eq (label_of key.name) label && list_any (λ text. not (is_empty_text text)) (texts_of key)

-- the first kept key that a line may show under a label
abbrev pub key_as : List Key → List Bool → List ℕ → Option Key
key_as keys kept label =
    slice_get (filter (is_shown_as label) (filter_map (λ x. kept_key x.0 x.1) (zip keys kept))) 0

-- a line may lack the key: it is optional, or a value has the empty text
abbrev pub may_lack : Key → Bool
may_lack key = key.optional || list_any is_empty_text (texts_of key)

-- a text that is shown, and is one of others
abbrev pub is_shared : (List ℕ → Bool) → AttrValue → Bool
is_shared among (Text text) = not (length text == 0) && among text
is_shared among (Whole number) = false
is_shared among (Flag flag) = false

-- the key may be absent, and have one of these texts
abbrev pub may_take : (List ℕ → Bool) → Key → Bool
may_take among key = may_lack key && list_any (is_shared among) (texts_of key)

-- the second key may be absent where the first has a text that it may have too
abbrev pub takes : Option Key → Option Key → Bool
takes (Some first) (Some key) = may_take (is_among (map value_text first.values)) key
takes (Some first) None = false
takes None key = false

-- the text of a server's label may come to stand under the label with so many `exported_`: keys
-- have all those with fewer
abbrev pub is_reached : List Key → List Bool → List ℕ → ℕ → Bool
is_reached keys kept own times =
    list_all (λ n. is_some (key_as keys kept (exported n own))) (range_with_len 0 times)

abbrev pub is_place : List Key → List Bool → List ℕ → ℕ → Bool
is_place keys kept own times =
    is_reached keys kept own times
    && takes (key_as keys kept own) (key_as keys kept (exported times own))

abbrev pub place_labels : List Key → List Bool → List ℕ → List (List ℕ)
place_labels keys kept own =
    map (λ times. exported times own)
    (filter (is_place keys kept own) (range_with_len 0 (length keys)))

-- # labels that a server merges (Prometheus, scrape configuration, honor_labels)
-- A server moves the text of a label that it writes itself to the first label with one `exported_`
-- or more that the series does not have. Two series become one where that text may stand in two
-- places: the labels are those of all such places but the first.
unfoldable pub merged_labels : List Key → List Bool → List ℕ → List (List ℕ)
merged_labels keys kept own = drop 1 (place_labels keys kept own)
