-- Where nothing differs: what is compared is equal, up to the order of tables.
use Rattle.std.specs.Prelude.{ℕ, Bool, true, false, not, ◌==◌, ◌&&◌, is_some, List, [], ◌∷◌}
use Rattle.std.specs.Prelude.{Option, Some, None, slice_get}
use Rattle.std.specs.List.{enumerate_from, list_all, list_any}
use Rattle.metric_names.specs.declared.value.AttrValue.{AttrValue}
use Rattle.metric_contents.specs.declared.contents.Contents.{Contents}
use Rattle.metric_contents.specs.declared.contents.Instrument.{Instrument}
use Rattle.metric_contents.specs.declared.contents.Key.{Key}
use Rattle.metric_contents.specs.declared.contents.Recorder.{Recorder}
use Rattle.metric_contents.specs.Budgets.{amount_of}
use Rattle.metric_contents.specs.KeyNames.{is_key}
use Rattle.metric_contents.specs.Places.{place}
use Rattle.metric_views.specs.declared.stream.Stream.{Stream}
use Rattle.metric_diff.specs.declared.named.Sort.{Sort}
use Rattle.metric_diff.specs.declared.named.Sort.TheVariants as sorts
use Rattle.metric_diff.specs.Changes.{Plan, has_other_name, most_at, names}
use Rattle.metric_diff.specs.Combined.{is_shut_out}
use Rattle.metric_diff.specs.Instruments.{all_declared_parts, instruments_differ, is_turned, key_named}
use Rattle.metric_diff.specs.Instruments.{recorder_named}
use Rattle.metric_diff.specs.Known.{place_of}
use Rattle.metric_diff.specs.Parts.{all_parts, differs, is_lost, keys_of}

-- each value of the second list is one of the first
abbrev pub has_each : List AttrValue → List AttrValue → Bool
has_each others values = list_all (λ value. is_some (place others value)) values

-- both may be left out or neither, and the values of one are those of the other, in any order
abbrev pub is_same_key : Key → Key → Bool
is_same_key key other =
    not (is_turned key.optional other.optional)
    && (has_each other.values key.values && has_each key.values other.values)

abbrev pub is_same_key_as : Key → Option (ℕ × Key) → Bool
is_same_key_as key None = false
is_same_key_as key (Some other) = is_same_key key other.1

-- the keys of one list are those of the other, in any order
abbrev pub are_same_keys : List Key → List Key → Bool
are_same_keys keys others =
    list_all (λ key. is_same_key_as key (key_named others key.name)) keys
    && list_all (λ key. list_any (is_key key.name) keys) others

-- the instrument of a number refuses no row of these keys for its combination
abbrev pub are_let_in : List Instrument → ℕ → List Key → Option (List (List ℕ)) → Bool
are_let_in others other keys None = true
are_let_in others other keys (Some rows) =
    list_all (λ row. not (is_shut_out others other keys row)) rows

abbrev pub is_same_budget : ℕ → ℕ → Recorder → Option (ℕ × Recorder) → Bool
is_same_budget old new recorder None = true
is_same_budget old new recorder (Some other) = amount_of recorder old == amount_of other.1 new

-- no part of two instruments differs, their keys and combinations are the same, and so are the
-- budgets of each recorder of both
abbrev pub is_same_declared : Contents → Contents → ℕ → ℕ → Option Instrument → Option Instrument
    → Bool
is_same_declared contents others old new (Some one) (Some other) =
    list_all (λ part. not (instruments_differ part one other)) all_declared_parts
    && (are_same_keys one.keys other.keys
    && ((are_let_in others.instruments new one.keys one.allowed
    && are_let_in contents.instruments old other.keys other.allowed)
    && list_all
    (λ recorder. is_same_budget old new recorder (recorder_named others.recorders recorder.name))
    contents.recorders))
is_same_declared contents others old new one other = true

abbrev pub is_same_number : Option ℕ → Option ℕ → Bool
is_same_number (Some one) (Some other) = one == other
is_same_number one other = true

-- the keys that one stream keeps are those that the other does
abbrev pub keeps_same : List Key → List Key → Stream → Stream → Bool
keeps_same keys others s t =
    list_all (λ key. not (is_lost others s t key)) (enumerate_from 0 keys)
    && list_all (λ key. not (is_lost keys t s key)) (enumerate_from 0 others)

-- no part of two streams differs, and they keep the same keys
abbrev pub is_same_stream : Contents → Contents → Option Stream → Option Stream → Bool
is_same_stream contents others (Some s) (Some t) =
    list_all (λ part. not (differs part contents others s t)) all_parts
    && keeps_same (keys_of contents s) (keys_of others t) s t
is_same_stream contents others s t = true

-- the old one of a number and the new one of another
abbrev pub is_same : Sort → Plan → Plan → ℕ → ℕ → Bool
is_same sorts.Readers old new number other =
    not (has_other_name (slice_get old.config.readers number) (slice_get new.config.readers other))
is_same sorts.Streams old new number other =
    is_same_stream old.contents new.contents (slice_get old.streams number)
    (slice_get new.streams other)
    && is_same_number (slice_get old.series number) (slice_get new.series other)
is_same sorts.Collisions old new number other = true
is_same sorts.Instruments old new number other =
    is_same_declared old.contents new.contents number other
    (slice_get old.contents.instruments number) (slice_get new.contents.instruments other)
    && is_same_number (most_at old.rooms number) (most_at new.rooms other)
is_same sorts.Recorders old new number other = true

abbrev pub is_same_as : Sort → Plan → Plan → ℕ → Option ℕ → Bool
is_same_as sort old new number None = false
is_same_as sort old new number (Some other) = is_same sort old new number other

-- each old one has a new one of its name, which is the same, and each new one an old one
unfoldable pub are_same : Sort → Plan → Plan → Bool
are_same sort old new =
    list_all (λ name. is_same_as sort old new name.0 (place_of (names sort old new) name.1))
    (enumerate_from 0 (names sort old old))
    && list_all (λ name. is_some (place_of (names sort old old) name)) (names sort old new)

-- # where nothing differs (profile)
-- The readers, the streams, those that have the name of another, the instruments and the recorders
-- of both are the same, in whatever order they, the keys, the values, the combinations and the
-- budgets stand.
abbrev pub is_equal : Plan → Plan → Bool
is_equal old new =
    are_same sorts.Readers old new
    && (are_same sorts.Streams old new
    && (are_same sorts.Collisions old new
    && (are_same sorts.Instruments old new && are_same sorts.Recorders old new)))

abbrev pub is_nil : {A : Type 0} → List A → Bool
is_nil [] = true
is_nil (x ∷ xs) = false
