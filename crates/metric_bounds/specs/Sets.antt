-- How many distinct sets of attributes a stream may see.
use Rattle.std.specs.Prelude.{◌≡◌, ℕ, ◌+◌, ◌*◌, Bool, if◌then◌else◌, List, [], ◌∷◌, length, Option}
use Rattle.std.specs.Prelude.{Some, None, slice_get}
use Rattle.std.specs.Option.{option_map}
use Rattle.metric_combinations.specs.Restrictions.{restrictions}
use Rattle.metric_contents.specs.declared.contents.Contents.{Contents}
use Rattle.metric_contents.specs.declared.contents.Instrument.{Instrument}
use Rattle.metric_contents.specs.declared.contents.Key.{Key}
use Rattle.metric_views.specs.declared.stream.Stream.{Stream}

-- what a recording may say of a key: one of its values, or nothing where it may be left out
abbrev pub choices_of : Key → ℕ
choices_of key = length key.values + (if key.optional then 1 else 0)

-- the same, as far as a stream sees it: a key that it does not keep tells nothing apart
abbrev pub factor_of : Bool → Key → ℕ
factor_of kept key = if kept then choices_of key else 1

-- the product over the keys, of which each is kept or not
abbrev pub product_over : List Bool → List Key → ℕ
product_over [] keys = 1
product_over (flag ∷ kept) [] = 1
product_over (flag ∷ kept) (key ∷ keys) = factor_of flag key * product_over kept keys

abbrev pub product_within : Stream → Option Instrument → ℕ
product_within stream None = 1
product_within stream (Some instrument) = product_over stream.kept instrument.keys

-- # product of a stream (profile)
-- The product over its kept keys of the number of declared values, one more where the key is
-- optional.
unfoldable pub product_of : Contents → Stream → ℕ
product_of contents stream =
    product_within stream (slice_get contents.instruments stream.instrument)

abbrev pub list_within : Stream → Option Instrument → Option (List (List ℕ))
list_within stream None = None
list_within stream (Some instrument) = option_map (restrictions stream.kept) instrument.allowed

-- # list of a stream (profile)
-- The distinct sets of the kept keys that the allowed combinations of its instrument leave, rising,
-- where the instrument lists them.
unfoldable pub listed_of : Contents → Stream → Option (List (List ℕ))
listed_of contents stream = list_within stream (slice_get contents.instruments stream.instrument)

abbrev pub count_or : ℕ → Option (List (List ℕ)) → ℕ
count_or other None = other
count_or other (Some list) = length list

-- # sets of a stream (profile)
-- As many as its list has, or the product where there is no list; never more than the product.
unfoldable pub sets_of : Contents → Stream → ℕ
sets_of contents stream = count_or (product_of contents stream) (listed_of contents stream)

abbrev pub FlagsEach : Stream → Option Instrument → Type 0
FlagsEach stream None = Unit {0}
FlagsEach stream (Some instrument) = length stream.kept ≡ length instrument.keys

-- The stream says of each key of its instrument whether it is kept.
abbrev pub FlagsKeys : Contents → Stream → Type 0
FlagsKeys contents stream = FlagsEach stream (slice_get contents.instruments stream.instrument)
