-- How many series a stream can have, as far as facts tell it.
use Rattle.std.specs.Prelude.{◌≡◌, ℕ, ◌+◌, ◌*◌, ◌≤◌, ◌<◌, Bool, if◌then◌else◌, IsTrue, All, List}
use Rattle.std.specs.Prelude.{[], ◌∷◌, length}
use Rattle.metric_facts.specs.declared.facts.FactsFields.{FactsFields as Facts}
use Rattle.metric_facts.specs.declared.facts.KeyFacts.{KeyFacts}
use Rattle.metric_facts.specs.declared.facts.NumberedStream.{NumberedStream}
use Rattle.metric_views.specs.declared.stream.Stream.{Stream}

-- what a recording may say of a key: one of its values, or nothing where it may be left out
abbrev pub key_choices : KeyFacts → ℕ
key_choices key = key.values + (if key.optional then 1 else 0)

-- the same, as far as a stream sees it: a key that it does not keep tells nothing apart
abbrev pub radix : Bool → KeyFacts → ℕ
radix kept key = if kept then key_choices key else 1

-- # by product (profile) [product_of, IsDense, AreAllByProduct]
-- A flag for each stream: the certificate bounds its series by the product over the keys that it
-- keeps. Such a stream of a plan has at most 8 keys, some series, and no more than its limit.
abbrev pub product_of : List Bool → List KeyFacts → ℕ
product_of [] keys = 1
product_of (flag ∷ kept) [] = 1
product_of (flag ∷ kept) (key ∷ keys) = radix flag key * product_of kept keys

-- The product over the keys that a stream keeps is at most its limit.
abbrev pub IsProductWithin : Facts → NumberedStream → Type 0
IsProductWithin facts s = product_of s.stream.kept facts.keys ≤ s.stream.limit

-- Whatever is recorded, no stream of the facts that is by product can
-- have more series than its limit.
abbrev pub AreProductsWithin : Facts → Type 0
AreProductsWithin facts =
    All (λ (s : NumberedStream). IsTrue s.by_product → IsProductWithin facts s) facts.streams

-- A stream of at most 8 keys has room for each series that there can be: it says of each key
-- whether it is kept, and some number of series, at most its limit, can come of the kept ones.
pub record IsDense (keys : List KeyFacts) (s : Stream) : Type 0 where
  pub few : length keys ≤ 8
  pub flags : length s.kept ≡ length keys
  pub some : 0 < product_of s.kept keys
  pub room : product_of s.kept keys ≤ s.limit

-- each stream that is by product has
abbrev pub AreDense : Facts → Type 0
AreDense facts =
    All (λ (s : NumberedStream). IsTrue s.by_product → IsDense facts.keys s.stream) facts.streams

-- each stream is by product
abbrev pub AreAllByProduct : Facts → Type 0
AreAllByProduct facts = All (λ (s : NumberedStream). IsTrue s.by_product) facts.streams
