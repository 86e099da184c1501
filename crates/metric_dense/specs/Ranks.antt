-- The series of a rank, and the keys whose sets have one.
use Rattle.std.specs.Prelude.{◌≡◌, ℕ, ◌+◌, ◌-◌, ◌/◌, ◌%◌, ◌≤◌, ◌<◌, ◌^◌, Bool, true}
use Rattle.std.specs.Prelude.{if◌then◌else◌, List, [], ◌∷◌, length, replicate}
use Rattle.metric_facts.specs.declared.facts.KeyFacts.{KeyFacts}
use Rattle.metric_facts.specs.Facts.{is_full_set}
use Rattle.metric_facts.specs.Products.{product_of}

-- the entry of a digit
abbrev pub entry_of : KeyFacts → ℕ → ℕ
entry_of key digit = if key.optional then digit else digit + 1

abbrev pub entry_if : Bool → KeyFacts → ℕ → ℕ
entry_if kept key digit = if kept then entry_of key digit else 0

-- # rank (profile) [rank, unrank]
-- The place of a full set in the mixed radix that the choices of each kept key make, the first key
-- the most significant.
abbrev pub unrank : ℕ → List Bool → List KeyFacts → ℕ → List ℕ
unrank pad [] keys r = replicate pad 0
unrank pad (flag ∷ kept) [] r = replicate pad 0
unrank pad (flag ∷ kept) (key ∷ keys) r =
    entry_if flag key (r / product_of kept keys) ∷ unrank pad kept keys (r % product_of kept keys)

-- the series of a rank, which is a set key
abbrev pub series_of : List Bool → List KeyFacts → ℕ → List ℕ
series_of kept keys r = unrank (8 - length keys) kept keys r

-- a full set, which is a set key
pub record IsTaken (keys : List KeyFacts) (set : List ℕ) : Type 0 where
  pub long : length set ≡ 8
  pub full : is_full_set keys set ≡ true

-- of at most 8 keys each is kept or not, and there is some series, but no
-- more than a number of 32 bits says
pub record IsRanked (kept : List Bool) (keys : List KeyFacts) : Type 0 where
  pub flags : length kept ≡ length keys
  pub few : length keys ≤ 8
  pub some : 0 < product_of kept keys
  pub small : product_of kept keys < 2 ^ 32
