-- Names of a file that are apart.
use Rattle.std.specs.Prelude.{◌≡◌, ◌≢◌, ◌<◌, ℕ, List, [], Option, AllPairs, MatchOption}
use Rattle.std.specs.Prelude.{length, map, get_or, take}
use Rattle.metric_bind.specs.declared.tree.Named.{Named}

-- # the names of a made file are apart (profile) [AreApart]
-- No two of the names are the same.
abbrev pub AreApart : List (List ℕ) → Type 0
AreApart names = AllPairs (λ name other. name ≢ other) names

-- A name stands at two places, and before the later one all names are apart.
pub record IsClash (names : List (List ℕ)) (places : ℕ × ℕ) : Type 0 where
  pub rising : places.0 < places.1
  pub within : places.1 < length names
  pub same : get_or names places.0 [] ≡ get_or names places.1 []
  pub apart : AreApart (take places.1 names)

-- The first clash, where the names are not apart.
abbrev pub IsFirstClash : List (List ℕ) → Option (ℕ × ℕ) → Type 0
IsFirstClash names found = MatchOption found (AreApart names) (IsClash names)

-- the names of things
abbrev pub names_in : List Named → List (List ℕ)
names_in things = map (λ named. named.name) things
