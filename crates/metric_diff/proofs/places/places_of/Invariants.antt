-- the first place of each of the names so far
use Rattle.std.proofs.Common.{◌≡◌, ℕ, List, take}
use Rattle.std.specs.BTreeMap.{get_by_text}
use Rattle.metric_diff.specs.Known.{place_of}
use Rattle.metric_diff.proofs.places.places_of.Given as goal

abbrev pub invariant-loop-place : goal.invariant-loop-place
invariant-loop-place l = (name : List ℕ) → get_by_text l.places name ≡ place_of (take l.place l.names) name
