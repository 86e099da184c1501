-- what is written, the streams that are left, and the last of each view before them
use Rattle.std.proofs.Common.{◌≡◌, ℕ, List, ◌++◌, [], drop, find, option_and_then, slice_get}
use Rattle.std.specs.BTreeMap.{BTreeMap, get}
use Rattle.std.specs.Ordering.{nat_cmp}
use Rattle.metric_facts.specs.declared.facts.NumberedStream.{NumberedStream}
use Rattle.metric_facts.specs.Flat.{is_of_view, flat_streams}
use Rattle.metric_facts.proofs.WriteLaws.{before}
use Rattle.metric_facts.proofs.flat.write_streams.Given as goal

pub record IsWritten (place : ℕ) (streams : List NumberedStream) (places : BTreeMap ℕ ℕ) (old bytes : List ℕ) : Type 0 where
  pub written : bytes ++ flat_streams (before streams place) (drop place streams) ≡ old ++ flat_streams [] streams
  pub last : (view : ℕ) → option_and_then (slice_get streams) (get nat_cmp places view) ≡ find (is_of_view view) (before streams place)

abbrev pub invariant-loop-place : goal.invariant-loop-place
invariant-loop-place l = IsWritten l.place l.streams l.places l.initial.bytes.items l.bytes.items
