-- the keys so far declare what they are given, their entries, and 0 in the places that are left
use Rattle.std.proofs.Common.{◌≡◌, ◌-◌, ◌++◌, map, take, replicate, true, unwrap_or}
use Rattle.std.specs.List.{list_all}
use Rattle.metric_contents.specs.Encoding.{entry_at}
use Rattle.metric_contents.specs.ByKeys.{is_allowed}
use Rattle.metric_contents.proofs.encode.entries_of.Given as goal

abbrev pub invariant-loop-place : goal.invariant-loop-place
invariant-loop-place g l = record {
  allowed : list_all (is_allowed (map g.A.Attribute.given l.attrs)) (take l.place l.keys) ≡ true;
  set : l.set ≡ map (λ key. unwrap_or (entry_at (map g.A.Attribute.given l.attrs) key) 0) (take l.place l.keys) ++ replicate (8 - l.place) 0;
}
