-- what is left of a row tells whether it is one; the entries so far, and 0 in the places that are left
use Rattle.std.proofs.Common.{◌≡◌, ◌-◌, ◌++◌, drop, map, replicate, take, unsigned_abs}
use Rattle.toml.specs.View.{view}
use Rattle.metric_table.specs.Fields.{whole_in}
use Rattle.metric_catalogue.specs.Allowed.{is_row}
use Rattle.metric_catalogue.proofs.allowed.row_set.Given as goal

abbrev pub invariant-loop-place : goal.invariant-loop-place
invariant-loop-place l = record {
  left : is_row l.keys (map (λ v. whole_in (view v)) l.entries) ≡ is_row (drop l.place l.keys) (map (λ v. whole_in (view v)) (drop l.place l.entries));
  set : l.set ≡ map (λ v. unsigned_abs (whole_in (view v))) (take l.place l.entries) ++ replicate (8 - l.place) 0;
}
