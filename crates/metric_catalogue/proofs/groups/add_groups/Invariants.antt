-- the instruments so far, and those of the groups that are left, are those of all
use Rattle.std.proofs.Common.{◌≡◌, ◌≤◌, map, drop, length}
use Rattle.std.specs.List.{enumerate_from}
use Rattle.toml.specs.View.{table_view}
use Rattle.metric_base.specs.Steps.{in_turn}
use Rattle.metric_catalogue.specs.Groups.{with_group}
use Rattle.metric_catalogue.proofs.groups.add_groups.Given as goal

abbrev pub invariant-loop-group : goal.invariant-loop-group
invariant-loop-group l = record {
  count : l.number ≡ l.group-index;
  few : length l.instruments ≤ 512;
  exact : in_turn (with_group l.shared (map (λ t. table_view t.now) l.recorders) l.meter l.name) l.instruments (enumerate_from l.number (map (λ t. table_view t.now) (drop l.group-index l.groups)))
      ≡ in_turn (with_group l.shared (map (λ t. table_view t.now) l.recorders) l.meter l.name) l.initial.instruments (enumerate_from 0 (map (λ t. table_view t.now) l.groups));
}
