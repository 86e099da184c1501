-- the values so far, and those of the entries that are left, are those of all
use Rattle.std.proofs.Common.{◌≡◌, ◌≤◌, ◌+◌, map, drop, length}
use Rattle.toml.specs.View.{view}
use Rattle.metric_base.specs.Steps.{in_turn}
use Rattle.metric_catalogue.specs.KeyValues.{with_entry}
use Rattle.metric_catalogue.proofs.values.add_entries.Given as goal

abbrev pub invariant-loop-entry : goal.invariant-loop-entry
invariant-loop-entry l = record {
  entries : l.listing.entries ≡ l.initial.listing.entries + l.entry-index;
  few : length l.listing.values ≤ 1000;
  exact : in_turn (with_entry l.format l.at) l.listing (map view (drop l.entry-index l.entries))
      ≡ in_turn (with_entry l.format l.at) l.initial.listing (map view l.entries);
}
