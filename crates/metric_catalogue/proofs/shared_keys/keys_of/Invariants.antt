-- the keys so far, and those of the entries that are left, are those of all
use Rattle.std.proofs.Common.{◌≡◌, map, drop, length, []}
use Rattle.toml.specs.View.{view}
use Rattle.metric_base.specs.Steps.{each}
use Rattle.metric_catalogue.specs.SharedKeys.{key_entry}
use Rattle.metric_catalogue.proofs.shared_keys.keys_of.Given as goal

abbrev pub invariant-loop-entry : goal.invariant-loop-entry
invariant-loop-entry l = record {
  few : length l.keys ≡ l.entry-index;
  exact : each (key_entry l.format l.shared l.instrument) l.keys (map view (drop l.entry-index l.entries))
      ≡ each (key_entry l.format l.shared l.instrument) [] (map view l.entries);
}
