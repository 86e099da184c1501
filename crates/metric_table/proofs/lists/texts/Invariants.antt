-- the texts so far, and those of the values that are left, are those of all
use Rattle.std.proofs.Common.{◌≡◌, map, drop, length, []}
use Rattle.toml.specs.View.{view}
use Rattle.metric_base.specs.Steps.{each}
use Rattle.metric_table.specs.Fields.{short_text_of}
use Rattle.metric_table.proofs.lists.texts.Given as goal

abbrev pub invariant-loop-value : goal.invariant-loop-value
invariant-loop-value g l = record {
  few : length l.texts ≡ l.value-index;
  exact : each (λ _ d. short_text_of l.faults d) l.texts (map view (drop l.value-index l.values))
      ≡ each (λ _ d. short_text_of l.faults d) [] (map view l.values);
}
