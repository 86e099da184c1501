-- those so far, with those that are left
use Rattle.std.proofs.Common.{◌≡◌, true, drop, length, map, take}
use Rattle.wormweekly_c.proofs.AttributeLaws.{read_with}
use Rattle.wormweekly_c.specs.Attributes.{attributes_from}
use Rattle.metric_contents.specs.Attributes.{given_by}
use Rattle.wormweekly_c.proofs.attributes.few_attributes.Given as goal

abbrev pub invariant-loop-at : goal.invariant-loop-at
invariant-loop-at l = record {
  places : length l.all ≡ 8;
  reading : l.are_read ≡ true;
  so_far : attributes_from l.given l.texts ≡ read_with (map given_by (take l.at l.all)) (attributes_from (drop l.at l.given) l.rest);
}
