-- those so far, with those that are left
use Rattle.std.proofs.Common.{◌≡◌, drop, map}
use Rattle.wormweekly_c.proofs.AttributeLaws.{read_with}
use Rattle.wormweekly_c.specs.Attributes.{attributes_from}
use Rattle.metric_contents.specs.Attributes.{given_by}
use Rattle.wormweekly_c.proofs.attributes.all_attributes.Given as goal

abbrev pub invariant-loop-own : goal.invariant-loop-own
invariant-loop-own l = attributes_from l.given l.texts ≡ read_with (map given_by l.attrs.items) (attributes_from (drop l.own-index l.given) l.rest)
