-- what is found in order
use Rattle.std.proofs.Common.{map, sym}
use Rattle.metric_contents.specs.Attributes.{given_by_owned}
use Rattle.metric_contents.proofs.InOrderLaws.{in_order_is_set}
use Rattle.metric_contents.proofs.encode.set_with_room.Goals as goal

pub returns-in-Some-clause-exact : goal.returns-in-Some-clause-exact
returns-in-Some-clause-exact c = sym (in_order_is_set c.args.keys.now (map given_by_owned c.args.attrs.now) c.in-Some.set c.requires.apart (sym c.in-Some.ensures))
