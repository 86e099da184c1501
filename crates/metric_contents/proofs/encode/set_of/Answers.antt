-- what is found in order
use Rattle.std.proofs.Common.{map, sym}
use Rattle.metric_contents.proofs.InOrderLaws.{in_order_is_set}
use Rattle.metric_contents.proofs.encode.set_of.Goals as goal

pub returns-in-Some : goal.returns-in-Some
returns-in-Some g c = sym (in_order_is_set c.args.keys.now (map g.A.Attribute.given c.args.attrs.now) c.in-Some.set c.requires.apart (sym c.in-Some.ensures))
