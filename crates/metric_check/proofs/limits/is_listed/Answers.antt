-- a list is the stream's where it is equal to the one that is given
use Rattle.std.proofs.Common.{◌≡◌, Some, IfSome, subst}
use Rattle.metric_bounds.specs.Sets.{listed_of}
use Rattle.metric_check.proofs.Bounded.{same_list}
use Rattle.metric_check.proofs.limits.is_listed.Goals as goal

pub returns-in-Some : goal.returns-in-Some
returns-in-Some c =
    let given = subst (λ o. IfSome o (λ own. listed_of c.args.catalogue.now c.args.stream.now ≡ Some own.now)) c.in-Some.is c.requires in
    same_list (listed_of c.args.catalogue.now c.args.stream.now) c.in-Some.own.now c.args.list.now c.eq.result given c.eq.ensures
