use Rattle.std.proofs.Common.{eqb, length, refl}
use Rattle.std.proofs.lemmas.Bool.{iff_false}
use Rattle.metric_glob.proofs.TakesLemmas.{nothing_starts, nothing_more, nothing_ended}
use Rattle.metric_glob.proofs.why.take_nothing.Goals as goal

pub stars-init : goal.stars-init
stars-init c = nothing_starts c.args.pattern.now c.args.takes.now c.args.start c.requires

pub stars-preserved : goal.stars-preserved
stars-preserved c = nothing_more c.args.pattern.now c.args.takes.now c.stars.takes c.push.new.self c.args.start c.stars.place c.stars.invariant ((c.is_star.ensures.star).0 c.stars-test.true) c.in_ok-push.ensures.ok

pub returns : goal.returns
returns c = nothing_ended c.args.pattern.now c.args.takes.now c.stars.takes c.args.start c.stars.place (eqb c.stars.place (length c.args.pattern.now)) c.stars.invariant (iff_false c.is_star.ensures.star c.stars-test.false) refl
