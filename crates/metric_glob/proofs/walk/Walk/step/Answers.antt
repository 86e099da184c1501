use Rattle.std.proofs.Common.{refl}
use Rattle.std.proofs.lemmas.Bool.{iff_false}
use Rattle.metric_glob.proofs.SuffixLemmas.{rest_stops}
use Rattle.metric_glob.proofs.walk.Walk.step.Goals as goal

pub returns-in_err-star : goal.returns-in_err-star
returns-in_err-star c =
    let dead = rest_stops c.args.pattern.now c.args.text.now c.args.self.now.place c.args.self.now.at (iff_false c.is_star.ensures.star c.if-is_star.false) (iff_false c.stands.ensures.stands c.if-stands.false) c.requires.within in
    let none = c.from_residual.ensures in
    record { moves = rw none (dead, c.in_err-star.was, refl) }

pub returns : goal.returns
returns c =
    let dead = rest_stops c.args.pattern.now c.args.text.now c.args.self.now.place c.args.self.now.at (iff_false c.is_star.ensures.star c.if-is_star.false) (iff_false c.stands.ensures.stands c.if-stands.false) c.requires.within in
    record { moves = (dead, (c.in_ok-star.star, c.in_ok-star.was, refl)) }
