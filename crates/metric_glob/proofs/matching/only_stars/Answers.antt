use Rattle.std.proofs.Common.{◌∙◌, ◌<◌, length, arith}
use Rattle.std.proofs.lemmas.Bool.{iff_false}
use Rattle.metric_glob.proofs.SuffixLemmas.{stars_more, stars_end}
use Rattle.metric_glob.proofs.matching.only_stars.Goals as goal

pub loop-place-preserved : goal.loop-place-preserved
loop-place-preserved c =
    let star = (c.is_star.ensures.star).0 c.loop-place-test.true in
    let within : c.loop-place.place < length c.args.pattern.now = star.within in
    record {
      within = omega arith;
      same = stars_more c.args.pattern.now c.loop-place.place star ∙ c.loop-place.invariant.same;
    }

pub returns : goal.returns
returns c =
    stars_end c.args.pattern.now c.loop-place.place c.loop-place.invariant.within (iff_false c.is_star.ensures.star c.loop-place-test.false)
    ∙ c.loop-place.invariant.same
