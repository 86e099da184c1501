-- the streams are those of the definition, and the facts are theirs, one for each instrument
use Rattle.std.proofs.Common.{length, ap, refl, subst, ◌∙◌}
use Rattle.metric_plan.proofs.PlanLaws.{length-facts_from}
use Rattle.metric_plan.specs.Fingerprints.{fingerprint_of}
use Rattle.metric_plan.specs.Plans.{RangesFit}
use Rattle.metric_plan.proofs.plan.Plan.new.Goals as goal

pub invariant_of-result : goal.invariant_of-result
invariant_of-result c =
    let contents = c.args.catalogue in
    let config = c.args.config in
    record {
      is_print = c.fingerprint_of-fingerprint.ensures;
      is_plan = record {
        one_each = ap length c.in-Ok.ensures ∙ length-facts_from (fingerprint_of contents config) c.args.is_certified c.args.by_product contents.recorders config.readers c.args.streams 0 contents.instruments;
        streams = c.requires.streams;
        facts = rw (c.in-Ok.ensures) refl;
        counted = c.requires.counted;
        safe = c.requires.safe;
        products = c.requires.products;
        vouched = c.requires.vouched;
        ranges = subst RangesFit c.as_slice.ensures c.ranges_fit.ensures;
      };
    }
