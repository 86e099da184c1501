-- one more value has its place, or stands twice
use Rattle.std.proofs.Common.{◌≡◌, ◌∙◌, sym, arith, rules, take, None}
use Rattle.std.proofs.lemmas.Grind.{common_steps}
use Rattle.metric_contents.specs.Places.{place}
use Rattle.metric_contents.proofs.Numbered.{none_from_test, numbers_more, repeats_more}
use Rattle.metric_contents.proofs.numbering.Numbering.number_all.Goals as goal

pub loop-place-preserved : goal.loop-place-preserved
loop-place-preserved c =
    let none = none_from_test c.in_ok-earlier.earlier (sym c.is_some.ensures ∙ c.if-is_some.false) in
    let fresh = sym c.in_ok-earlier.ensures.old ∙ none in
    let absent : place (take c.loop-place.place c.args.values.now) c.index-values-place.result ≡ None = sym (c.loop-place.invariant.numbers c.index-values-place.result) ∙ fresh in
    record {
      numbers = numbers_more c.loop-place.self c.insert.new.self c.args.values.now c.loop-place.place c.index-values-place.result (omega arith) c.index-values-place.is c.loop-place.invariant.numbers fresh c.in_ok-earlier.ensures.new;
      left = sym (repeats_more c.args.values.now c.loop-place.place c.index-values-place.result (omega arith) c.index-values-place.is absent) ∙ c.loop-place.invariant.left;
    }

pub returns-then-is_some-clause-distinct : goal.returns-then-is_some-clause-distinct
returns-then-is_some-clause-distinct c = grind (arith, common_steps)

pub returns-then-is_some-clause-numbers : goal.returns-then-is_some-clause-numbers
returns-then-is_some-clause-numbers c = search rules
