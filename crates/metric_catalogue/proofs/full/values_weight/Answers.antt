-- all of them
use Rattle.std.proofs.Common.{◌≡◌, ◌∙◌, take_all, ap, arith}
use Rattle.std.specs.Prelude.{List, sum_by}
use Rattle.metric_names.specs.declared.value.AttrValue.{AttrValue}
use Rattle.metric_catalogue.specs.InFull.{value_weight}
use Rattle.metric_catalogue.proofs.full.values_weight.Goals as goal

pub returns-clause-exact : goal.returns-clause-exact
returns-clause-exact c =
    c.loop-value.invariant.done
    ∙ ap (λ (xs : List AttrValue). sum_by value_weight xs)
    (take_all c.loop-value.value-index c.args.values.now (omega arith))
