-- all of them
use Rattle.std.proofs.Common.{◌≡◌, ◌∙◌, take_all, ap, arith}
use Rattle.std.specs.Prelude.{List, sum_by}
use Rattle.metric_contents.specs.declared.contents.Key.{Key}
use Rattle.metric_catalogue.specs.InFull.{key_weight}
use Rattle.metric_catalogue.proofs.full.keys_weight.Goals as goal

pub returns-clause-exact : goal.returns-clause-exact
returns-clause-exact c =
    c.loop-key.invariant.done
    ∙ ap (λ (xs : List Key). sum_by key_weight xs)
    (take_all c.loop-key.key-index c.args.keys.now (omega arith))
