use Rattle.std.proofs.Common.{rules, tests}
use Rattle.std.specs.List.{list_any}
use Rattle.std.proofs.lemmas.Iterator.{YieldsList-from_slice}
use Rattle.std.proofs.lemmas.Iterator.Search.{all_from_yields_List, any_from_yields_List}
use Rattle.metric_queries.specs.ByKeys.{is_row_asked}
use Rattle.metric_queries.proofs.points.has_set.Goals as goal

pub returns-in-None : goal.returns-in-None
returns-in-None c =
    rw c.in-None.is (all_from_yields_List (λ mask. list_any (λ is_asked. is_asked) mask) _ _ _ c.all.ensures.ran (YieldsList-from_slice c.args.masks.now cc) (λ x b q k. search (rules, tests)))

pub returns-in-Some : goal.returns-in-Some
returns-in-Some c =
    rw c.in-Some.is (any_from_yields_List (is_row_asked c.args.masks.now) _ _ _ c.any.ensures.ran (YieldsList-from_slice c.in-Some.combinations cc) (λ x b q k. search (rules, tests)))
