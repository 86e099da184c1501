-- one list after the other
use Rattle.metric_lint.proofs.Told.{on_ok, two}
use Rattle.metric_lint.proofs.linting.add_lists.Goals as goal

pub returns : goal.returns
returns c =
    on_ok c.add_list-2.result _ _ (λ added. two c.args.remarks.now _ _ _ _ c.in_ok-add_list.ensures added) c.add_list-2.ensures
