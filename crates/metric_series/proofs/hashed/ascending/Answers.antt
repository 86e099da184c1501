-- distinct keys that were sorted
use Rattle.std.proofs.Common.{◌≡◌, sym, ap, ◌∙◌, subst, rules}
use Rattle.std.specs.List.{IsDistinct}
use Rattle.std.specs.Map.{keys_of}
use Rattle.std.specs.Str.{bytes_eq}
use Rattle.metric_history.specs.Points.{ascending}
use Rattle.metric_series.proofs.Sorting.{sorted_once}
use Rattle.metric_series.proofs.hashed.ascending.Goals as goal

pub returns : goal.returns
returns g c =
    let keys : c.in_ok-keys.keys.items ≡ keys_of c.args.series.now.entries = search rules in
    sorted_once c.in_ok-keys.keys.items c.sort.new.self.items c.sort.ensures.permutation c.in_ok-sort.ensures.sorted (subst (IsDistinct bytes_eq) (sym keys) c.keys.ensures.unique)
    ∙ ap ascending keys
