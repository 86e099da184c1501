-- how many so far have the name, with those that are left
use Rattle.std.proofs.Common.{◌≡◌, ◌+◌, cond, drop, length}
use Rattle.std.specs.List.{filter}
use Rattle.metric_catalogue.specs.Seats.{is_named}
use Rattle.metric_catalogue.proofs.named.named_twice.Given as goal

abbrev pub invariant-loop-one : goal.invariant-loop-one
invariant-loop-one l =
    cond l.found 1 0 + length (filter (is_named l.name) (drop l.one-index l.named))
    ≡ length (filter (is_named l.name) l.named)
