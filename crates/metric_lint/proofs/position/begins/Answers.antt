-- what is left when the line ends
use Rattle.std.proofs.Common.{ℕ, List, filter, not, sym, ap, ◌∙◌, arith}
use Rattle.std.proofs.lemmas.List.{drop_all}
use Rattle.metric_lint.specs.Positions.{begins_with, skips}
use Rattle.metric_lint.proofs.Headers.{empty_begins}
use Rattle.metric_lint.proofs.position.begins.Goals as goal

pub returns : goal.returns
returns c =
    let left = c.loop-byte.left.now in
    c.is_empty.ensures ∙ empty_begins left
    ∙ ap (λ (bytes : List ℕ). begins_with left (filter (λ byte. not (skips byte)) bytes)) (sym (drop_all c.loop-byte.byte-index c.args.line.now (omega arith)))
    ∙ c.loop-byte.invariant
