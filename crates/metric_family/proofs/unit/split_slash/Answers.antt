-- the unit is cut at its first slash
use Rattle.std.proofs.Common.{ℕ, ◌+◌, Option, length, take, drop, ap, ◌∙◌}
use Rattle.std.specs.Option.{unwrap_or}
use Rattle.metric_family.specs.Units.{is_slash}
use Rattle.metric_family.proofs.WordLaws.{place_is}
use Rattle.metric_family.proofs.unit.split_slash.Goals as goal

pub returns-clause-before : goal.returns-clause-before
returns-clause-before c =
    let text = c.args.unit.now in
    c.split_around.ensures.before ∙ ap (λ (o : Option ℕ). take (unwrap_or o (length text)) text) c.first_slash.ensures.place ∙ ap (λ (n : ℕ). take n text) (place_is is_slash text)

pub returns-clause-after : goal.returns-clause-after
returns-clause-after c =
    let text = c.args.unit.now in
    c.split_around.ensures.after ∙ ap (λ (o : Option ℕ). drop (unwrap_or o (length text) + 1) text) c.first_slash.ensures.place ∙ ap (λ (n : ℕ). drop (n + 1) text) (place_is is_slash text)
