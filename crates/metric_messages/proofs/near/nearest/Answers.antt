-- the words that are as near as the least are the nearest
use Rattle.std.proofs.Common.{◌≡◌, ℕ, find, map, ap, ◌∙◌}
use Rattle.metric_messages.specs.Near.{is_as_near}
use Rattle.metric_messages.proofs.Least.{nearest_by_least}
use Rattle.metric_messages.proofs.near.nearest.Goals as goal

pub returns : goal.returns
returns c =
    let text = c.args.text.now in
    let words = c.args.words.now in
    c.first_as_near.ensures
    ∙ ap (λ (least : ℕ). find (λ word. is_as_near text least word.now) words) c.least_apart.ensures
    ∙ (λ j. find (λ word. nearest_by_least text (map (λ w. w.now) words) word.now j) words)
