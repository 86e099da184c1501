-- the text is cut at the first character that is none of a word's
use Rattle.std.proofs.Common.{ℕ, ◌+◌, ◌<◌, Option, length, take, drop, sym, ap, subst, ◌∙◌, List}
use Rattle.std.specs.Option.{unwrap_or}
use Rattle.metric_family.specs.Words.{is_between}
use Rattle.metric_family.proofs.WordLaws.{after_shorter, place_is}
use Rattle.metric_family.proofs.words.split_word.Goals as goal

pub returns-clause-word : goal.returns-clause-word
returns-clause-word c =
    let text = c.args.text.now in
    c.split_around.ensures.before ∙ ap (λ (o : Option ℕ). take (unwrap_or o (length text)) text) c.first_between.ensures.place ∙ ap (λ (n : ℕ). take n text) (place_is is_between text)

pub returns-clause-others : goal.returns-clause-others
returns-clause-others c =
    let text = c.args.text.now in
    c.split_around.ensures.after ∙ ap (λ (o : Option ℕ). drop (unwrap_or o (length text) + 1) text) c.first_between.ensures.place ∙ ap (λ (n : ℕ). drop (n + 1) text) (place_is is_between text)

pub returns-clause-shorter : goal.returns-clause-shorter
returns-clause-shorter c =
    let text = c.args.text.now in
    let cut = c.split_around.ensures.after ∙ ap (λ (o : Option ℕ). drop (unwrap_or o (length text) + 1) text) c.first_between.ensures.place ∙ ap (λ (n : ℕ). drop (n + 1) text) (place_is is_between text) in
    λ some. subst (λ (others : List ℕ). length others < length text) (sym cut) (after_shorter is_between text some)
