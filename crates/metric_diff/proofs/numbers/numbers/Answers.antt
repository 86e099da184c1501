-- one more
use Rattle.std.proofs.Common.{ℕ, ◌++◌, ◌∷◌, [], map, take_all, ap, ◌∙◌, arith}
use Rattle.std.specs.List.{enumerate_from}
use Rattle.metric_diff.specs.Known.{number_by}
use Rattle.metric_diff.proofs.Lists.{mapped_turn}
use Rattle.metric_diff.proofs.numbers.numbers.Goals as goal

pub loop-number-preserved : goal.loop-number-preserved
loop-number-preserved g c =
    let n = c.loop-number.number in
    let before = c.loop-number.numbers in
    mapped_turn (number_by g.T.Numbered.is c.args.renaming c.args.olds.now c.args.news.now) c.args.news.now n c.index-news-number.result before c.push.new.self (omega arith) c.index-news-number.is
    c.loop-number.invariant
    (c.in_ok-push.ensures.ok ∙ ap (λ (k : ℕ). before ++ k ∷ []) c.number_in.ensures)

pub returns : goal.returns
returns g c =
    let news = c.args.news.now in
    c.loop-number.invariant ∙ ap (λ rs. map (number_by g.T.Numbered.is c.args.renaming c.args.olds.now c.args.news.now) (enumerate_from 0 rs)) (take_all c.loop-number.number news (omega arith))
