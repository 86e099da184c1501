-- the bytes are cut at the first that passes
use Rattle.metric_text.specs.Lines.{is_feed}
use Rattle.metric_text.proofs.Splits.{cut_at_place}
use Rattle.metric_text.proofs.line.split_feed.Goals as goal

pub returns-clause-line : goal.returns-clause-line
returns-clause-line c =
    let cut = cut_at_place is_feed c.args.bytes.now c.first_feed.result c.first_feed.ensures.place in
    cc

pub returns-clause-end : goal.returns-clause-end
returns-clause-end c =
    let cut = cut_at_place is_feed c.args.bytes.now c.first_feed.result c.first_feed.ensures.place in
    cc
