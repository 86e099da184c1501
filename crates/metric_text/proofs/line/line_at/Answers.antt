-- the first line ends at the first line feed, or is all
use Rattle.metric_text.proofs.Splits.{line_open, line_ended}
use Rattle.metric_text.proofs.line.line_at.Goals as goal

pub returns-in-empty-clause-line : goal.returns-in-empty-clause-line
returns-in-empty-clause-line c =
    (line_open c.args.bytes.now c.split_feed.result.0.now c.split_feed.result.1.now c.split_feed.ensures.line c.split_feed.ensures.end c.in-empty.len_below).0

pub returns-in-empty-clause-rest : goal.returns-in-empty-clause-rest
returns-in-empty-clause-rest c =
    (line_open c.args.bytes.now c.split_feed.result.0.now c.split_feed.result.1.now c.split_feed.ensures.line c.split_feed.ensures.end c.in-empty.len_below).1

pub returns-in-len1-up-clause-line : goal.returns-in-len1-up-clause-line
returns-in-len1-up-clause-line c =
    let ended = line_ended c.args.bytes.now c.split_feed.result.0.now c.split_feed.result.1.now c.split_feed.ensures.line c.split_feed.ensures.end c.in-len1-up.len_at_least in
    cc (ended.0, c.without_return.ensures)

pub returns-in-len1-up-clause-rest : goal.returns-in-len1-up-clause-rest
returns-in-len1-up-clause-rest c =
    (line_ended c.args.bytes.now c.split_feed.result.0.now c.split_feed.result.1.now c.split_feed.ensures.line c.split_feed.ensures.end c.in-len1-up.len_at_least).1
