-- the bytes are cut at the first that passes
use Rattle.metric_text.specs.Reading.{is_special}
use Rattle.metric_text.proofs.Splits.{cut_at_place}
use Rattle.metric_text.proofs.quotes.split_plain.Goals as goal

pub returns-clause-plain : goal.returns-clause-plain
returns-clause-plain c =
    let cut = cut_at_place is_special c.args.bytes.now c.first_special.result c.first_special.ensures.place in
    cc

pub returns-clause-rest : goal.returns-clause-rest
returns-clause-rest c =
    let cut = cut_at_place is_special c.args.bytes.now c.first_special.result c.first_special.ensures.place in
    cc
