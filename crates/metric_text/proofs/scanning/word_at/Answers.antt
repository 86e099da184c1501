-- the bytes are cut at the first that passes
use Rattle.metric_text.specs.Reading.{is_space}
use Rattle.metric_text.proofs.Splits.{cut_at_place}
use Rattle.metric_text.proofs.scanning.word_at.Goals as goal

pub returns-clause-word : goal.returns-clause-word
returns-clause-word c =
    let cut = cut_at_place is_space c.args.bytes.now c.first_space.result c.first_space.ensures.place in
    cc

pub returns-clause-rest : goal.returns-clause-rest
returns-clause-rest c =
    let cut = cut_at_place is_space c.args.bytes.now c.first_space.result c.first_space.ensures.place in
    cc
