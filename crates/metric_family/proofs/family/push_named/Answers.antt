-- the words of the name, and the two parts of the unit
use Rattle.metric_family.proofs.PartLaws.{named_written}
use Rattle.metric_family.proofs.family.push_named.Goals as goal

pub returns : goal.returns
returns c =
    rw (named_written c.args.out.now.items c.args.other_than.now c.args.name.now c.args.unit.now)
    (rw (c.in_ok-push_unit.ensures, c.in_ok-push_words.ensures, c.as_slice.ensures.value, c.in_ok-main.ensures, c.as_slice-2.ensures.value, c.in_ok-per.ensures) at c.push_unit-2.ensures)
