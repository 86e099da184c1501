-- the number, of which each group takes a part
use Rattle.metric_facts.proofs.flat.+write_number.Given as goal

abbrev pub decreases-write_number : goal.decreases-write_number
decreases-write_number l = l.number
