-- the table was made ready for the value that it takes, and each call keeps the places of sets
use Rattle.tests_runs.proofs.dense.write_added.Goals as goal

pub put-requires : goal.put-requires
put-requires g c = (c.args.table.now, c.args.set.now, c.in-Ok.ensures.ok)

pub returns-in-Ok-2 : goal.returns-in-Ok-2
returns-in-Ok-2 g c = λ set full.
    c.add.ensures.places.sets set
    (c.unready.ensures.places.sets set (c.in-Ok.ensures.places.sets set (c.requires.takes set full)))
