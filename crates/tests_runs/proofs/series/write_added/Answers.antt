-- the table was made ready for the value that it takes
use Rattle.tests_runs.proofs.series.write_added.Goals as goal

pub put-requires : goal.put-requires
put-requires g c = (c.args.table.now, _, c.in-Ok.ensures.ok)
