-- what refuses to begin the next run
use Rattle.std.proofs.Common.{length}
use Rattle.std.specs.Prelude.{◌==◌}
use Rattle.metric_provider.specs.Totals.{seated}
use Rattle.metric_provider.proofs.RollLaws.{roll_refused}
use Rattle.metric_provider.proofs.provider.Provider.roll_over.Goals as goal

pub returns-in-Err-clause-refused : goal.returns-in-Err-clause-refused
returns-in-Err-clause-refused g c =
    roll_refused g.B.Book.stands (length c.args.self.plan.facts.instruments) (c.args.run == c.args.self.run.number) c.args.start (seated c.args.self c.args.recorders.items) c.in-Err.fault
    c.in-Err.ensures.refused
