-- The target was written, or its fault is told.
use Rattle.wormweekly_commands.proofs.PageEnds.{target_refused}
use Rattle.wormweekly_commands.proofs.paging.head_of.Goals as goal

pub returns-in-Err : goal.returns-in-Err
returns-in-Err c = target_refused c.args.dialect c.args.resource.now c.in-Err.fault c.of_target.result c.of_target.ensures c.in-Err.ensures.check
