-- the lines of the remarks so far
use Rattle.std.proofs.Common.{take}
use Rattle.wormweekly_c.specs.Linting.{PushesLines}
use Rattle.wormweekly_c.proofs.linting.push_remarks.Given as goal

abbrev pub invariant-loop-remark : goal.invariant-loop-remark
invariant-loop-remark l = PushesLines l.pair (take l.remark-index l.remarks) l.fn.out.items l.out.items
