use Rattle.std.proofs.Common.{rules}
use Rattle.wormweekly_c.proofs.pairs.declared_of.Goals as goal

pub returns-in_err-config-clause-first : goal.returns-in_err-config-clause-first
returns-in_err-config-clause-first c = search rules
