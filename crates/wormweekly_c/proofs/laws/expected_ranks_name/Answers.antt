use Rattle.wormweekly_c.proofs.Expected.{expected_ranks_name}
use Rattle.wormweekly_c.proofs.laws.expected_ranks_name.Goals as goal

pub returns : goal.returns
returns c = expected_ranks_name
