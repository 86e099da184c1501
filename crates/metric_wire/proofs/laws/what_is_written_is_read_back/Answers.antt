use Rattle.metric_wire.proofs.Varints.{varint_read}
use Rattle.metric_wire.proofs.Blocks.{block_read}
use Rattle.metric_wire.proofs.laws.what_is_written_is_read_back.Goals as goal

pub returns-clause-varints : goal.returns-clause-varints
returns-clause-varints c = varint_read

pub returns-clause-blocks : goal.returns-clause-blocks
returns-clause-blocks c = block_read
