-- It calls itself with fewer readers.
use Rattle.std.proofs.Common.{length}
use Rattle.wormweekly_commands.proofs.page_readers.+reader_named.Given as goal

abbrev pub decreases-reader_named : goal.decreases-reader_named
decreases-reader_named l = length l.readers.now
