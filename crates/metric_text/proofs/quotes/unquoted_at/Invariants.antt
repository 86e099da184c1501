-- what is read and what is left give all, and no plain byte stands first
use Rattle.std.proofs.Common.{◌≡◌, false, length}
use Rattle.metric_text.specs.Reading.{is_special, unquoted_in, with_front}
use Rattle.metric_text.specs.ReadingLaws.{BeginsWith}
use Rattle.metric_text.proofs.quotes.unquoted_at.Given as goal

abbrev pub invariant-loop-byte : goal.invariant-loop-byte
invariant-loop-byte l = record {
  read : with_front l.text.items (unquoted_in false l.rest) ≡ unquoted_in false l.fn.bytes;
  begins : BeginsWith is_special l.rest;
}

abbrev pub decreases-loop-byte : goal.decreases-loop-byte
decreases-loop-byte l = length l.rest
