use Rattle.std.proofs.Common.{subst, sym}
use Rattle.std.specs.Str.{IsUtf8}
use Rattle.metric_parts.proofs.JoinedLines.{joined_utf8}
use Rattle.metric_parts.proofs.joining.joined.Goals as goal

pub unwrap-requires : goal.unwrap-requires
unwrap-requires c = c.from_utf8.ensures.succeeds (subst IsUtf8 (sym c.in_ok-bytes.ensures) (joined_utf8 _ c.requires))
