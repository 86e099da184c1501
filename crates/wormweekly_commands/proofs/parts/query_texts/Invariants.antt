-- the texts of the files so far
use Rattle.std.proofs.Common.{take}
use Rattle.std.specs.List.{AllZip}
use Rattle.wormweekly_commands.specs.Readings.{IsHeld}
use Rattle.wormweekly_commands.proofs.parts.query_texts.Given as goal

abbrev pub invariant-loop-number : goal.invariant-loop-number
invariant-loop-number g l = AllZip (IsHeld (g.F.Folder.held l.folder)) (take l.number l.paths) l.texts
