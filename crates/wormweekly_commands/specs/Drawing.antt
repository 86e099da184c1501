-- What a picture has beside its text.
use Rattle.std.specs.Prelude.{Option}
use Rattle.wormweekly_commands.specs.Answers.{AreRight}
use Rattle.wormweekly_commands.specs.Reporting.{AreDifferences}
use Rattle.wormweekly_commands.specs.declared.drawing.Drawing.{Drawing}
use Rattle.wormweekly_commands.specs.declared.parts.Texts.{Texts}

-- # what a picture is of (profile)
-- The parts are right, and the comparison with the old files, where there are some, has what differs.
pub record IsDrawing (texts : Texts) (drawing : Drawing) : Type 0 where
  pub right : AreRight texts.parts
  pub differences : AreDifferences texts.old texts.parts drawing.comparison
