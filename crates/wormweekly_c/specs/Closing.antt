-- An instrument is closed.
use Rattle.std.specs.Prelude.{◌≡◌, true, Option, Some}
use Rattle.metric_core.specs.CellAnswers.{KeepsJournal}
use Rattle.metric_marked.specs.Marks.{StandsMarked}
use Rattle.metric_hosted.specs.Hosts.{HostedValue}

pub record Closes (old new : HostedValue) : Type 0 where
  pub is : new ≡ record old { cell = record old.cell { is_closed = true } }
  pub stands : KeepsJournal StandsMarked old.cell new.cell

abbrev pub IsClosed : Option HostedValue → Option HostedValue → Type 0
IsClosed (Some old) (Some new) = Closes old new
IsClosed old new = ⊥
