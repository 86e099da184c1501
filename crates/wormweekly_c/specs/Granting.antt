-- A recorder of an instrument is granted recordings.
use Rattle.std.specs.Prelude.{◌≡◌, ℕ, Option, Some}
use Rattle.metric_core.specs.CellAnswers.{KeepsJournal}
use Rattle.metric_marked.specs.Marks.{StandsMarked}
use Rattle.metric_hosted.specs.Grants.{with_granted}
use Rattle.metric_hosted.specs.Hosts.{HostedValue}

pub record Grants (old new : HostedValue) (recorder amount : ℕ) : Type 0 where
  pub is : new ≡ with_granted old recorder amount
  pub stands : KeepsJournal StandsMarked old.cell new.cell

abbrev pub IsGranted : Option HostedValue → Option HostedValue → ℕ → ℕ → Type 0
IsGranted (Some old) (Some new) recorder amount = Grants old new recorder amount
IsGranted old new recorder amount = ⊥
