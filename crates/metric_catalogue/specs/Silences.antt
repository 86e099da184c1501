-- What recorders say nothing of.
use Rattle.std.specs.Prelude.{◌≡◌, ℕ, false, All, List, Ok, Some, slice_get}
use Rattle.std.specs.List.{list_any}
use Rattle.toml.specs.Data.{Members}
use Rattle.metric_contents.specs.Budgets.{amount_of}
use Rattle.metric_contents.specs.declared.contents.Recorder.{Recorder}
use Rattle.metric_catalogue.specs.declared.named.Named.{Named}
use Rattle.metric_catalogue.specs.Seats.{seats_declared}
use Rattle.metric_catalogue.specs.Unsaid.{says}

-- No recorder has a budget for an instrument of which no table of recorders says one.
abbrev pub SilenceGivesNone : Type 0
SilenceGivesNone =
    (named : List Named) (tables : List Members) (recorders : List Recorder) (number : ℕ)
    (one : Named) → seats_declared named tables ≡ Ok recorders
    → slice_get named number ≡ Some one
    → list_any (says one.name one.path) tables ≡ false
    → All (λ recorder. amount_of recorder number ≡ 0) recorders
