-- Keys and recorders with their numbers.
use Rattle.std.specs.Prelude.{ℕ}
use Rattle.metric_contents.specs.declared.contents.Key.{Key}
use Rattle.metric_contents.specs.declared.contents.Recorder.{Recorder}
use Rattle.metric_diff.specs.declared.attributes.PlacedKey.{PlacedKey}
use Rattle.metric_diff.specs.declared.budgets.PlacedRecorder.{PlacedRecorder}

abbrev pub placed_key : PlacedKey → ℕ × Key
placed_key placed = (placed.number, placed.key.now)

abbrev pub placed_recorder : PlacedRecorder → ℕ × Recorder
placed_recorder placed = (placed.number, placed.recorder.now)
