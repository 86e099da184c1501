-- the texts so far
use Rattle.std.proofs.Common.{◌≡◌, map, take}
use Rattle.metric_diff.specs.Programs.{asked_text}
use Rattle.metric_diff.proofs.asked.asked_texts.Given as goal

abbrev pub invariant-loop-instrument : goal.invariant-loop-instrument
invariant-loop-instrument l = l.texts ≡ map (asked_text l.catalogue) (take l.instrument-index l.catalogue.instruments)
