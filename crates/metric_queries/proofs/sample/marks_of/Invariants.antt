-- the texts of the boundaries so far
use Rattle.std.proofs.Common.{◌≡◌, map, take}
use Rattle.metric_exposition.specs.Boundaries.{le_text}
use Rattle.metric_queries.proofs.sample.marks_of.Given as goal

abbrev pub invariant-loop-boundary : goal.invariant-loop-boundary
invariant-loop-boundary l = l.marks ≡ map le_text (take l.boundary-index l.boundaries)
