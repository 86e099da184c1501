-- the sections of the batches so far
use Rattle.std.proofs.Common.{◌≡◌, List, Bor, map, take}
use Rattle.std.specs.List.{flat_map}
use Rattle.metric_exposition.specs.declared.section.Section.{Section}
use Rattle.metric_exposition.proofs.gathered.all_of.Given as goal

abbrev pub invariant-loop-sections : goal.invariant-loop-sections
invariant-loop-sections l = map (λ (s : Bor Section). s.now) l.all.items ≡ flat_map (λ (sections : List Section). sections) (take l.sections-index l.batches)
