-- the sections so far
use Rattle.std.proofs.Common.{◌≡◌, ◌++◌, Bor, map, take}
use Rattle.metric_exposition.specs.declared.section.Section.{Section}
use Rattle.metric_exposition.proofs.gathered.push_each.Given as goal

abbrev pub invariant-loop-section : goal.invariant-loop-section
invariant-loop-section l =
    map (λ (s : Bor Section). s.now) l.all.items ≡ map (λ (s : Bor Section). s.now) l.fn.all.items ++ take l.section-index l.sections
