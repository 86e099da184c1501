-- what is written so far
use Rattle.std.proofs.Common.{◌≡◌, ◌++◌, Bor, map, take}
use Rattle.std.specs.List.{flat_map}
use Rattle.metric_exposition.specs.Sections.{lines_at}
use Rattle.metric_exposition.specs.declared.section.Section.{Section}
use Rattle.metric_exposition.proofs.gathered.push_members.Given as goal

abbrev pub invariant-loop-number : goal.invariant-loop-number
invariant-loop-number l =
    l.out.items
    ≡ l.fn.out.items ++ flat_map (lines_at (map (λ (s : Bor Section). s.now) l.sections) l.place) (take l.number-index l.numbers)
