-- what is written of the places so far
use Rattle.std.proofs.Common.{◌≡◌, ◌++◌, [], Bor, get_or, map}
use Rattle.std.specs.List.{flat_map, range_with_len}
use Rattle.metric_exposition.specs.Sections.{lines_at}
use Rattle.metric_exposition.specs.declared.section.Section.{Section}
use Rattle.metric_exposition.proofs.gathered.push_places.Given as goal

abbrev pub invariant-loop-place : goal.invariant-loop-place
invariant-loop-place l =
    l.out.items
    ≡ l.fn.out.items
    ++ flat_map (λ place. flat_map (lines_at (map (λ (s : Bor Section). s.now) l.sections) place) (get_or l.members place []))
    (range_with_len 0 l.place)
