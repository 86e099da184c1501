-- the first section of each family, and the members of each place, of the sections so far
use Rattle.std.proofs.Common.{◌≡◌, ◌<◌, ◌==◌, ℕ, List, [], Bor, filter, get_or, length, map, take}
use Rattle.std.specs.BTreeMap.{get_by_text}
use Rattle.std.specs.List.{position_from, range_with_len}
use Rattle.metric_exposition.specs.Sections.{is_of, lead}
use Rattle.metric_exposition.specs.declared.section.Section.{Section}
use Rattle.metric_exposition.proofs.gathered.members_of.Given as goal

abbrev pub invariant-loop-number : goal.invariant-loop-number
invariant-loop-number l = record {
  firsts : (name : List ℕ) → get_by_text l.firsts name ≡ position_from (is_of name) 0 (take l.number (map (λ (s : Bor Section). s.now) l.sections));
  len : length l.found.items ≡ length l.sections;
  each : (place : ℕ) → place < length l.sections
      → get_or l.found.items place [] ≡ filter (λ other. lead (map (λ (s : Bor Section). s.now) l.sections) other == place) (range_with_len 0 l.number);
}
