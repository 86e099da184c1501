-- the sections of each place
use Rattle.std.proofs.Common.{◌≡◌, ℕ, List, [], ◌++◌, Bor, get_or, length, map, sym, ap, ◌∙◌, arith}
use Rattle.std.specs.List.{flat_map, range_with_len}
use Rattle.std.proofs.lemmas.List.{length-map}
use Rattle.metric_exposition.specs.Sections.{gathered, lines_at, members}
use Rattle.metric_exposition.specs.declared.section.Section.{Section}
use Rattle.metric_exposition.proofs.GatherLaws.{same_turns}
use Rattle.metric_exposition.proofs.gathered.push_all.Goals as goal

pub returns : goal.returns
unfolding gathered
returns c =
    let old = c.args.out.now.items in
    let sections = map (λ (s : Bor Section). s.now) c.args.sections.now in
    let count : length sections ≡ length c.args.sections.now = length-map c.args.sections.now (λ (s : Bor Section). s.now) in
    let found = c.as_slice.result.now in
    let is : found ≡ c.in_ok-members.members.items = c.as_slice.ensures.value in
    let long : length found ≡ length sections = ap length is ∙ c.in_ok-members.ensures.len ∙ sym count in
    c.in_ok-push_places.ensures
    ∙ ap (λ (n : ℕ). old ++ flat_map (λ place. flat_map (lines_at sections place) (get_or found place [])) (range_with_len 0 n)) long
    ∙ ap (λ (text : List ℕ). old ++ text)
    (same_turns (λ place. flat_map (lines_at sections place) (get_or found place [])) (λ place. flat_map (lines_at sections place) (members sections place)) (length sections)
    (λ place low. ap (flat_map (lines_at sections place)) (ap (λ (lists : List (List ℕ)). get_or lists place []) is ∙ c.in_ok-members.ensures.each place (omega (arith, low, count)))))
