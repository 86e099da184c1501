-- one place more
use Rattle.std.proofs.Common.{◌≡◌, ℕ, ◌+◌, List, [], ◌++◌, Bor, get_or, length, map, sym, ap, ◌∙◌, arith}
use Rattle.std.specs.List.{flat_map, range_with_len}
use Rattle.std.proofs.lemmas.List.{append-nil}
use Rattle.metric_exposition.specs.Sections.{lines_at}
use Rattle.metric_exposition.specs.declared.section.Section.{Section}
use Rattle.metric_exposition.proofs.GatherLaws.{get_default, turn}
use Rattle.metric_exposition.proofs.gathered.push_places.Goals as goal

pub loop-place-init : goal.loop-place-init
loop-place-init c = sym (append-nil c.args.out.now.items)

pub loop-place-preserved : goal.loop-place-preserved
loop-place-preserved c =
    let sections = map (λ (s : Bor Section). s.now) c.args.sections.now in
    let all = c.args.members.now in
    let n = c.loop-place.place in
    let own = c.index-members-place.result in
    let is : own ≡ get_or all n [] = get_default all n own [] c.index-members-place.is (omega arith) in
    turn (λ place. flat_map (lines_at sections place) (get_or all place [])) n c.args.out.now.items c.loop-place.out.items c.push_members.new.out.items
    c.loop-place.invariant
    (c.in_ok-push_members.ensures ∙ ap (λ (numbers : List ℕ). c.loop-place.out.items ++ flat_map (lines_at sections n) numbers) (c.as_slice.ensures ∙ is))

pub returns : goal.returns
returns c =
    let sections = map (λ (s : Bor Section). s.now) c.args.sections.now in
    let all : c.loop-place.place ≡ length c.args.members.now = omega arith in
    c.loop-place.invariant
    ∙ ap (λ (n : ℕ). c.args.out.now.items ++ flat_map (λ place. flat_map (lines_at sections place) (get_or c.args.members.now place [])) (range_with_len 0 n)) all
