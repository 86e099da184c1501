-- one section more
use Rattle.std.proofs.Common.{◌≡◌, ℕ, ◌<◌, cond, List, [], Bor, Option, Some, None, get_or, length, map, take, sym, ap, ◌∙◌, arith, rules}
use Rattle.std.specs.Prelude.{slice_get}
use Rattle.std.specs.BTreeMap.{get_by_text}
use Rattle.std.specs.List.{position_from}
use Rattle.std.specs.Option.{option_map_or, unwrap_or}
use Rattle.std.specs.Str.{bytes_eq}
use Rattle.std.proofs.lemmas.List.{length-map}
use Rattle.metric_contents.specs.PlaceLaws.{or_else}
use Rattle.metric_exposition.specs.Sections.{family_at, is_of, lead}
use Rattle.metric_exposition.specs.declared.section.Section.{Section}
use Rattle.metric_exposition.proofs.GatherLaws.{empty_at, first-more, got, one_more}
use Rattle.metric_exposition.proofs.gathered.members_of.Goals as goal

pub loop-number-init : goal.loop-number-init
loop-number-init c =
    let sections = c.args.sections.now in
    record {
      firsts = λ name. search rules;
      len = ap length c.in_ok-found.ensures ∙ length-map {A = Bor Section} {B = List ℕ} sections (λ s. []);
      each = λ place low. ap (λ (xs : List (List ℕ)). get_or xs place []) c.in_ok-found.ensures ∙ empty_at sections place;
    }

pub loop-number-preserved : goal.loop-number-preserved
unfolding lead
loop-number-preserved c =
    let sections = map (λ (s : Bor Section). s.now) c.args.sections.now in
    let n = c.loop-number.number in
    let item = c.index-sections-number.result in
    let within : n < length c.args.sections.now = omega arith in
    let before = c.loop-number.invariant in
    let at : slice_get sections n ≡ Some item.now = got c.args.sections.now n item within c.index-sections-number.is in
    let family : family_at sections n ≡ item.now.family = ap (λ (o : Option Section). option_map_or (λ (s : Section). s.family) o []) at in
    let first : c.in_ok-first.first ≡ lead sections n =
    c.in_ok-first.ensures.first
    ∙ ap (λ (f : List ℕ). unwrap_or (get_by_text c.loop-number.firsts f) n) c.as_str.ensures
    ∙ ap (λ (o : Option ℕ). unwrap_or o n) (before.firsts item.now.family)
    ∙ ap (λ (f : List ℕ). unwrap_or (position_from (is_of f) 0 (take n sections)) n) (sym family) in
    record {
      firsts = λ name.
          c.in_ok-first.ensures.firsts name
          ∙ ap (λ (f : List ℕ). or_else (get_by_text c.loop-number.firsts name) (cond (bytes_eq name f) (Some n) None)) c.as_str.ensures
          ∙ ap (λ (o : Option ℕ). or_else o (cond (bytes_eq name item.now.family) (Some n) None)) (before.firsts name)
          ∙ sym (first-more (is_of name) sections n item.now at);
      len = ap length c.in_ok-add_member.ensures ∙ search rules;
      each = λ place low.
          ap (λ (xs : List (List ℕ)). get_or xs place []) c.in_ok-add_member.ensures
          ∙ one_more c.loop-number.found.items (lead sections) c.in_ok-first.first n place first (omega (arith, before.len)) (before.each place low);
    }

pub returns-clause-each : goal.returns-clause-each
returns-clause-each c = λ place low.
    let all : c.loop-number.number ≡ length (map (λ (s : Bor Section). s.now) c.args.sections.now) = omega (arith, length-map c.args.sections.now (λ (s : Bor Section). s.now)) in
    rw all at (c.loop-number.invariant.each place low)
