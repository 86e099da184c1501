-- one name more
use Rattle.std.proofs.Common.{◌≡◌, ◌<◌, ℕ, List, [], Some, None, string_bytes, get_or, length, take, sym, ap, ◌∙◌}
use Rattle.std.proofs.Common.{arith, rules}
use Rattle.std.specs.BTreeMap.{get_by_text}
use Rattle.std.proofs.Math.Seq.{take-length}
use Rattle.std.proofs.lemmas.List.{get_or-map, length-map}
use Rattle.std.proofs.lemmas.Map.Text.{btree_map_updates_text}
use Rattle.metric_bind.specs.Apart.{AreApart, names_in}
use Rattle.metric_bind.specs.declared.tree.Named.{Named}
use Rattle.metric_bind.proofs.Places.{apart_where_kept, kept_more}
use Rattle.metric_bind.proofs.apart.first_clash.Goals as goal

named_at : (things : List Named) (place : ℕ) (own : Named) → place < length things
    → own ≡ get_or things place own → get_or (names_in things) place [] ≡ own.name
named_at things place own within is =
    get_or-map (λ (named : Named). named.name) things place own [] within
    ∙ ap (λ (named : Named). named.name) (sym is)

as_many : (things : List Named) → length (names_in things) ≡ length things
as_many things = length-map things (λ (named : Named). named.name)

pub loop-second-init : goal.loop-second-init
loop-second-init c = record {
  stands = λ name place e.
      let none : get_by_text c.new-places.result name ≡ None = search rules in absurd cc;
  keeps = λ place low. absurd (omega arith);
}

pub loop-second-preserved : goal.loop-second-preserved
loop-second-preserved c =
    let names = c.args.names.now in
    let kept = get_by_text c.loop-second.places in
    let place = c.loop-second.second in
    let own = string_bytes c.in_ok-from_str.field-0 in
    let within : place < length names = omega arith in
    let is : own ≡ c.as_str-name.result.now = c.in_ok-from_str.ensures.ok in
    let stands : get_or (names_in names) place [] ≡ own =
    named_at names place c.index-names-second.result within c.index-names-second.is
    ∙ sym c.as_str-name.ensures ∙ sym is in
    let new : kept own ≡ None =
    ap kept is ∙ sym c.get.ensures.value ∙ sym c.copied.ensures ∙ c.in_default.is in
    kept_more (names_in names) place kept (get_by_text c.insert.new.self) own c.loop-second.invariant
    stands new
    (btree_map_updates_text own c.loop-second.places c.insert.new.self (Some place)
    c.in_ok-insert.ensures.updates)

pub returns-in-Some : goal.returns-in-Some
returns-in-Some c =
    let names = c.args.names.now in
    let name = c.as_str-name.result.now in
    let place = c.loop-second.second in
    let within : place < length names = omega arith in
    let many : length (names_in names) ≡ length names = as_many names in
    let found : get_by_text c.loop-second.places name ≡ Some c.in-Some.first =
    sym c.get.ensures.value ∙ sym c.copied.ensures ∙ c.in-Some.is in
    let before = c.loop-second.invariant.stands name c.in-Some.first found in
    record {
      rising = before.0;
      within = omega arith;
      same = before.1 ∙ c.as_str-name.ensures
          ∙ sym (named_at names place c.index-names-second.result within c.index-names-second.is);
      apart = apart_where_kept (names_in names) place (get_by_text c.loop-second.places)
          c.loop-second.invariant (omega arith);
    }

pub returns : goal.returns
returns c =
    let names = names_in c.args.names.now in
    let many : length names ≡ length c.args.names.now = as_many c.args.names.now in
    let all : c.loop-second.second ≡ length names = omega arith in
    let whole : take c.loop-second.second names ≡ names =
    ap (λ (n : ℕ). take n names) all ∙ take-length names in
    rw whole at (apart_where_kept names c.loop-second.second (get_by_text c.loop-second.places)
    c.loop-second.invariant (omega arith))
