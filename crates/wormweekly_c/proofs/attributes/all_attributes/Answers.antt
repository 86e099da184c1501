-- one attribute more, none of it, and the end
use Rattle.std.proofs.Common.{◌≡◌, ◌+◌, List, [], ◌∷◌, ◌++◌, drop, map, rules, sym, ap, subst, ◌∙◌}
use Rattle.std.proofs.lemmas.List.{map_push}
use Rattle.metric_contents.specs.Attributes.{given_by}
use Rattle.metric_contents.specs.Encoding.{Given}
use Rattle.metric_contents.specs.declared.attributes.Attr.{Attr}
use Rattle.wormweekly_c.proofs.AttributeLaws.{read_all, read_first, read_more, read_none, read_with}
use Rattle.wormweekly_c.specs.Attributes.{attributes_from}
use Rattle.wormweekly_c.proofs.attributes.all_attributes.Goals as goal

pub loop-own-init : goal.loop-own-init
loop-own-init c = read_first c.args.given.now c.args.texts.now _ (ap (λ (attrs : List Attr). map given_by attrs) c.new-attrs.ensures.items)

pub returns-in-None-clause-none : goal.returns-in-None-clause-none
returns-in-None-clause-none c =
    read_none c.args.given.now c.args.texts.now c.loop-own.rest.now (map given_by c.loop-own.attrs.items) c.loop-own.own-index _ c.loop-own-test.true c.in-None.ensures c.loop-own.invariant

pub loop-own-preserved : goal.loop-own-preserved
loop-own-preserved c =
    let pushed : c.push.new.self.items ≡ c.loop-own.attrs.items ++ c.in-Some.attr ∷ [] = search rules in
    let done : map given_by c.loop-own.attrs.items ++ given_by c.in-Some.attr ∷ [] ≡ map given_by c.push.new.self.items =
    sym (map_push given_by c.loop-own.attrs.items c.in-Some.attr) ∙ ap (λ (attrs : List Attr). map given_by attrs) (sym pushed) in
    subst (λ (all : List Given). attributes_from c.args.given.now c.args.texts.now ≡ read_with all (attributes_from (drop (c.loop-own.own-index + 1) c.args.given.now) c.in-Some.left.now)) done
    (read_more c.args.given.now c.args.texts.now c.loop-own.rest.now c.in-Some.left.now (map given_by c.loop-own.attrs.items) c.loop-own.own-index _ (given_by c.in-Some.attr) c.loop-own-test.true
    c.in-Some.ensures c.loop-own.invariant)

pub returns-clause-read : goal.returns-clause-read
returns-clause-read c = read_all c.args.given.now c.args.texts.now c.loop-own.rest.now (map given_by c.loop-own.attrs.items) c.loop-own.own-index c.loop-own-test.false c.loop-own.invariant
