-- the combination is allowed
use Rattle.std.proofs.Common.{◌≡◌, ◌<◌, List, Some, length, refl, sym, ap, ◌∙◌, arith, slice_get}
use Rattle.std.proofs.lemmas.Bool.Decides.{nat_tests}
use Rattle.std.proofs.lemmas.Option.{slice_get_read}
use Rattle.metric_contents.specs.declared.contents.Key.{Key}
use Rattle.metric_contents.specs.Encoding.{set_of}
use Rattle.wormweekly_c.specs.Attributes.{attributes_from}
use Rattle.wormweekly_c.proofs.TakenLaws.{each_some, encoded}
use Rattle.wormweekly_c.proofs.in_order.allowed_in_order.Goals as goal

pub returns-then-permits : goal.returns-then-permits
returns-then-permits c =
    let there = c.in_ok-own.ensures.lookup in
    let below : c.args.instrument < length c.args.instruments.now = grind (arith, nat_tests, there.0) in
    let found : slice_get c.args.instruments.now c.args.instrument ≡ Some c.in_ok-own.own.now =
    slice_get_read c.args.instruments.now (length c.args.instruments.now) c.args.instrument c.in_ok-own.own.now refl below there.1 in
    each_some (attributes_from c.args.given.now c.args.texts.now)
    (λ attrs is. encoded c.args.instruments.now c.args.instrument c.in_ok-own.own.now attrs c.in_ok-set.set found
    (ap (λ (keys : List Key). set_of keys attrs) (sym c.as_slice.ensures.items) ∙ is) (sym c.if-permits.ensures))
    c.in_ok-set.ensures
