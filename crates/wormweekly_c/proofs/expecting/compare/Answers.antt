-- no difference was found, and so the instrument means it; or one was, and is told
use Rattle.std.proofs.Common.{◌≡◌, ◌<◌, ℕ, List, Some, ap, arith, inl, inr, length, refl, slice_get, subst, sym, ◌∙◌}
use Rattle.std.specs.Prelude.{is_some}
use Rattle.std.proofs.lemmas.Bool.Decides.{nat_tests}
use Rattle.std.proofs.lemmas.Option.{slice_get_read}
use Rattle.metric_contents.specs.declared.contents.Instrument.{Instrument}
use Rattle.wormweekly_c.specs.Texts.{IsFront}
use Rattle.wormweekly_c.proofs.expecting.compare.Goals as goal

pub returns-in-None-clause-answer : goal.returns-in-None-clause-answer
returns-in-None-clause-answer c = inl (inl (refl, c.in-None.ensures.means))

pub returns-in-Ok-clause-answer : goal.returns-in-Ok-clause-answer
returns-in-Ok-clause-answer c =
    let contents = c.args.catalogue.now in
    let number = c.args.instrument in
    let all = c.instruments.result.now in
    let own = c.in-Some._own.now in
    let there = c.in-Some.ensures.lookup in
    let below : number < length all = grind (arith, nat_tests, there.0) in
    let found : slice_get contents.instruments number ≡ Some own =
    ap (λ (is : List Instrument). slice_get is number) (sym c.instruments.ensures.instruments) ∙ slice_get_read all (length all) number own refl below there.1 in
    inl
    (inr (inr (
      refl,
      record {
        there = ap is_some found;
        other = c.in-Some-first_difference.ensures.means;
        told = record {
          text = c.in-Ok.line.items;
          told = c.in-Ok.ensures;
          front = subst (λ (text : List ℕ). IsFront text c.args.fault.now c.copy_front.new.out c.copy_front.result) c.as_slice.ensures.value c.copy_front.ensures;
        };
      },
    )))
