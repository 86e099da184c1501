-- one instrument more
use Rattle.std.proofs.Common.{rules, ◌≡◌, ℕ, ◌++◌, [], ◌∷◌, List, Option, Some, length, sym, ap, subst, ◌∙◌, arith}
use Rattle.std.specs.Prelude.{slice_get}
use Rattle.std.proofs.lemmas.List.{length_push, map-append}
use Rattle.wormweekly_c.specs.declared.handles.Handle.{Handle}
use Rattle.wormweekly_c.specs.declared.held.Held.{Held}
use Rattle.wormweekly_c.specs.declared.held.Held.TheVariants.{Instrument}
use Rattle.wormweekly_c.specs.Opening.{HoldsNew, held_in}
use Rattle.wormweekly_c.proofs.EachLaws.{each_push}
use Rattle.wormweekly_c.proofs.opening.new_instruments.Goals as goal

pub loop-number-preserved : goal.loop-number-preserved
loop-number-preserved c =
    let plan = c.args.plan.now in
    let start = c.args.start in
    let run = c.args.run in
    let done = c.loop-number.all.items in
    let hosted = c.in_ok-hosted.hosted in
    let made : c.in_ok-held.held.value ≡ Instrument hosted = search rules in
    let whole : held_in c.push.new.self.items ≡ held_in done ++ Some (Instrument hosted) ∷ [] =
    ap held_in c.in_ok-push.ensures.items
    ∙ map-append (λ (handle : Handle). handle.value) done (c.of.result ∷ [])
    ∙ ap (λ (own : Option Held). held_in done ++ own ∷ []) (c.of.ensures ∙ ap (λ (own : Held). Some own) made) in
    let here : HoldsNew plan start run (length (held_in done)) (Some (Instrument hosted)) =
    subst (λ (n : ℕ). HoldsNew plan start run n (Some (Instrument hosted))) (sym c.loop-number.invariant.long)
    (record { own_run = c.in_ok-hosted.ensures.run; facts = c.in_ok-hosted.ensures.facts; new = c.in_ok-hosted.ensures.new; stands = c.in_ok-hosted.ensures.stands }) in
    record {
      long = omega (arith, ap length whole, length_push (held_in done) (Some (Instrument hosted)), c.loop-number.invariant.long);
      each = subst (λ (all : List (Option Held)). (i : ℕ) (one : Option Held) → slice_get all i ≡ Some one → HoldsNew plan start run i one) (sym whole)
          (each_push (HoldsNew plan start run) (held_in done) (Some (Instrument hosted)) c.loop-number.invariant.each here);
    }
