-- one instrument more
use Rattle.std.proofs.Common.{◌≡◌, ℕ, ◌++◌, [], ◌∷◌, List, length, append_assoc, refl, ap, subst, ◌∙◌, arith}
use Rattle.std.specs.List.{AllZip, range_with_len}
use Rattle.metric_cert.specs.declared.reason.SelectionReason.{SelectionReason}
use Rattle.metric_make.specs.Making.{IsReasonFor}
use Rattle.metric_make.proofs.Pairs.{AllZip-range_more}
use Rattle.metric_make.proofs.reasons.add_view.Goals as goal

pub loop-instrument-preserved : goal.loop-instrument-preserved
loop-instrument-preserved c =
    let contents = c.args.catalogue.now in
    let view = c.args.view.now in
    let n = c.loop-instrument.instrument in
    let before = c.loop-instrument.invariant in
    let reason : SelectionReason = record { view = c.args.number; instrument = n; evidence = c.in_ok-evidence.evidence } in (
      before.0 ++ reason ∷ [],
      c.in_ok-push.ensures.ok ∙ ap (λ (rs : List SelectionReason). rs ++ reason ∷ []) before.1 ∙ append_assoc c.args.reasons.now before.0 (reason ∷ []),
      AllZip-range_more (IsReasonFor contents c.args.number view) n before.0 reason before.2
          (record { of_view = refl; of_instrument = refl; evidence = c.in_ok-evidence.ensures }),
    )

pub returns : goal.returns
returns c =
    let contents = c.args.catalogue.now in
    let before = c.loop-instrument.invariant in
    let count = ap length c.instruments.ensures.instruments in
    let all : c.loop-instrument.instrument ≡ length contents.instruments = omega arith in
    record {
      added = before.0;
      is = before.1;
      each = subst (λ (k : ℕ). AllZip (IsReasonFor contents c.args.number c.args.view.now) (range_with_len 0 k) before.0) all before.2;
    }
