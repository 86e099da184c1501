-- one instrument more
use Rattle.std.proofs.Common.{◌≡◌, ℕ, Bool, ◌++◌, List, [], ◌∷◌, length, map, sym, ap, ◌∙◌, arith}
use Rattle.std.specs.List.{range_with_len}
use Rattle.std.proofs.lemmas.List.FromFn.{map-range_with_len_more}
use Rattle.metric_resolve.specs.Applying.{is_selected}
use Rattle.metric_lint.specs.Remarks.{selection_of}
use Rattle.metric_lint.proofs.selected.selected_by.Goals as goal

pub loop-instrument-preserved : goal.loop-instrument-preserved
loop-instrument-preserved c =
    let f = λ (i : ℕ). is_selected c.args.catalogue.now c.args.config.now i c.args.view in
    let n = c.loop-instrument.instrument in
    c.in_ok-push.ensures.ok ∙ ap (λ (flags : List Bool). flags ++ c.is_selected.result ∷ []) c.loop-instrument.invariant
    ∙ ap (λ (b : Bool). map f (range_with_len 0 n) ++ b ∷ []) c.is_selected.ensures ∙ sym (map-range_with_len_more f 0 n n (omega arith))

pub returns : goal.returns
unfolding selection_of
returns c =
    let contents = c.args.catalogue.now in
    let all : c.loop-instrument.instrument ≡ length contents.instruments = omega (arith, ap length c.instruments.ensures.instruments) in
    c.loop-instrument.invariant ∙ ap (λ (n : ℕ). map (λ i. is_selected contents c.args.config.now i c.args.view) (range_with_len 0 n)) all
