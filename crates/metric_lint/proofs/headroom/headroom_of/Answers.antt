-- an instrument's own numbers, asked one after the other
use Rattle.std.proofs.Common.{◌≡◌, ◌^◌, ◌-◌, IsTrue, refl, sym, ap, subst, ◌∙◌}
use Rattle.metric_lint.specs.declared.headroom.Headroom.{Headroom}
use Rattle.metric_lint.specs.declared.limit.Limit.TheVariants.{Count, Amount, SumLow, SumHigh}
use Rattle.metric_lint.specs.Edges.{IsEdge}
use Rattle.metric_lint.specs.Headrooms.{tightened}
use Rattle.metric_lint.specs.Limits.{OwnFinds}
use Rattle.metric_lint.proofs.Rooms.{own_edge, tightened-total}
use Rattle.metric_lint.proofs.headroom.headroom_of.Goals as goal

pub returns-clause-total : goal.returns-clause-total
returns-clause-total c =
    let total = λ (x : Headroom). x.total in
    ap total c.tighten-3.ensures ∙ tightened-total _ c.most_by_high.result SumHigh
    ∙ ap total c.tighten-2.ensures ∙ tightened-total _ c.most_by_low.result SumLow
    ∙ ap total c.tighten.ensures ∙ tightened-total _ c.most_by_amount.result Amount

pub returns-clause-edge : goal.returns-clause-edge
returns-clause-edge c =
    let summed = IsTrue c.args.is_summed in
    let start : Headroom = record { total = c.args.total; most = 2 ^ 64 - 1; limit = Count } in
    let amount = c.most_by_amount.result in
    let low = c.most_by_low.result in
    let high = c.most_by_high.result in
    let is : c.tighten-3.new.self ≡ tightened (tightened (tightened start amount Amount) low SumLow) high SumHigh =
    c.tighten-3.ensures ∙ ap (λ (x : Headroom). tightened x high SumHigh) (c.tighten-2.ensures ∙ ap (λ (x : Headroom). tightened x low SumLow) c.tighten.ensures) in
    subst (λ (x : Headroom). IsEdge (λ t. OwnFinds t summed c.args.instrument.now) x.most x.limit) (sym is)
    (own_edge start summed c.args.instrument.now amount low high refl refl c.most_by_amount.ensures c.most_by_low.ensures c.most_by_high.ensures)
