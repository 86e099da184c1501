-- one view more, which selects or does not
use Rattle.std.proofs.Common.{◌++◌, [], ◌∷◌, sym, ap, ◌∙◌, arith, if◌then◌else◌, Some, None}
use Rattle.std.specs.List.{cons_option, enumerate_from, filter_map}
use Rattle.std.proofs.lemmas.List.{append-nil, take_all}
use Rattle.std.proofs.lemmas.List.FromFn.{length-enumerate_from}
use Rattle.metric_views.specs.declared.template.Template.{Template}
use Rattle.metric_views.specs.Streams.{template_of}
use Rattle.metric_resolve.specs.Offers.{view_template}
use Rattle.metric_resolve.proofs.OfferLaws.{templates_more}
use Rattle.metric_resolve.proofs.offers.templates_of.Goals as goal
use Rattle.metric_resolve.proofs.offers.templates_of.Goals.{then-selects+in_ok-template+in_ok-push, else-selects}

pub loop-view_number-preserved : goal.loop-view_number-preserved
loop-view_number-preserved g c =
    let f = view_template (g.S.Selection.contents c.args.selection.now) (g.S.Selection.setup c.args.selection.now) c.args.number c.args.instrument.now in
    let n = c.loop-view_number.view_number in
    let v = c.index-views-view_number.result in
    let before = c.loop-view_number.templates in
    let made : Template = template_of c.args.number c.args.instrument.now (Some n) v.settings in
    templates_more f c.args.views.now n v before c.if-selects.templates (omega arith) c.index-views-view_number.is c.loop-view_number.invariant
    (elim c.if-selects.branch [
      | then-selects+in_ok-template+in_ok-push w ↦
          w.templates-is ∙ w.in_ok-push.ensures.ok ∙ ap (λ (t : Template). before ++ t ∷ []) w.in_ok-template.ensures
          ∙ ap (λ b. before ++ cons_option (if b then Some made else None) []) (sym w.if-selects.true ∙ c.selects.ensures)
      | else-selects w ↦
          w.templates-is ∙ sym (append-nil before) ∙ ap (λ b. before ++ cons_option (if b then Some made else None) []) (sym w.if-selects.false ∙ c.selects.ensures)
    ])

pub returns : goal.returns
returns g c =
    let f = view_template (g.S.Selection.contents c.args.selection.now) (g.S.Selection.setup c.args.selection.now) c.args.number c.args.instrument.now in
    let views = c.args.views.now in
    let all = take_all c.loop-view_number.view_number (enumerate_from 0 views) (omega (arith, length-enumerate_from 0 views)) in
    c.loop-view_number.invariant ∙ ap (filter_map f) all
