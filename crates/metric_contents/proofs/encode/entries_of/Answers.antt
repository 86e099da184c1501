-- one more entry
use Rattle.std.proofs.Common.{◌≡◌, List, true, ◌&&◌, sym, ◌∙◌, ap, map, arith, get_or, unwrap_or, is_some}
use Rattle.std.proofs.lemmas.List.Folds.{list_all_more}
use Rattle.metric_contents.specs.Encoding.{Given, entry_at}
use Rattle.metric_contents.specs.ByKeys.{is_allowed}
use Rattle.metric_contents.specs.EntryLaws.{entry_more}
use Rattle.metric_contents.proofs.encode.entries_of.Goals as goal

pub loop-place-preserved : goal.loop-place-preserved
loop-place-preserved g c =
    let attrs : List Given = map g.A.Attribute.given c.args.attrs.now in
    let keys = c.args.keys.now in
    let place = c.loop-place.place in
    let key = c.index-keys-place.result in
    let more = list_all_more (is_allowed attrs) keys place key (omega arith) in
    let here : is_allowed attrs (get_or keys place key) ≡ true = ap (is_allowed attrs) (sym c.index-keys-place.is) ∙ ap is_some (sym c.in_ok-set.ensures) in
    let entry : unwrap_or (entry_at attrs key) 0 ≡ c.in_ok-set.field-0 = ap (λ o. unwrap_or o 0) (sym c.in_ok-set.ensures) in
    record {
      allowed = more ∙ ap (λ b. b && is_allowed attrs (get_or keys place key)) c.loop-place.invariant.allowed ∙ here;
      set = rw (c.loop-place.invariant.set, ← entry) (entry_more (λ k. unwrap_or (entry_at attrs k) 0) keys place key (omega arith) c.requires c.index-keys-place.is);
    }
