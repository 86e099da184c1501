-- one more entry
use Rattle.std.proofs.Common.{◌+◌, ◌++◌, ◌∷◌, [], string_bytes, take, ap, sym, ◌∙◌}
use Rattle.std.proofs.lemmas.List.{take_more}
use Rattle.metric_cert.specs.Reading.{table_as}
use Rattle.metric_cert.proofs.Printed.{entries_more}
use Rattle.metric_cert.proofs.printing.push_entries.Goals as goal

pub loop-entry-preserved : goal.loop-entry-preserved
loop-entry-preserved g c =
    entries_more (table_as g.F.Fields.step) (g.F.Fields.levels + 1) c.args.name.now (take c.loop-entry.entry-index c.args.entries.now) _ c.entry-item.result
    (string_bytes c.args.text.now) (string_bytes c.loop-entry.text) (string_bytes c.push_entry.new.text)
    (take_more c.args.entries.now c.loop-entry.entry-index c.entry-item.result c.loop-entry-test.true ∙ ap (λ x. take c.loop-entry.entry-index c.args.entries.now ++ x ∷ []) (sym c.entry-item.is))
    c.loop-entry.invariant c.in_ok-push_entry.ensures
