-- one more value
use Rattle.std.proofs.Common.{◌++◌, ◌∷◌, [], Ok, take, ap, sym, ◌∙◌}
use Rattle.std.proofs.lemmas.List.{take_all, take_more}
use Rattle.metric_cert.proofs.Written.{each_alone-push, printable-push}
use Rattle.metric_cert.proofs.lists.write_all.Goals as goal

pub loop-entry-preserved : goal.loop-entry-preserved
loop-entry-preserved g c = record {
  reads =
      each_alone-push g.E.EntryKind.step c.loop-entry.values.items c.push.new.self.items c.in_ok-value.value (take c.loop-entry.entry-index c.args.entries.now) _ c.entry-item.result c.in_ok-push.ensures.items
      (take_more c.args.entries.now c.loop-entry.entry-index c.entry-item.result c.loop-entry-test.true ∙ ap (λ x. take c.loop-entry.entry-index c.args.entries.now ++ x ∷ []) (sym c.entry-item.is))
      c.loop-entry.invariant.reads c.in_ok-value.ensures.reads;
  printable = printable-push c.loop-entry.values.items _ c.in_ok-value.value g.E.EntryKind.levels c.in_ok-push.ensures.items c.loop-entry.invariant.printable c.in_ok-value.ensures.printable;
}

pub returns-clause-reads : goal.returns-clause-reads
returns-clause-reads g c =
    c.loop-entry.invariant.reads ∙ ap Ok (take_all c.loop-entry.entry-index c.args.entries.now c.loop-entry-test.false)
