-- one table more
use Rattle.metric_cert.specs.Reading.{entry_as}
use Rattle.metric_cert.proofs.Listed.{all_read, fault_given, next_read, read_behind}
use Rattle.metric_cert.proofs.fields.read_entries.Goals as goal

pub loop-value-preserved : goal.loop-value-preserved
loop-value-preserved g c =
    next_read (entry_as c.args.list g.F.Fields.step) c.args.values.now c.loop-value.value-index c.value-item.result c.loop-value.entries _ c.in_ok-entry.entry _ c.loop-value-test.true c.value-item.is
    (read_behind c.args.list g.F.Fields.step c.loop-value.entries c.len.result _ _ c.len.ensures c.in_ok-entry.ensures) c.in_ok-push.ensures.ok c.loop-value.invariant

pub returns-in_err-entry : goal.returns-in_err-entry
returns-in_err-entry g c =
    fault_given (entry_as c.args.list g.F.Fields.step) c.args.values.now c.loop-value.value-index c.value-item.result c.loop-value.entries c.from_residual.result _ c.in_err-entry.field-0.0
    c.loop-value-test.true c.value-item.is c.from_residual.ensures.1
    (λ other. read_behind c.args.list g.F.Fields.step c.loop-value.entries c.len.result _ _ c.len.ensures (c.in_err-entry.ensures other)) c.loop-value.invariant

pub returns : goal.returns
returns g c =
    all_read (entry_as c.args.list g.F.Fields.step) c.args.values.now c.loop-value.value-index c.loop-value.entries _ c.loop-value-test.false c.loop-value.invariant
