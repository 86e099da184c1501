-- all entries were written
use Rattle.std.proofs.Common.{◌+◌, OnOk, string_bytes, subst}
use Rattle.metric_cert.specs.Printing.{AppendsEntries}
use Rattle.metric_cert.specs.Reading.{table_as}
use Rattle.metric_cert.proofs.printing.push_list.Goals as goal

pub returns : goal.returns
returns g c =
    subst (λ xs. OnOk c.push_entries.result (AppendsEntries (table_as g.F.Fields.step) (g.F.Fields.levels + 1) c.args.name.now xs (string_bytes c.args.text.now) (string_bytes c.push_entries.new.text)))
    c.as_slice.ensures c.push_entries.ensures
