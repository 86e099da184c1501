use Rattle.metric_glob.proofs.RowLemmas.{takes_confirmed, takes_shown, rows_shown}
use Rattle.metric_glob.proofs.confirming.is_confirmed.Goals as goal

pub returns-in-Takes-clause-confirmed : goal.returns-in-Takes-clause-confirmed
returns-in-Takes-clause-confirmed c =
    takes_confirmed c.args.pattern.now c.args.text.now c.in-Takes.takes c.args.reason.now c.is_spelled.result c.in-Takes.is (rw c.as_slice.ensures at c.is_spelled.ensures)

pub returns-in-Takes-clause-shown : goal.returns-in-Takes-clause-shown
returns-in-Takes-clause-shown c =
    takes_shown c.args.pattern.now c.args.text.now c.in-Takes.takes c.args.reason.now c.is_spelled.result c.in-Takes.is (rw c.as_slice.ensures at c.is_spelled.ensures)

pub returns-in-Rows-clause-shown : goal.returns-in-Rows-clause-shown
returns-in-Rows-clause-shown c = λ confirmed.
    rows_shown c.args.pattern.now c.args.text.now c.in-Rows.rows c.args.reason.now c.in-Rows.is
    (rw c.as_slice-in-Rows.ensures at ((c.shuts_out.ensures).0 confirmed))
