-- What a book keeps that can be audited, and for which journals it stands.
use Rattle.std.specs.Prelude.{◌≡◌, ℕ, List}
use Rattle.metric_facts.specs.declared.facts.Facts.{Facts}
use Rattle.metric_history.specs.declared.entry.Entry.{Entry}
use Rattle.metric_marked.specs.Marks.{MarkedValue, StandsMarked}

-- the running tables, and the accepted recordings, oldest first
pub record AuditedValue : Type 0 where
  pub tables : MarkedValue
  pub entries : List Entry

-- # audited book stands for (profile)
-- Its list is the journal, and its tables stand for it.
pub record StandsAudited (b : AuditedValue) (facts : Facts) (journal : List Entry) (marks : List ℕ)
    : Type 0 where
  pub tables : StandsMarked b.tables facts journal marks
  pub entries : b.entries ≡ journal
