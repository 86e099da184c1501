-- What a book that runs out of memory once keeps, and for which journals it stands.
use Rattle.std.specs.Prelude.{◌≡◌, ℕ, Bool, true, List, []}
use Rattle.metric_history.specs.declared.entry.Entry.{Entry}
use Rattle.metric_facts.specs.declared.facts.Facts.{Facts}
use Rattle.metric_marked.specs.Marks.{MarkedValue, StandsMarked}

-- the tables, and whether nothing was recorded yet
pub record RefusingValue : Type 0 where
  pub book : MarkedValue
  pub is_new : Bool

-- it stands for what its tables stand for; while it is new, they stand for no recordings
pub record StandsRefusing (b : RefusingValue) (facts : Facts) (journal : List Entry)
    (marks : List ℕ) : Type 0 where
  pub book : StandsMarked b.book facts journal marks
  pub none : b.is_new ≡ true → journal ≡ []
