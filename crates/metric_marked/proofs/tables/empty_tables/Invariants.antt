-- a table for each of the streams so far
use Rattle.std.proofs.Common.{◌≡◌, ℕ, true, All, List, [], IsTrue, take}
use Rattle.metric_facts.specs.Facts.{is_full_set}
use Rattle.metric_facts.specs.declared.facts.NumberedStream.{NumberedStream}
use Rattle.metric_marked.specs.Marks.{HaveRoom, StandAll, TakeAll}
use Rattle.metric_marked.proofs.tables.empty_tables.Given as goal

abbrev pub invariant-loop-numbered : goal.invariant-loop-numbered
invariant-loop-numbered l = record {
  stand : StandAll l.tables.items (take l.numbered-index l.streams) (λ _. []);
  takes : (set : List ℕ) → is_full_set l.keys set ≡ true → TakeAll l.tables.items set;
  room : All (λ (s : NumberedStream). IsTrue s.by_product) l.streams → HaveRoom l.tables.items;
}
