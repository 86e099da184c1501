-- When the facts of an instrument let no limit and no number overflow, whatever
-- is recorded within its budgets.
use Rattle.std.specs.Prelude.{◌≡◌, ℕ, ◌+◌, ◌^◌, ◌<◌, ◌≤◌, pos, ◌≤ℤ◌, ◌<ℤ◌, min, Bool, true, ◌&&◌}
use Rattle.std.specs.Prelude.{◌==◌, IsTrue, All, List, length, sum, FitsSigned}
use Rattle.std.specs.Int.{w64}
use Rattle.std.specs.List.{list_all}
use Rattle.std.specs.Option.{option_map}
use Rattle.metric_combinations.specs.Restrictions.{restrictions}
use Rattle.metric_views.specs.declared.stream.Stream.{Stream}
use Rattle.metric_bounds.specs.Amounts.{amount_with, low_with, high_with}
use Rattle.metric_bounds.specs.Sets.{count_or}
use Rattle.metric_bounds.specs.Sums.{keeps_sum}
use Rattle.metric_history.specs.declared.entry.Entry.{Entry}
use Rattle.metric_facts.specs.declared.facts.Facts.{Facts}
use Rattle.metric_facts.specs.declared.facts.NumberedStream.{NumberedStream}
use Rattle.metric_facts.specs.Facts.{in_bounds, is_allowed_set}
use Rattle.metric_facts.specs.Products.{product_of}

-- how often the instrument may be recorded: the budgets of all recorders, and
-- what may be granted beside them
abbrev pub total : Facts → ℕ
total facts = sum facts.budgets + facts.spare

-- # series that a stream can have (profile)
-- The distinct restrictions of the combinations to its kept keys, where the instrument lists them;
-- else the product over these keys.
abbrev pub series_of : Facts → Stream → ℕ
series_of facts s =
    count_or (product_of s.kept facts.keys) (option_map (restrictions s.kept) facts.allowed)

-- A stream of an instrument has a place for each series that it can get, and its sums stay
-- in 64 bits where it keeps them.
pub record IsSafeStream (facts : Facts) (s : Stream) : Type 0 where
  -- it says of each key whether it is kept
  pub flags : length s.kept ≡ length facts.keys
  -- the series that it can have are within the limit, or the budgets and the spare are
  pub series : min (series_of facts s) (total facts) ≤ s.limit
  -- no sum of recordings is below the least i64
  pub low : IsTrue (keeps_sum s) → FitsSigned w64 (low_with (total facts) facts.lo)
  -- no sum of recordings is above the greatest i64
  pub high : IsTrue (keeps_sum s) → FitsSigned w64 (high_with (total facts) facts.hi)

-- # safe facts (profile) [IsSafeFacts, IsSafeStream]
-- The range is not empty, counts and amounts are u64, and for each stream the series that it can
-- have, or the total of budgets and spare, are within its limit, and kept sums are i64.
pub record IsSafeFacts (facts : Facts) : Type 0 where
  pub ordered : facts.lo ≤ℤ facts.hi
  -- counts are a u64
  pub counts : total facts < 2 ^ 64
  -- what a recorder is told of its values is a u64
  pub amounts : amount_with (total facts) facts.lo facts.hi <ℤ pos (2 ^ 64)
  pub streams : All (λ (s : NumberedStream). IsSafeStream facts s.stream) facts.streams

-- # recordings within the budgets (profile) [is_admitted, IsJournal]
-- Recordings of allowed sets with values in range, no more than the budgets and the spare allow.
abbrev pub is_admitted : Facts → Entry → Bool
is_admitted facts entry =
    length entry.set == 8 && (is_allowed_set facts entry.set && in_bounds facts entry.value)

abbrev pub are_admitted : Facts → List Entry → Bool
are_admitted facts entries = list_all (is_admitted facts) entries

-- The recordings that an instrument may have accepted: it admits each, and they are no more than
-- its budgets and its spare allow.
pub record IsJournal (facts : Facts) (journal : List Entry) : Type 0 where
  pub admitted : are_admitted facts journal ≡ true
  pub budgeted : length journal ≤ total facts
