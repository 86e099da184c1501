-- What became of recordings that were not made, counted by instrument.
use Rattle.std.specs.Prelude.{◌≡◌, ℕ, ◌+◌, ◌-◌, min, List, Result, Ok, Err, length, replicate}
use Rattle.std.specs.Prelude.{slice_index_or, slice_set}
use Rattle.metric_contents.specs.declared.refusal.Refusal.{Refusal}
use Rattle.metric_contents.specs.Refusals.{number_of}
use Rattle.metric_handles.specs.Calls.{Notes}
use Rattle.metric_handles.specs.Replaced.{one_more}
use Rattle.metric_plan.specs.Plans.{PlanValue}

-- how often each refusal came, by its number, and how many recordings of lists were not tried
pub record CountsValue : Type 0 where
  pub refused : List ℕ
  pub untried : ℕ

-- a seat, and the counts of each instrument; the last are of all other instruments
pub record CountedValue (S : Type 0) : Type 0 where
  pub seat : S
  pub counts : List CountsValue

-- no refusal of any number, 0 to 14, and nothing untried
abbrev pub no_counts : CountsValue
no_counts = record { refused = replicate 15 0; untried = 0 }

-- a seat that was refused nothing of the instruments of a plan
abbrev pub counted_of : {S : Type 0} → PlanValue → S → CountedValue S
counted_of {S} plan seat = record {
  seat = seat;
  counts = replicate (length plan.facts.contents.instruments + 1) no_counts;
}

-- the place of the counts of an instrument
abbrev pub place_of : List CountsValue → ℕ → ℕ
place_of counts instrument = min instrument (length counts - 1)

-- the counts of an instrument
abbrev pub counts_of : List CountsValue → ℕ → CountsValue
counts_of counts instrument = slice_index_or counts (place_of counts instrument) no_counts

-- how often a refusal came
abbrev pub count_in : List ℕ → Refusal → ℕ
count_in refused refusal = slice_index_or refused (number_of refusal) 0

-- the counts with one more of a refusal, and the same of each other
abbrev pub with_refusal : List ℕ → Refusal → List ℕ
with_refusal refused refusal =
    slice_set refused (number_of refusal) (one_more (count_in refused refusal))

-- so many more, up to the greatest number of 64 bits
abbrev pub more : ℕ → ℕ → ℕ
more count many = min (count + many) 18446744073709551615

-- the counts with a refusal, behind which so many recordings were not tried
abbrev pub refused_before : CountsValue → Refusal → ℕ → CountsValue
refused_before counts refusal untried = record {
  refused = with_refusal counts.refused refusal;
  untried = more counts.untried untried;
}

-- # counts after an answer (profile) [CountsAnswer, counts_after]
-- Of a refusal one more on the instrument and no other, and so many more untried as stand behind it
-- in its list; of an accepted recording the same.
abbrev pub counts_after : List CountsValue → ℕ → ℕ → Result (Unit {0}) Refusal → List CountsValue
counts_after counts instrument untried (Ok done) = counts
counts_after counts instrument untried (Err refusal) =
    slice_set counts (place_of counts instrument)
    (refused_before (counts_of counts instrument) refusal untried)

-- The seat notes what it notes, and the answer is counted.
pub record CountsAnswer {S : Type 0} (notes : Notes S) (old new : CountedValue S)
    (instrument untried : ℕ) (answer : Result (Unit {0}) Refusal) : Type 0 where
  pub noted : notes old.seat new.seat instrument untried answer
  pub counted : new.counts ≡ counts_after old.counts instrument untried answer
