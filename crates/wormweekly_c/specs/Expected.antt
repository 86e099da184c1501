-- What a program that was made for an instrument records, in ranks and in attributes.
use Rattle.std.specs.Prelude.{◌≡◌, ◌≤◌, ◌+◌, ◌-◌, ◌/◌, ◌%◌, ◌==◌, ◌&&◌, ◌++◌, ◌∷◌, ℕ, ℤ, Bool, true}
use Rattle.std.specs.Prelude.{false, List, [], if◌then◌else◌, length, nat_le, replicate}
use Rattle.metric_catalogue.specs.Sound.{IsSound}
use Rattle.metric_contents.specs.declared.contents.Key.{Key}
use Rattle.metric_contents.specs.Encoding.{Given}
use Rattle.metric_contents.specs.KeySets.{is_key_set}
use Rattle.metric_hosted.specs.declared.planned.HostedRecorder.{HostedRecorder}
use Rattle.metric_hosted.specs.Hosts.{HostedValue, number_of}
use Rattle.metric_meaning.specs.Meanings.{AskedKey, KeysMean, Means, Shape}
use Rattle.metric_plan.specs.Plans.{IsPlan}
use Rattle.wormweekly_c.specs.Ranks.{named_at, named_by}
use Rattle.wormweekly_c.specs.Recordings.{admission, admission_key}

-- Ranks of the keys that a program was made for: one plus the place of a value, or 0 where the key
-- may be left out.
abbrev pub are_ranks : ℕ → List AskedKey → List ℕ → Bool
are_ranks optional [] [] = true
are_ranks optional [] (rank ∷ ranks) = false
are_ranks optional (asked ∷ others) [] = false
are_ranks optional (asked ∷ others) (rank ∷ ranks) =
    (if rank == 0 then optional % 2 == 1 else nat_le rank (length asked.values))
    && are_ranks (optional / 2) others ranks

-- the attributes that they stand for in the program
abbrev pub asked_by : List AskedKey → List ℕ → List Given
asked_by [] ranks = []
asked_by (asked ∷ others) [] = []
asked_by (asked ∷ others) (rank ∷ ranks) =
    named_at asked.name asked.values rank ++ asked_by others ranks

-- They are a full set of the instrument's keys, and name the attributes that the program means.
pub record NameAsked (keys : List Key) (asked : List AskedKey) (ranks set : List ℕ) : Type 0 where
  pub full : is_key_set keys set ≡ true
  pub named : named_by keys set ≡ asked_by asked ranks

-- # what a program was made for (profile) [ExpectedRanksName, CallsAreTheirTexts]
-- Where the keys mean what a program was made for, its ranks, with 0 for each further key, are a
-- full set, and name the attributes that the program means.
abbrev pub ExpectedRanksName : Type 0
ExpectedRanksName =
    (optional : ℕ) (asked : List AskedKey) (keys : List Key) (ranks : List ℕ) (further : ℕ)
    → KeysMean optional asked keys → are_ranks optional asked ranks ≡ true
    → length keys ≤ length ranks + further
    → NameAsked keys asked ranks (ranks ++ replicate further 0)

-- A recording of the ranks of a program that was made for the instrument is admitted, and so
-- answered and kept, as the one with the attributes that the program means.
abbrev pub CallsAreTheirTexts : Type 0
CallsAreTheirTexts =
    (own : HostedRecorder) (h : HostedValue) (shape : Shape) (ranks : List ℕ) (value : ℤ)
    → IsPlan own.plan → IsSound own.plan.facts.contents
    → Means own.plan.facts.contents (number_of h) shape
    → are_ranks shape.optional shape.keys ranks ≡ true → length ranks ≤ 8
    → admission h own (asked_by shape.keys ranks) value
    ≡ admission_key h own (ranks ++ replicate (8 - length ranks) 0) value
