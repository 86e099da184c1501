-- What a recorder keeps of a journal.
use Rattle.std.specs.Prelude.{ℕ, Bool, List, filter, map, ◌==◌}
use Rattle.metric_history.specs.declared.slip.Slip.{Slip}
use Rattle.metric_history.specs.declared.entry.Entry.{Entry}

-- # slips of a recorder (profile) [slip_of, slips_of]
-- For each of its recordings in a journal the set key and the value, in order.
abbrev pub slip_of : Entry → Slip
slip_of entry = record { set = entry.set; value = entry.value }

abbrev pub is_by : ℕ → Entry → Bool
is_by recorder entry = entry.recorder == recorder

-- the slips of a recorder: one for each of its recordings, in order
abbrev pub slips_of : ℕ → List Entry → List Slip
slips_of recorder journal = map slip_of (filter (is_by recorder) journal)
