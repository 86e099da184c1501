-- Whether slips are the entries of their recorders.
use Rattle.std.specs.Prelude.{◌≡◌, ◌<◌, ◌≤◌, ◌↔◌, ◌==◌, ℕ, List, [], ◌∷◌, Option, Some, None, drop}
use Rattle.std.specs.Prelude.{length, min, nat_lt, slice_index_or, if◌then◌else◌}
use Rattle.metric_history.specs.Slips.{slip_of, slips_of}
use Rattle.metric_history.specs.declared.slip.Slip.{Slip}
use Rattle.metric_history.specs.declared.entry.Entry.{Entry}

-- the slips that were handed in for a recorder: none where it has no list
abbrev pub handed_in : List (List Slip) → ℕ → List Slip
handed_in slips recorder = slice_index_or slips recorder []

-- # entries are slips (profile) [AreEntriesOf, IsFirstUnlike]
-- A recorder's slips in the journal are those that were handed in for it; none for a recorder
-- without a list.
abbrev pub AreEntriesOf : List Entry → List (List Slip) → ℕ → Type 0
AreEntriesOf entries slips recorder = slips_of recorder entries ≡ handed_in slips recorder

-- the least recorder whose entries are not its slips
pub record IsFirstUnlike (entries : List Entry) (slips : List (List Slip)) (recorder : ℕ)
    : Type 0 where
  pub unlike : ¬ AreEntriesOf entries slips recorder
  pub earlier : (other : ℕ) → other < recorder → AreEntriesOf entries slips other

-- what a search for it finds: none where each recorder's are
abbrev pub FindsUnlike : List Entry → List (List Slip) → Option ℕ → Type 0
FindsUnlike entries slips (Some recorder) = IsFirstUnlike entries slips recorder
FindsUnlike entries slips None = (recorder : ℕ) → AreEntriesOf entries slips recorder

-- the recordings that are still to come are the slips from a place on; without a place they are not
abbrev pub Awaits : Option ℕ → List Slip → List Slip → Type 0
Awaits (Some at) slips due = due ≡ drop at slips
Awaits None slips due = ⊥

-- the place of the next slip of a recorder
abbrev pub next_place : List (Option ℕ) → ℕ → Option ℕ
next_place places recorder = slice_index_or places recorder None

-- a recorder's slips with that of an entry before them, where the entry is the recorder's
abbrev pub with_slip : ℕ → Entry → List Slip → List Slip
with_slip recorder entry due = if entry.recorder == recorder then slip_of entry ∷ due else due

-- The new places await what the old ones do after the entry.
pub record Advances (old new : List (Option ℕ)) (slips : List (List Slip)) (entry : Entry)
    : Type 0 where
  pub long : length new ≡ length slips
  pub awaits : (recorder : ℕ) (due : List Slip) → recorder < length slips
      → Awaits (next_place old recorder) (handed_in slips recorder) (with_slip recorder entry due)
      ↔ Awaits (next_place new recorder) (handed_in slips recorder) due

-- each recorder's entries are its slips exactly where its place awaits these entries
abbrev pub AreAwaited : List (Option ℕ) → List (List Slip) → List Entry → List Entry → Type 0
AreAwaited places slips entries rest =
    (recorder : ℕ) → recorder < length slips
    → AreEntriesOf entries slips recorder
    ↔ Awaits (next_place places recorder) (handed_in slips recorder) (slips_of recorder rest)

-- the least recorder whose place awaits more, or none
abbrev pub FindsOpen : List (Option ℕ) → List (List Slip) → Option ℕ → Type 0
FindsOpen places slips (Some recorder) =
    (recorder < length slips)
    × (¬ Awaits (next_place places recorder) (handed_in slips recorder) [])
    × ((other : ℕ) → other < recorder → Awaits (next_place places other) (handed_in slips other) [])
FindsOpen places slips None =
    (other : ℕ) → other < length slips → Awaits (next_place places other) (handed_in slips other) []

-- the lesser of a recorder that was found and another, where that is none of so many
abbrev pub lesser_with : Option ℕ → ℕ → Option ℕ
lesser_with None recorder = Some recorder
lesser_with (Some other) recorder = Some (min other recorder)

abbrev pub lesser_stranger : ℕ → Option ℕ → ℕ → Option ℕ
lesser_stranger count found recorder =
    if nat_lt recorder count then found else lesser_with found recorder

-- the least recorder of an entry that is none of so many, or none
abbrev pub StrangersAre : ℕ → List Entry → Option ℕ → Type 0
StrangersAre count entries (Some recorder) =
    (count ≤ recorder) × (¬ (slips_of recorder entries ≡ []))
    × ((other : ℕ) → count ≤ other → other < recorder → slips_of other entries ≡ [])
StrangersAre count entries None = (other : ℕ) → count ≤ other → slips_of other entries ≡ []
