-- What the events and replies of a run tell of each instrument.
use Rattle.std.specs.Prelude.{◌≡◌, ◌==◌, ◌++◌, ℕ, List, [], ◌∷◌, Option, Some, None, length}
use Rattle.std.specs.Prelude.{replicate, slice_get, if◌then◌else◌}
use Rattle.metric_contents.specs.declared.contents.Contents.{Contents}
use Rattle.metric_history.specs.Events.{instrument_of}
use Rattle.metric_history.specs.History.{History}
use Rattle.metric_history.specs.declared.batch.Batch.{Batch}
use Rattle.metric_history.specs.declared.event.Event.{Event}
use Rattle.metric_history.specs.declared.event.Reply.{Reply}
use Rattle.metric_history.specs.declared.event.Reply.TheVariants.{Collected}
use Rattle.metric_kit_commands.specs.Audits.{AddsSlips, AreSlipsOf, batches_told}
use Rattle.metric_kit_commands.specs.declared.accounts.Account.{Account}

-- the batch of a reply, where it has one
abbrev pub batch_in : Reply → List Batch
batch_in (Collected b) = b ∷ []
batch_in _ = []

abbrev pub batch_at : Option Reply → List Batch
batch_at None = []
batch_at (Some reply) = batch_in reply

-- the batches among the replies at these places
abbrev pub batches_at : List Reply → List ℕ → List Batch
batches_at replies [] = []
batches_at replies (place ∷ places) =
    batch_at (slice_get replies place) ++ batches_at replies places

-- the place of a reply that has a batch
abbrev pub place_of : ℕ → Reply → List ℕ
place_of place (Collected b) = place ∷ []
place_of place _ = []

-- What the history tells of an instrument: each recorder's slips, and the batches among its
-- replies.
pub record IsAccount (contents : Contents) (replies : List Reply) (h : History) (i : ℕ)
    (account : Account) : Type 0 where
  pub slips : AreSlipsOf contents h i account.slips.items
  pub batches : batches_at replies account.places.items ≡ batches_told h i

-- An account for each instrument, in order.
pub record AreAccounts (contents : Contents) (replies : List Reply) (h : History)
    (accounts : List Account) : Type 0 where
  pub one_each : length accounts ≡ length contents.instruments
  pub own : (i : ℕ) (account : Account) → slice_get accounts i ≡ Some account
      → IsAccount contents replies h i account

-- Nothing was told yet, by so many recorders.
pub record IsEmptyAccount (recorders : ℕ) (account : Account) : Type 0 where
  pub slips : account.slips.items ≡ replicate recorders []
  pub places : account.places.items ≡ []

-- An instrument's account has what an event tells of it more, whose reply stands at a place.
pub record AddsToAccount (contents : Contents) (i place : ℕ) (event : Event) (reply : Reply)
    (old new : Account) : Type 0 where
  pub slips : AddsSlips contents i event reply old.slips.items new.slips.items
  pub places : new.places.items
      ≡ old.places.items ++ (if instrument_of event == i then place_of place reply else [])

-- So has that of each instrument.
pub record AddsToAccounts (contents : Contents) (place : ℕ) (event : Event) (reply : Reply)
    (old new : List Account) : Type 0 where
  pub one_each : length new ≡ length old
  pub own : (i : ℕ) (before after : Account) → slice_get old i ≡ Some before
      → slice_get new i ≡ Some after
      → AddsToAccount contents i place event reply before after
