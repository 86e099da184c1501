-- A table that is ready is of the kind that it was.
use Rattle.std.proofs.Common.{◌≡◌, ℕ, ℤ, List, refl, subst}
use Rattle.metric_series.specs.Eithers.{IsReady}
use Rattle.metric_series.specs.declared.either.Either.{Either}
use Rattle.metric_series.specs.declared.either.Either.TheVariants.{Left, Right}
use Rattle.metric_series.specs.declared.place.Place.{Place}
use Rattle.metric_series.specs.declared.table.Table as table

module _ {A B : Type 0} (left : table.Ghosts A) (right : table.Ghosts B) (set : List ℕ) (value : ℤ) (place : Place) where
  abbrev pub Ready : Either A B → Either A B → Type 0
  Ready old now = IsReady left right old now set value place

  pub left_was : (old now : Either A B) (t : A) → Ready old now → now ≡ Left t
      → (before : A) × (old ≡ Left before) × left.is_ready before t set value place
  left_was (Left before) now t ready is = (before, refl, subst (Ready (Left before)) is ready)
  left_was (Right before) now t ready is = absurd (subst (Ready (Right before)) is ready)

  pub right_was : (old now : Either A B) (t : B) → Ready old now → now ≡ Right t
      → (before : B) × (old ≡ Right before) × right.is_ready before t set value place
  right_was (Right before) now t ready is = (before, refl, subst (Ready (Right before)) is ready)
  right_was (Left before) now t ready is = absurd (subst (Ready (Left before)) is ready)
