-- What is kept, with nothing beside it.
use Rattle.std.proofs.Common.{◌≡◌, ℕ, Option, Some, None, refl}
use Rattle.metric_contents.specs.PlaceLaws.{or_else}

pub or_nothing : (o : Option ℕ) → o ≡ or_else o None
or_nothing None = refl
or_nothing (Some p) = refl
