-- The names of kinds in the code are those of the definitions.
use Rattle.std.proofs.Common.{◌≡◌, ℕ, List, refl}
use Rattle.std.specs.List.{list_any}
use Rattle.std.specs.Str.{bytes_eq}
use Rattle.metric_diff.specs.declared.kinds.TheConstants.{KINDS}
use Rattle.metric_diff.specs.Kinds.{change_kinds}

pub kinds_are : (name : List ℕ) → list_any (λ kind. bytes_eq name kind.now) KINDS ≡ list_any (bytes_eq name) change_kinds
unfolding change_kinds
kinds_are name = refl
