-- Which file an output leads to.
use Rattle.std.proofs.Common.{◌≡◌, ◌∙◌, ◌⊎◌, ◌||◌, ◌<◌, ◌+◌, ℕ, Bool, true, false, List, Option, ap, get_or, inl, inr, refl, sym, take, true≢false}
use Rattle.std.specs.List.{list_any}
use Rattle.std.specs.Prelude.{length}
use Rattle.std.specs.Str.{bytes_eq}
use Rattle.std.proofs.lemmas.List.Folds.{list_any_more}
use Rattle.std.proofs.lemmas.Slice.Eq.{bytes_eq-Decides}
use Rattle.metric_command_lines.specs.declared.wormweekly.request.Files.{Files}
use Rattle.wormweekly_commands.specs.Runs.{IsInput, IsOld}
use Rattle.wormweekly_commands.specs.declared.fault.Role.{Role}
use Rattle.wormweekly_commands.specs.declared.fault.Role.TheVariants as roles

pub old_is_input : (same : List ℕ → List ℕ → Option Bool) (output : List ℕ) (files : Files) (role : Role) → IsOld same output files role → IsInput same output files role
old_is_input same output files roles.OldCatalogue is = is
old_is_input same output files roles.OldConfig is = is
old_is_input same output files roles.Catalogue is = absurd is
old_is_input same output files roles.Config is = absurd is
old_is_input same output files roles.Certificate is = absurd is
old_is_input same output files roles.Accepted is = absurd is
old_is_input same output files roles.Script is = absurd is
old_is_input same output files roles.Bound is = absurd is
old_is_input same output files (roles.Queries number) is = absurd is

pub names_neither : {A : Type 0} (b : Bool) → (A → ⊥) → b ≡ false → (A ⊎ (b ≡ true)) → ⊥
names_neither b not_first not_last (inl a) = not_first a
names_neither false not_first not_last (inr e) = absurd cc
names_neither true not_first not_last (inr e) = absurd cc

is_other : (xs ys : List ℕ) (same found : Bool) → bytes_eq xs ys ≡ same → (xs ≡ ys → found ≡ true) → found ≡ false → same ≡ false
is_other xs ys false found e own none = refl
is_other xs ys true found e own none = absurd (true≢false (sym (own ((bytes_eq-Decides xs ys).0 e)) ∙ none))

-- one file more that is at another path
pub none_more : (output : List ℕ) (queries : List (List ℕ)) (n : ℕ) (d : List ℕ) (found : Bool) → n < length queries
    → list_any (bytes_eq output) (take n queries) ≡ false → (output ≡ get_or queries n d → found ≡ true) → found ≡ false
    → list_any (bytes_eq output) (take (n + 1) queries) ≡ false
none_more output queries n d found within before own none =
    list_any_more (bytes_eq output) queries n d within
    ∙ ap (λ (b : Bool). b || bytes_eq output (get_or queries n d)) before
    ∙ is_other output (get_or queries n d) _ found refl own none
