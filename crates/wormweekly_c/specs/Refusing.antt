-- Why texts come to no certified plan.
use Rattle.std.specs.Prelude.{◌≡◌, ℕ, Bool, false, true, List}
use Rattle.wormweekly_c.specs.declared.no_plan.NoPlan.{NoPlan}
use Rattle.wormweekly_c.specs.declared.no_plan.NoPlan.TheVariants.{NoText, Memory, Fault}

-- Texts that are UTF-8 or not, and may have a fault, come to no plan
-- for this. Only texts have a fault, which is told.
abbrev pub IsWhy : Bool → (List ℕ → Type 0) → NoPlan → Type 0
IsWhy are_texts HasFault NoText = are_texts ≡ false
IsWhy are_texts HasFault Memory = Unit {0}
IsWhy are_texts HasFault (Fault text) = (are_texts ≡ true) × HasFault text.items
