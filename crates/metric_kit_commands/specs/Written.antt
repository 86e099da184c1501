-- Texts that are written part by part.
use Rattle.std.specs.Prelude.{ℕ, List}
use Rattle.std.specs.List.{enumerate_from, flat_map}
use Rattle.metric_io.specs.Counts.{HasFailed}
use Rattle.metric_kit_commands.specs.declared.fault.KitFault.{KitFault}
use Rattle.metric_kit_commands.specs.declared.fault.KitFault.TheVariants.{Write, Memory}

-- the texts of all parts, each with its number
unfoldable pub parts_text : {T : Type 0} → (ℕ → T → List ℕ) → List T → List ℕ
parts_text text parts = flat_map (λ placed. text placed.0 placed.1) (enumerate_from 0 parts)

-- A text is not written only where the sink failed in between, or memory ran out.
abbrev pub IsSinkFault : ℕ → ℕ → KitFault → Type 0
IsSinkFault old new Write = HasFailed old new
IsSinkFault old new Memory = Unit {0}
IsSinkFault old new _ = ⊥
