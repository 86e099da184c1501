-- What a fault of an input tells.
use Rattle.std.specs.Prelude.{ℕ}
use Rattle.metric_parts.specs.declared.fault.InputFault.{InputFault}
use Rattle.metric_parts.specs.declared.fault.InputFault.TheVariants.{Input, Memory}

-- a fact of the line that a fault names
abbrev pub OnInput : InputFault → (ℕ → Type 0) → Type 0
OnInput (Input line) P = P line
OnInput Memory P = Unit {0}
