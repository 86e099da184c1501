-- What is written into a table.
use Rattle.std.specs.Prelude.{◌≡◌, ℕ, ◌≤◌, true, List, Option, Some, None, Result, Ok}
use Rattle.toml.specs.Data.{Data, Members, depth, is_sorted}
use Rattle.metric_table.specs.Members.{with_member}
use Rattle.metric_cert.specs.declared.fault.CertFault.{CertFault}

-- What is printed can be read back: it nests no deeper than so many levels, and
-- the names of each table ascend.
pub record IsPrintable (levels : ℕ) (d : Data) : Type 0 where
  pub shallow : depth d ≤ levels
  pub sorted : is_sorted d ≡ true

-- A field was put into a table, whose value is read as this, and no deeper than that.
pub record Puts {X : Type 0} (step : Data → Result X CertFault) (levels : ℕ) (name : List ℕ) (x : X)
    (before after : Members) : Type 0 where
  pub datum : Data
  pub put : after ≡ with_member name datum before
  pub reads : step datum ≡ Ok x
  pub printable : IsPrintable levels datum

-- The same of a field that may be left out.
abbrev pub PutsGiven : {X : Type 0} → (Data → Result X CertFault) → ℕ → List ℕ → Option X → Members
    → Members → Type 0
PutsGiven step levels name None before after = after ≡ before
PutsGiven step levels name (Some x) before after = Puts step levels name x before after
