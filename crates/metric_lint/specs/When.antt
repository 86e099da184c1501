-- Remarks that hold under a test.
use Rattle.std.specs.Prelude.{Bool, List, [], ◌∷◌, if◌then◌else◌}
use Rattle.metric_lint.specs.declared.remark.Remark.{Remark}

-- a remark, where it holds
abbrev pub when : Bool → Remark → List Remark
when holds remark = if holds then remark ∷ [] else []
