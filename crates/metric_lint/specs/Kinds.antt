-- The kinds of remarks, by their names.
use Rattle.std.specs.Prelude.{◌||◌, ℕ, Bool, List, codes}
use Rattle.std.specs.Str.{bytes_eq}
use Rattle.metric_lint.specs.declared.remark.Remark.{Remark}
use Rattle.metric_lint.specs.declared.remark.Remark.TheVariants.{Unfit, Collision, SelectsNothing}
use Rattle.metric_lint.specs.declared.remark.Remark.TheVariants.{UnknownKey, UnusedBoundaries}
use Rattle.metric_lint.specs.declared.remark.Remark.TheVariants.{Unrecorded, OverBudget, NoBudget}
use Rattle.metric_lint.specs.declared.remark.Remark.TheVariants.{NoRecorder, NoReader}
use Rattle.metric_lint.specs.declared.remark.Remark.TheVariants.{NothingAllowed, OneValue}
use Rattle.metric_lint.specs.declared.remark.Remark.TheVariants.{OneBucket, FarBoundaries, UnusedValue}
use Rattle.metric_lint.specs.declared.remark.Remark.TheVariants.{SaysNothing, KeptAndExcluded}
use Rattle.metric_lint.specs.declared.remark.Remark.TheVariants.{NoStream, LevelDelta}

-- the name of a remark's kind
abbrev pub kind_of : Remark → List ℕ
kind_of (Unfit view instrument) = codes "unfit"
kind_of (Collision first later) = codes "collision"
kind_of (SelectsNothing view) = codes "selects-nothing"
kind_of (UnknownKey view list place) = codes "unknown-key"
kind_of (UnusedBoundaries view) = codes "unused-boundaries"
kind_of (SaysNothing view) = codes "says-nothing"
kind_of (KeptAndExcluded view place) = codes "kept-and-excluded"
kind_of (Unrecorded instrument) = codes "unrecorded"
kind_of (NothingAllowed instrument) = codes "nothing-allowed"
kind_of (OneValue instrument) = codes "one-value"
kind_of (UnusedValue instrument key value) = codes "unused-value"
kind_of (OneBucket stream) = codes "one-bucket"
kind_of (FarBoundaries stream) = codes "far-boundaries"
kind_of (OverBudget instrument limit) = codes "over-budget"
kind_of (NoBudget recorder) = codes "no-budget"
kind_of NoRecorder = codes "no-recorder"
kind_of (NoStream reader) = codes "no-stream"
kind_of (LevelDelta reader kind) = codes "level-delta"
kind_of NoReader = codes "no-reader"

-- a kind has the name
abbrev pub is_kind : List ℕ → Bool
is_kind name =
    bytes_eq name (codes "unfit") || bytes_eq name (codes "collision")
    || bytes_eq name (codes "selects-nothing") || bytes_eq name (codes "unknown-key")
    || bytes_eq name (codes "unused-boundaries") || bytes_eq name (codes "says-nothing")
    || bytes_eq name (codes "kept-and-excluded") || bytes_eq name (codes "unrecorded")
    || bytes_eq name (codes "nothing-allowed") || bytes_eq name (codes "one-value")
    || bytes_eq name (codes "unused-value") || bytes_eq name (codes "one-bucket")
    || bytes_eq name (codes "far-boundaries")
    || bytes_eq name (codes "over-budget") || bytes_eq name (codes "no-budget")
    || bytes_eq name (codes "no-recorder") || bytes_eq name (codes "no-stream")
    || bytes_eq name (codes "level-delta") || bytes_eq name (codes "no-reader")
