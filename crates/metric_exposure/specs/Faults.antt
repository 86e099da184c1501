-- How a fault is printed.
use Rattle.std.specs.Prelude.{ℕ, List, ◌++◌, Option, Some, None, codes}
use Rattle.std.specs.Fmt.{decimal}
use Rattle.metric_exposure.specs.declared.fault.ExposureFault.{ExposureFault}
use Rattle.metric_exposure.specs.declared.fault.ExposureFault.TheVariants.{Delta, Boundary}
use Rattle.metric_exposure.specs.declared.fault.ExposureFault.TheVariants.{Nameless}
use Rattle.metric_exposure.specs.declared.fault.ExposureFault.TheVariants.{NameCollision}
use Rattle.metric_exposure.specs.declared.fault.ExposureFault.TheVariants.{BadLabel}
use Rattle.metric_exposure.specs.declared.fault.ExposureFault.TheVariants.{LabelCollision}
use Rattle.metric_exposure.specs.declared.fault.ExposureFault.TheVariants.{ValueCollision}
use Rattle.metric_exposure.specs.declared.fault.ExposureFault.TheVariants.{Memory}

-- with whom a name is shared
abbrev pub other_text : Option ℕ → List ℕ
other_text None = codes " and the target"
other_text (Some stream) = codes " and stream " ++ decimal stream

-- of a stream
abbrev pub stream_text : List ℕ → ℕ → List ℕ
stream_text name stream = name ++ codes " of stream " ++ decimal stream

-- of a key of a stream
abbrev pub key_text : List ℕ → ℕ → ℕ → List ℕ
key_text name stream key = stream_text name stream ++ codes ", key " ++ decimal key

-- its number and name, and of what it is
abbrev pub exposure_fault_text : ExposureFault → List ℕ
exposure_fault_text (Delta stream) = stream_text (codes "1 Delta") stream
exposure_fault_text (Boundary stream) = stream_text (codes "2 Boundary") stream
exposure_fault_text (Nameless stream) = stream_text (codes "3 Nameless") stream
exposure_fault_text (NameCollision stream other) =
    stream_text (codes "4 NameCollision") stream ++ other_text other
exposure_fault_text (BadLabel stream key) = key_text (codes "5 BadLabel") stream key
exposure_fault_text (LabelCollision stream key) = key_text (codes "6 LabelCollision") stream key
exposure_fault_text (ValueCollision stream key) = key_text (codes "7 ValueCollision") stream key
exposure_fault_text Memory = codes "8 Memory"
