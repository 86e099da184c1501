-- Attributes of keys that were compared with the catalogue once.
use Rattle.std.specs.Prelude.{◌≡◌, ◌≢◌, ℕ, ℤ, Bool, List, Result, Ok, IfErr, map}
use Rattle.std.specs.List.Sorted.{IsPermutation}
use Rattle.metric_contents.specs.declared.contents.Kind.{Kind}
use Rattle.metric_contents.specs.declared.refusal.Refusal.{Refusal}
use Rattle.metric_contents.specs.declared.refusal.Refusal.TheVariants.{
  DuplicateKey,
  UnknownKey,
  UnknownValue,
  MissingKey,
  Combination,
}
use Rattle.metric_contents.specs.Encoding.{Given}
use Rattle.metric_facts.specs.declared.facts.Facts.{Facts}
use Rattle.metric_handles.specs.Bounds.{HandleValue, bound_of}
use Rattle.metric_handles.specs.Calls.{MakesRecording}
use Rattle.metric_handles.specs.Named.{handle_in, handle_of}
use Rattle.metric_plan.specs.Plans.{PlanValue}
use Rattle.metric_seat.specs.Recordings.{admitted}
use Rattle.metric_seat.specs.Seats.{ProviderValue, RecorderValue}

-- # refused for values, not for keys (profile) [IsOfValues, IsNotOfKeys]
-- A value is not declared, or the combination is not allowed; no key stands twice, is undeclared or
-- missing.
abbrev pub IsOfValues : Refusal → Type 0
IsOfValues UnknownValue = Unit {0}
IsOfValues Combination = Unit {0}
IsOfValues other = ⊥

-- the refusal is not of keys: none stands twice, is not declared, or is missing
abbrev pub IsNotOfKeys : Refusal → Type 0
IsNotOfKeys refusal = (refusal ≢ DuplicateKey) × (refusal ≢ UnknownKey) × (refusal ≢ MissingKey)

-- the keys of attributes, in order
abbrev pub keys_of : List Given → List (List ℕ)
keys_of attrs = map (λ (given : Given). given.0) attrs

-- Where there is a handle for some keys, attributes of just these, in any order, are bound to the
-- instrument or refused for their values.
abbrev pub BindsKeys : Type 0
BindsKeys =
    (plan : PlanValue) (kind : Kind) (meter name : List ℕ) (keys : List (List ℕ))
    (handle : HandleValue) (attrs : List Given)
    → handle_in plan kind meter name keys ≡ Ok handle
    → IsPermutation keys (keys_of attrs)
    → IfErr (bound_of plan handle attrs) IsOfValues

-- A recording with such attributes, on a provider whose plan has these contents, is not refused
-- for its keys, whatever seat makes it.
abbrev pub RecordsKeys : Bool → (Facts → Type 0) → Type 0
RecordsKeys keeps spares_memory =
    (p : ProviderValue) (kind : Kind) (meter name : List ℕ) (keys : List (List ℕ))
    (number : ℕ) (attrs : List Given) (old new : RecorderValue) (value : ℤ)
    (result : Result (Unit {0}) Refusal)
    → handle_of p.plan.facts.contents kind meter name keys ≡ Ok number
    → IsPermutation keys (keys_of attrs)
    → MakesRecording keeps spares_memory p old new number value
    (admitted p old number attrs value) result
    → IfErr result IsNotOfKeys
