-- The instrument that a program was made for.
use Rattle.std.specs.Prelude.{◌≡◌, ◌⊎◌, ℕ, Result, Err, Ok}
use Rattle.metric_contents.specs.declared.contents.Kind.{Kind}
use Rattle.metric_handles.specs.Bounds.{HandleValue}
use Rattle.metric_handles.specs.declared.fault.HandleFault.{HandleFault}
use Rattle.metric_handles.specs.declared.fault.HandleFault.TheVariants.{OtherMeaning}
use Rattle.metric_handles.specs.Named.{number_of_kind}
use Rattle.metric_meaning.specs.Meanings.{Means, Shape}
use Rattle.metric_plan.specs.Plans.{PlanValue, print_of}

-- # handle of what is expected (API, create an instrument) [IsHandleOf, IsExpected]
-- The number of the named instrument, with the plan's fingerprint, exactly where it means what is
-- expected; else what was found of the name, or that it means something else.
abbrev pub IsHandleOf : PlanValue → Shape → Result HandleValue HandleFault → Result ℕ HandleFault
    → Type 0
IsHandleOf plan shape result (Err fault) = result ≡ Err fault
IsHandleOf plan shape result (Ok number) =
    (Means plan.facts.contents number shape
    × (result ≡ Ok (record { plan = print_of plan; number = number })))
    ⊎ ((Means plan.facts.contents number shape → ⊥) × (result ≡ Err OtherMeaning))

-- the same of the only instrument of the name in the meters of that name, of this kind
abbrev pub IsExpected : PlanValue → Kind → Shape → Result HandleValue HandleFault → Type 0
IsExpected plan kind shape result =
    IsHandleOf plan shape result
    (number_of_kind plan.facts.contents kind shape.meter shape.name)
