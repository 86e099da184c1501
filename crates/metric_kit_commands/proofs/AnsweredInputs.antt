-- What is read of the lines of an input is read of the input.
use Rattle.std.proofs.Common.{◌≡◌, ℕ, List, Result, Ok, Err, IfErr, IsErrAnd, sym, subst}
use Rattle.metric_text.specs.Lines.{lines_of}
use Rattle.metric_parts.specs.Faults.{OnInput}
use Rattle.metric_parts.specs.Input.{IsFirstFault as IsFaultyLine}
use Rattle.metric_parts.specs.Kept.{IsRead}
use Rattle.metric_parts.specs.declared.fault.InputFault.{InputFault}
use Rattle.metric_parts.specs.declared.fault.InputFault.TheVariants as input
use Rattle.metric_parts.specs.declared.needs.Needs.{Needs}
use Rattle.metric_parts.specs.declared.parts.Parts.{Parts}
use Rattle.metric_kit_commands.specs.declared.fault.KitFault.{KitFault}
use Rattle.metric_kit_commands.specs.declared.fault.KitFault.TheVariants.{Input, Memory}
use Rattle.metric_kit_commands.specs.Faults.{from_input}

pub read_of_input : (needs needed : Needs) (lines : List (List ℕ)) (bytes : List ℕ) (read : Parts)
    → needs ≡ needed → lines ≡ lines_of bytes → IsRead needs lines read
    → IsRead needed (lines_of bytes) read
read_of_input needs needed lines bytes read same split is =
    subst (λ (ls : List (List ℕ)). IsRead needed ls read) split (subst (λ (n : Needs). IsRead n lines read) same is)

-- A line with which no input goes on is the first fault, where a command says so.
pub lines_refused : {X : Type 0} (IsFirst : KitFault → Type 0) (needs needed : Needs)
    (lines : List (List ℕ)) (bytes : List ℕ) (fault : InputFault) (r : Result X KitFault)
    → ((line : ℕ) → IsFaultyLine needed (lines_of bytes) line → IsFirst (Input line))
    → IsFirst Memory
    → needs ≡ needed → lines ≡ lines_of bytes → OnInput fault (IsFaultyLine needs lines)
    → IsErrAnd r (λ kit. kit ≡ from_input fault) → IfErr r IsFirst
lines_refused IsFirst needs needed lines bytes fault (Ok x) line memory same split found told = tt
lines_refused IsFirst needs needed lines bytes input.Memory (Err kit) line memory same split found told =
    subst IsFirst (sym told) memory
lines_refused IsFirst needs needed lines bytes (input.Input number) (Err kit) line memory same split found told =
    let of_needed : IsFaultyLine needed lines number = subst (λ (n : Needs). IsFaultyLine n lines number) same found in
    subst IsFirst (sym told) (line number (subst (λ (ls : List (List ℕ)). IsFaultyLine needed ls number) split of_needed))
