-- Which faults are told as a misuse.
use Rattle.std.proofs.Common.{◌≡◌, ◌≢◌, ◌⊎◌, ◌∙◌, ap, [], ◌∷◌, Result, Ok, Err, inl, inr}
use Rattle.std.specs.Prelude.{IsErrAnd, IsErrOf}
use Rattle.clap.specs.Words.{IsAmong, Kinds}
use Rattle.clap.specs.declared.error.ErrorKind.{ErrorKind}
use Rattle.clap.specs.declared.error.ErrorKind.TheVariants.{OutOfMemory}
use Rattle.metric_command_lines.specs.LineFaults.{line_fault}
use Rattle.metric_command_lines.specs.declared.kit.line.LineFault.{LineFault}
use Rattle.metric_command_lines.specs.declared.kit.line.LineFault.TheVariants.{Usage, Memory}

-- the answer tells the fault of this kind
abbrev pub Tells : {X : Type 0} → Result X LineFault → ErrorKind → Type 0
Tells answer kind = IsErrAnd answer (λ fault. fault ≡ line_fault kind)

-- out of memory is not told as a misuse
pub memory_is_no_misuse : {X : Type 0} (answer : Result X LineFault) (kind : ErrorKind)
    → kind ≡ OutOfMemory → Tells answer kind → IsErrOf answer Usage → ⊥
memory_is_no_misuse (Ok line) kind memory tells usage = absurd tells
memory_is_no_misuse (Err fault) kind memory tells usage =
    let is_memory : fault ≡ Memory = tells ∙ ap line_fault memory in
    absurd cc

-- where a misuse is told, there are kinds of which it is one
pub misuse_is_among : {X : Type 0} (answer : Result X LineFault) (kind : ErrorKind) (kinds : Kinds)
    → (kind ≡ OutOfMemory) ⊎ IsAmong kind kinds → Tells answer kind → IsErrOf answer Usage → kinds ≢ []
misuse_is_among answer kind kinds (inl memory) tells usage = absurd (memory_is_no_misuse answer kind memory tells usage)
misuse_is_among answer kind [] (inr among) tells usage = absurd among
misuse_is_among answer kind (k ∷ ks) (inr among) tells usage = λ none. cc

-- what has a fault has not none
pub some_fault : (kind : ErrorKind) (kinds : Kinds) → kind ∷ kinds ≢ []
some_fault kind kinds none = cc
