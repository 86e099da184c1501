-- Why words ask for nothing.
use Rattle.std.proofs.Common.{◌≡◌, ◌⊎◌, [], List, Option, Result, Ok, Err, inl, inr, subst}
use Rattle.std.specs.Prelude.{IfErr, OnOk}
use Rattle.clap.specs.Words.{IsAmong, Row, Text, fault_of, subcommand_of}
use Rattle.clap.specs.declared.error.ErrorKind.{ErrorKind}
use Rattle.clap.specs.declared.error.ErrorKind.TheVariants.{DisplayHelp, DisplayVersion, OutOfMemory}
use Rattle.metric_command_lines.specs.Apps.{program_app}
use Rattle.metric_command_lines.specs.RequestFaults.{IsNoRequest, IsNotAsked, IsOwn, TellsKind}
use Rattle.metric_command_lines.specs.declared.wormweekly.fault.RequestFault.{RequestFault}
use Rattle.metric_command_lines.specs.declared.wormweekly.fault.RequestFault.TheVariants.{Told, Usage, Nothing, Misused, Memory}
use Rattle.metric_command_lines.specs.declared.wormweekly.fault.Misuse.{Misuse}

-- clap's refusal is never told as the program's own
no_nothing : (kind : ErrorKind) → TellsKind kind Nothing → ⊥
no_nothing DisplayHelp tells = tells
no_nothing DisplayVersion tells = tells
no_nothing OutOfMemory tells = tells
no_nothing _ tells = tells

no_misuse : (kind : ErrorKind) (misuse : Misuse) → TellsKind kind (Misused misuse) → ⊥
no_misuse DisplayHelp misuse tells = tells
no_misuse DisplayVersion misuse tells = tells
no_misuse OutOfMemory misuse tells = tells
no_misuse _ misuse tells = tells

as_memory : (kind : ErrorKind) (fault : RequestFault) → kind ≡ OutOfMemory → TellsKind kind fault → TellsKind OutOfMemory fault
as_memory kind fault is tells = subst (λ (k : ErrorKind). TellsKind k fault) is tells

-- what clap refuses is refused by one of its faults
pub refused : (words : List Text) (kind : ErrorKind) (fault : RequestFault) → (kind ≡ OutOfMemory) ⊎ IsAmong kind (fault_of program_app words)
    → TellsKind kind fault → IsNoRequest fault words
refused words kind (Told text) (inl memory) tells = absurd (as_memory kind (Told text) memory tells)
refused words kind (Told text) (inr among) tells = record { kind = kind; among = among; told = tells }
refused words kind (Usage text) (inl memory) tells = absurd (as_memory kind (Usage text) memory tells)
refused words kind (Usage text) (inr among) tells = record { kind = kind; among = among; told = tells }
refused words kind Nothing has tells = absurd (no_nothing kind tells)
refused words kind (Misused misuse) has tells = absurd (no_misuse kind misuse tells)
refused words kind Memory has tells = tt

-- out of memory is not one of clap's faults
pub own : (kind : ErrorKind) (fault : RequestFault) → kind ≡ OutOfMemory → TellsKind kind fault → IsOwn fault
own kind (Told text) memory tells = as_memory kind (Told text) memory tells
own kind (Usage text) memory tells = as_memory kind (Usage text) memory tells
own kind Nothing memory tells = tt
own kind (Misused misuse) memory tells = tt
own kind Memory memory tells = tt

-- where clap takes the words, what they name says why they ask for nothing
not_asked : (words : List Text) (fault : RequestFault) → fault_of program_app words ≡ [] → IsNotAsked fault (subcommand_of program_app words)
    → IsNoRequest fault words
not_asked words (Told text) none found = absurd found
not_asked words (Usage text) none found = absurd found
not_asked words Nothing none found = (none, found)
not_asked words (Misused misuse) none found = (none, found)
not_asked words Memory none found = tt

pub taken : {X : Type 0} (words : List Text) (named : Option (Text × List Row)) (answer : Result X RequestFault)
    → fault_of program_app words ≡ [] → named ≡ subcommand_of program_app words → IfErr answer (λ fault. IsNotAsked fault named)
    → IfErr answer (λ fault. IsNoRequest fault words)
taken words named (Ok request) none is found = tt
taken words named (Err fault) none is found = not_asked words fault none (subst (IsNotAsked fault) is found)

not_asked_is_own : (fault : RequestFault) (named : Option (Text × List Row)) → IsNotAsked fault named → IsOwn fault
not_asked_is_own (Told text) named found = found
not_asked_is_own (Usage text) named found = found
not_asked_is_own Nothing named found = tt
not_asked_is_own (Misused misuse) named found = tt
not_asked_is_own Memory named found = tt

pub taken_is_own : {X : Type 0} (named : Option (Text × List Row)) (answer : Result X RequestFault) → IfErr answer (λ fault. IsNotAsked fault named)
    → IfErr answer IsOwn
taken_is_own named (Ok request) found = tt
taken_is_own named (Err fault) found = not_asked_is_own fault named found

pub on_ok : {X Y : Type 0} {P : Type 0} (answer : Result X Y) → P → OnOk answer P
on_ok (Ok x) p = p
on_ok (Err y) p = tt
