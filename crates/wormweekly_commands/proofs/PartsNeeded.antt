-- The parts that a replay needs: a certificate, unless it is a trial for want of one, and a script.
use Rattle.std.proofs.Common.{◌≡◌, ℕ, Bool, List, Option, Some, None, IsSome, IsTrue, not, refl, subst}
use Rattle.std.specs.Prelude.{is_some}
use Rattle.metric_kit_commands.specs.Commands.{HasNeeded}
use Rattle.metric_kit_commands.specs.Replaying.{needs_of, plain_options}
use Rattle.metric_parts.specs.declared.parts.Parts.{Parts}

is_there : (text : Option (List ℕ)) → IsTrue (not (not (is_some text))) → IsSome text
is_there None needed = absurd cc
is_there (Some text) needed = refl

pub needed_of : (trial : Bool) (read : Parts) → trial ≡ not (is_some read.certificate) → IsSome read.script → HasNeeded (needs_of (plain_options trial)) read
needed_of trial read is scripted = record {
  certificate = λ needed. is_there read.certificate (subst (λ (t : Bool). IsTrue (not t)) is needed);
  script = λ _. scripted;
}
