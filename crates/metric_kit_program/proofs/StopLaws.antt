-- A line that is not told whole is not told because the sink failed.
use Rattle.std.proofs.Common.{List, ℕ, ◌++◌, codes, Result, Ok, Err, IfErr, OnOk, inl, inr}
use Rattle.std.specs.Io.KnownBytes.{Appends}
use Rattle.metric_io.specs.Counts.{HasFailed}
use Rattle.metric_io.specs.Prefix.{AppendsPrefix}
use Rattle.metric_kit_commands.specs.Commands.{SinkRun}
use Rattle.metric_kit_program.specs.Programs.{IsTold}

pub told : {E : Type 0} (r : Result (Unit {0}) E) (errors : SinkRun) (line : List ℕ)
    → OnOk r (Appends errors.contents errors.contents_after (line ++ codes "\n"))
    → AppendsPrefix errors.contents errors.contents_after (line ++ codes "\n")
    → IfErr r (λ _. HasFailed errors.failures errors.failures_after)
    → IsTold line errors
told (Ok done) errors line whole prefix broken = record { prefix = prefix; whole = inl whole }
told (Err fault) errors line whole prefix broken = record { prefix = prefix; whole = inr broken }
