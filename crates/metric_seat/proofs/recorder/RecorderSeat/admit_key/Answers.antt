-- an admitted key is admitted again
use Rattle.std.proofs.Common.{sym, ◌∙◌}
use Rattle.metric_seat.proofs.AdmitLaws.{knows_key, long_key}
use Rattle.metric_seat.specs.Seats.{provider_of}
use Rattle.metric_seat.proofs.KeyLaws.{keyed_again}
use Rattle.metric_seat.proofs.recorder.RecorderSeat.admit_key.Goals as goal

pub returns-clause-key : goal.returns-clause-key
returns-clause-key c =
    keyed_again (provider_of c.args.plan.now c.args.run) c.args.self.now c.args.instrument c.args.set c.args.value.now c.declared_key.result
    (sym c.is_of.ensures ∙ c.if-not-is_of.false) c.declared_key.ensures

pub returns-clause-known : goal.returns-clause-known
returns-clause-known c =
    knows_key (provider_of c.args.plan.now c.args.run) c.args.self.now c.args.instrument c.args.set c.args.value.now c.declared_key.result
    (sym c.is_of.ensures ∙ c.if-not-is_of.false) c.declared_key.ensures

pub returns-clause-long : goal.returns-clause-long
returns-clause-long c =
    long_key (provider_of c.args.plan.now c.args.run) c.args.self.now c.args.instrument c.args.set c.args.value.now c.declared_key.result
    (sym c.is_of.ensures ∙ c.if-not-is_of.false) c.declared_key.ensures
