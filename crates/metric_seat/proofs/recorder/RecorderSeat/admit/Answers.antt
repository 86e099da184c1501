-- an admitted recording is known to be declared, and admitted by its set key
use Rattle.std.proofs.Common.{map, sym, ◌∙◌}
use Rattle.metric_contents.specs.Attributes.{given_by}
use Rattle.metric_seat.specs.Seats.{provider_of}
use Rattle.metric_seat.proofs.AdmitLaws.{knows_of, long_of}
use Rattle.metric_seat.proofs.KeyLaws.{keyed_of}
use Rattle.metric_seat.proofs.recorder.RecorderSeat.admit.Goals as goal

pub returns-clause-known : goal.returns-clause-known
returns-clause-known c =
    knows_of (provider_of c.args.plan.now c.args.run) c.args.self.now c.args.instrument (map given_by c.args.attrs.now) c.args.value.now c.declared_set.result
    c.all_facts.ensures.kept c.attributes_name_allowed_sets.ensures (sym c.is_of.ensures ∙ c.if-not-is_of.false) c.declared_set.ensures

pub returns-clause-key : goal.returns-clause-key
returns-clause-key c =
    keyed_of (provider_of c.args.plan.now c.args.run) c.args.self.now c.args.instrument (map given_by c.args.attrs.now) c.args.value.now c.declared_set.result
    c.all_facts.ensures.kept c.attributes_name_allowed_sets.ensures (sym c.is_of.ensures ∙ c.if-not-is_of.false) c.declared_set.ensures

pub returns-clause-long : goal.returns-clause-long
returns-clause-long c =
    long_of (provider_of c.args.plan.now c.args.run) c.args.self.now c.args.instrument (map given_by c.args.attrs.now) c.args.value.now c.declared_set.result
    c.all_facts.ensures.kept c.attributes_name_allowed_sets.ensures (sym c.is_of.ensures ∙ c.if-not-is_of.false) c.declared_set.ensures
