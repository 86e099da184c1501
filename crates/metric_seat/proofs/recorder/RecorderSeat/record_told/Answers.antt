-- what the instrument's call says, of the seat
use Rattle.std.proofs.Common.{◌≡◌, ◌<◌, length, sym, subst, arith}
use Rattle.std.proofs.lemmas.Result.{IfErr-weaker, on_ok_weaker}
use Rattle.metric_facts.specs.declared.facts.Facts.{Facts}
use Rattle.metric_seat.specs.KeyRecordings.{IsRefusedUnder, told_each}
use Rattle.metric_seat.specs.PlanFacts.{budgets_each}
use Rattle.metric_seat.specs.Seats.{RecorderValue, provider_of}
use Rattle.metric_seat.proofs.KeyLaws.{handed_in, known_at_each, knows_each, of_known, recordable, recorder_at_each, refused_in, told_at_each, told_before_in, told_in}
use Rattle.metric_seat.proofs.recorder.RecorderSeat.record_told.Goals as goal

pub index_mut-so_far-requires : goal.index_mut-so_far-requires
index_mut-so_far-requires g c =
    let long : c.args.instrument < length c.args.self.now.told =
    told_at_each (provider_of c.args.plan.now c.args.run) c.args.self.now c.args.instrument c.args.all.now c.requires.admitted c.requires.some in
    omega (arith, c.self.inside.told.ok.0, subst (λ (s : RecorderValue). c.args.instrument < length s.told) (sym c.self.view_is) long)

pub facts-facts-requires : goal.facts-facts-requires
facts-facts-requires g c =
    known_at_each (provider_of c.args.plan.now c.args.run) c.args.self.now c.args.instrument c.args.all.now c.requires.admitted c.requires.some

pub record_each-requires-clause-some : goal.record_each-requires-clause-some
record_each-requires-clause-some g c = c.requires.some

pub record_each-requires-clause-recorder : goal.record_each-requires-clause-recorder
record_each-requires-clause-recorder g c =
    let known : c.self.inside.number < length c.args.plan.now.facts.contents.recorders =
    subst (λ (s : RecorderValue). s.number < length c.args.plan.now.facts.contents.recorders) (sym c.self.view_is)
    (recorder_at_each (provider_of c.args.plan.now c.args.run) c.args.self.now c.args.instrument c.args.all.now c.requires.admitted c.requires.some) in
    omega (arith, known, budgets_each c.args.plan.now c.args.instrument c.facts-facts.result.now c.facts-facts.ensures.kept c.facts-facts.ensures.facts)

pub record_each-requires-clause-each : goal.record_each-requires-clause-each
record_each-requires-clause-each g c =
    recordable c.args.plan.now c.args.instrument c.args.self.now.number c.facts-facts.result.now c.args.all.now c.facts-facts.ensures.facts
    (knows_each (provider_of c.args.plan.now c.args.run) c.args.self.now c.args.instrument c.args.all.now c.requires.admitted)

pub returns-clause-told : goal.returns-clause-told
returns-clause-told g c =
    let inside : RecorderValue = record { run = c.self.inside.run; number = c.self.inside.number; told = c.self.inside.told.items; slips = c.self.inside.notes.items } in
    on_ok_weaker c.record_each.result
    (λ told. told_in (provider_of c.args.plan.now c.args.run) inside c.args.self.now c.args.instrument c.args.all.now c.index_mut-so_far.result.now c.record_each.new.told c.self.view_is
    c.requires.admitted c.requires.some c.index_mut-so_far.ensures.value
    (of_known c.args.plan.now c.args.instrument c.facts-facts.result.now (λ (own : Facts). c.record_each.new.told ≡ told_each c.index_mut-so_far.result.now own.lo c.args.all.now) c.facts-facts.ensures.facts told))
    c.record_each.ensures.told

pub returns-clause-refused : goal.returns-clause-refused
returns-clause-refused g c =
    let inside : RecorderValue = record { run = c.self.inside.run; number = c.self.inside.number; told = c.self.inside.told.items; slips = c.self.inside.notes.items } in
    IfErr-weaker c.record_each.result _ _
    (λ fault under. refused_in g.B.Book.spares_memory (provider_of c.args.plan.now c.args.run) inside c.args.self.now c.args.instrument c.args.all.now c.index_mut-so_far.result.now
    c.record_each.new.told fault c.self.view_is c.requires.admitted c.requires.some c.index_mut-so_far.ensures.value
    (of_known c.args.plan.now c.args.instrument c.facts-facts.result.now
    (λ (own : Facts). IsRefusedUnder g.B.Book.spares_memory own inside.number c.index_mut-so_far.result.now c.record_each.new.told c.args.all.now fault) c.facts-facts.ensures.facts under))
    c.record_each.ensures.refused

pub returns-clause-told_before : goal.returns-clause-told_before
returns-clause-told_before g c =
    let inside : RecorderValue = record { run = c.self.inside.run; number = c.self.inside.number; told = c.self.inside.told.items; slips = c.self.inside.notes.items } in
    IfErr-weaker c.record_each.result _ _
    (λ fault under. told_before_in g.B.Book.spares_memory (provider_of c.args.plan.now c.args.run) inside c.args.self.now c.args.instrument c.args.all.now c.index_mut-so_far.result.now
    c.record_each.new.told fault c.self.view_is c.requires.admitted c.requires.some c.index_mut-so_far.ensures.value
    (of_known c.args.plan.now c.args.instrument c.facts-facts.result.now
    (λ (own : Facts). IsRefusedUnder g.B.Book.spares_memory own inside.number c.index_mut-so_far.result.now c.record_each.new.told c.args.all.now fault) c.facts-facts.ensures.facts under))
    c.record_each.ensures.refused

pub returns-clause-handed : goal.returns-clause-handed
returns-clause-handed g c =
    let inside : RecorderValue = record { run = c.self.inside.run; number = c.self.inside.number; told = c.self.inside.told.items; slips = c.self.inside.notes.items } in
    let long : c.args.instrument < length c.args.self.now.told =
    told_at_each (provider_of c.args.plan.now c.args.run) c.args.self.now c.args.instrument c.args.all.now c.requires.admitted c.requires.some in
    handed_in g.H.Held.records c.args.plan.now inside c.args.self.now c.facts-facts.result.now c.args.instrument c.args.held.now c.record_each.new.self c.args.all.now c.index_mut-so_far.result.now
    c.record_each.result c.self.view_is c.facts-facts.ensures.facts long c.index_mut-so_far.ensures.value c.record_each.ensures.made
