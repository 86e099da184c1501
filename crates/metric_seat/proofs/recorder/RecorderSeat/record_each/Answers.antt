-- a book that keeps no entries asks for no slips
use Rattle.std.proofs.Common.{◌≡◌, true, inl, inr, refl, rules, sym, subst, ◌∙◌}
use Rattle.std.specs.Prelude.{Bool}
use Rattle.std.proofs.lemmas.Result.{IfErr-weaker}
use Rattle.metric_seat.specs.Handing.{Hands}
use Rattle.metric_seat.specs.Seats.{provider_of}
use Rattle.metric_seat.proofs.NotingLaws.{hands_of, nothing_said, nothing_there, spared_after}
use Rattle.metric_seat.proofs.recorder.RecorderSeat.record_each.Goals as goal

pub returns-then-is_empty-clause-told : goal.returns-then-is_empty-clause-told
returns-then-is_empty-clause-told g c =
    nothing_said g.B.Book.KEEPS_ENTRIES c.args.plan.now c.args.self.now _ c.args.instrument c.args.all.now (nothing_there c.args.all.now (sym c.is_empty.ensures ∙ c.if-is_empty.true)) refl

pub returns-then-is_empty-clause-handed : goal.returns-then-is_empty-clause-handed
returns-then-is_empty-clause-handed g c = inl (nothing_there c.args.all.now (sym c.is_empty.ensures ∙ c.if-is_empty.true), refl, refl)

pub returns-then-not-KEEPS_ENTRIES-clause-refused : goal.returns-then-not-KEEPS_ENTRIES-clause-refused
returns-then-not-KEEPS_ENTRIES-clause-refused g c =
    IfErr-weaker c.record_told.result _ _
    (λ fault. spared_after g.B.Book.KEEPS_ENTRIES g.B.Book.spares_memory (provider_of c.args.plan.now c.args.run) c.args.self.now c.args.instrument c.args.all.now fault)
    c.record_told.ensures.refused

pub returns-then-not-KEEPS_ENTRIES-clause-handed : goal.returns-then-not-KEEPS_ENTRIES-clause-handed
returns-then-not-KEEPS_ENTRIES-clause-handed g c =
    inr (hands_of g.B.Book.KEEPS_ENTRIES g.H.Held.records c.args.plan.now c.args.self.now c.args.instrument c.args.held.now c.record_told.new.held c.args.all.now c.record_told.result
    c.record_told.ensures.handed)

pub returns-clause-handed : goal.returns-clause-handed
returns-clause-handed g c =
    let keeps_is : g.B.Book.KEEPS_ENTRIES ≡ true = search rules in
    inr (subst (λ (keeps : Bool). Hands keeps g.H.Held.records c.args.plan.now c.args.self.now c.args.instrument c.args.held.now c.record_noted.new.held c.args.all.now c.record_noted.result)
    (sym keeps_is) c.record_noted.ensures.handed)
