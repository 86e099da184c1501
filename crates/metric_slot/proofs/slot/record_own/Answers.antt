-- one recording more
use Rattle.std.proofs.Common.{◌≡◌, ℤ, to_z, of_z, w64, length, rules, sym, subst}
use Rattle.std.proofs.lemmas.Int.{to_z-of_z}
use Rattle.metric_core.specs.CellAnswers.{AnswersRecording, entry_of}
use Rattle.metric_history.specs.declared.entry.Entry.{Entry}
use Rattle.metric_slot.proofs.SlotLaws.{IsNext, answer_room, recorder_answers}
use Rattle.metric_slot.proofs.slot.record_own.Goals as goal

pub returns-clause-answer : goal.returns-clause-answer
returns-clause-answer g c =
    let entry : Entry = entry_of c.args.recorder c.args.set c.args.value in
    let own = c.is_own_recorder.ensures.0 c.if-not-is_own_recorder.false in
    let same : to_z w64 (of_z w64 c.args.value) ≡ c.args.value = to_z-of_z w64 c.args.value c.ranges.value in
    let eight : length c.args.set ≡ 8 = search rules in
    let next : IsNext c.args.facts.now entry = record { eight = eight; allowed = c.requires.set; value = c.requires.value } in
    recorder_answers g.B.Book.stands c.args.cell.now c.args.facts.now c.args.told.now entry c.record.result c.journals_are_bounded.ensures.fits c.requires.safe c.facts.ensures.kept own next
    (subst (λ (v : ℤ). AnswersRecording g.B.Book.stands c.args.cell.now (entry_of c.args.recorder c.args.set v) c.record.result) same c.record.ensures.answer)

pub returns-clause-room : goal.returns-clause-room
returns-clause-room g c =
    let own = c.is_own_recorder.ensures.0 c.if-not-is_own_recorder.false in
    let same : to_z w64 (of_z w64 c.args.value) ≡ c.args.value = to_z-of_z w64 c.args.value c.ranges.value in
    answer_room g.B.Book.stands c.args.cell.now c.args.facts.now c.args.told.now (entry_of c.args.recorder c.args.set c.args.value) c.record.result c.requires.safe c.facts.ensures.kept own c.requires.value
    (subst (λ (v : ℤ). AnswersRecording g.B.Book.stands c.args.cell.now (entry_of c.args.recorder c.args.set v) c.record.result) same c.record.ensures.answer)

pub returns-clause-memory : goal.returns-clause-memory
returns-clause-memory g c = λ spares.
    let own = c.is_own_recorder.ensures.0 c.if-not-is_own_recorder.false in
    c.record.ensures.memory (subst g.B.Book.spares_memory (sym own.facts) spares)
