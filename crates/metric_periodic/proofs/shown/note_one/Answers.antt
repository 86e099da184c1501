-- one batch, of an instrument or of none
use Rattle.std.proofs.Common.{length, refl, sym}
use Rattle.std.proofs.lemmas.Bool.{ltb-false, ltb-true}
use Rattle.std.proofs.lemmas.Option.{slice_get_past, slice_get_read}
use Rattle.metric_periodic.proofs.ShownLaws.{notes_one, notes_past}
use Rattle.metric_periodic.proofs.shown.note_one.Goals as goal

pub returns-in-Some : goal.returns-in-Some
returns-in-Some c =
    let items = c.args.shown.now.items in
    let place = c.args.batch.now.instrument in
    let item = c.in-Some.ensures.item in
    notes_one c.args.is_refused c.args.batch.now items c.in-Some.one.now _
    (slice_get_read items _ place _ refl (ltb-true place (length items) (sym item.0)) item.1) (rw c.has_points.ensures refl)

pub returns-in_default : goal.returns-in_default
returns-in_default c =
    let items = c.args.shown.now.items in
    let place = c.args.batch.now.instrument in
    notes_past c.args.is_refused c.args.batch.now items
    (slice_get_past items place (ltb-false place (length items) (sym c.in_default.ensures.item.0)))
