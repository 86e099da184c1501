-- the reason of the pair stands at its place, and shows whether the view selects the instrument
use Rattle.std.proofs.Common.{◌≡◌, ℕ, ◌+◌, ◌*◌, ◌<◌, List, Some, length, slice_get, ap, refl, subst, sym, ◌∙◌}
use Rattle.std.proofs.lemmas.Option.{slice_get_read}
use Rattle.metric_contents.specs.declared.contents.Instrument.{Instrument}
use Rattle.metric_cert.specs.declared.reason.SelectionReason.{SelectionReason}
use Rattle.metric_check.specs.Known.{selects_by}
use Rattle.metric_check.proofs.EvidenceLaws.{shown_at, shown_there}
use Rattle.metric_check.proofs.selection.ByReasonsSelection.selects.Goals as goal

pub bounds-self-place : goal.bounds-self-place
bounds-self-place c =
    let self = c.args.self.now in
    let view = c.args.view in
    let instrument = c.args.instrument in
    subst (λ (is : List Instrument). view * length is + instrument < length self.reasons.now) (sym c.instruments.ensures.instruments)
    (shown_there self.catalogue.now self.config.now self.reasons.now self.shown view instrument c.requires.view c.requires.instrument)

pub returns : goal.returns
returns c =
    let self = c.args.self.now in
    let view = c.args.view in
    let instrument = c.args.instrument in
    let contents = self.catalogue.now in
    let config = self.config.now in
    let reasons = self.reasons.now in
    let reason = c.index-self-place.result in
    let place = view * length c.instruments.result.now + instrument in
    let same : place ≡ view * length contents.instruments + instrument = ap (λ (is : List Instrument). view * length is + instrument) c.instruments.ensures.instruments in
    let within = subst (λ (p : ℕ). p < length reasons) (sym same) (shown_there contents config reasons self.shown view instrument c.requires.view c.requires.instrument) in
    let at : slice_get reasons place ≡ Some reason = slice_get_read reasons (length reasons) place reason refl within c.index-self-place.is in
    c.shows_selection.ensures ∙ ap (λ (r : SelectionReason). selects_by r.evidence) (sym c.index-self-place.is)
    ∙ shown_at contents config reasons self.shown view instrument c.requires.view c.requires.instrument reason (ap (slice_get reasons) (sym same) ∙ at)
