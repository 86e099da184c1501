-- a reason too many, or too few; and a fault, or none
use Rattle.std.proofs.Common.{◌≡◌, ℕ, ap, ◌<◌, ◌*◌, ◌/◌, ◌%◌, List, length, Some, None, refl, sym, subst, ◌∙◌, arith}
use Rattle.std.proofs.lemmas.Option.{slice_get_read}
use Rattle.std.proofs.lemmas.Result.{err_from_is_err_and}
use Rattle.metric_contents.specs.declared.contents.Contents.{Contents}
use Rattle.metric_contents.specs.declared.contents.Instrument.{Instrument}
use Rattle.metric_views.specs.declared.config.Config.{Config}
use Rattle.metric_views.specs.declared.config.View.{View}
use Rattle.metric_cert.specs.Valid.{all_pairs}
use Rattle.metric_plan.specs.declared.fault.CheckFault.TheVariants.{PairMissing}
use Rattle.metric_check.specs.Findings.{ReasonFinds, of_reason}
use Rattle.metric_check.specs.Paired.{Told}
use Rattle.metric_check.proofs.Pairs.{length-all_pairs, pair_at}
use Rattle.metric_check.proofs.Walks.{onward_end, onward_fault, onward_missing, onward_more, onward_next}
use Rattle.metric_check.proofs.reasons.check_reasons.Goals as goal

-- how many pairs the code counts
counted : (contents : Contents) (config : Config) (views : List View) (instruments : List Instrument) → views ≡ config.views → instruments ≡ contents.instruments
    → length views * length instruments ≡ length (all_pairs contents config)
counted contents config views instruments same alike = (λ j. length (same j) * length (alike j)) ∙ sym (length-all_pairs contents config)

pub returns-then-place-pairs : goal.returns-then-place-pairs
returns-then-place-pairs c =
    let contents = c.args.catalogue.now in
    let config = c.args.config.now in
    let pairs = counted contents config c.views.result.now c.instruments-instruments.result.now c.views.ensures.views c.instruments-instruments.ensures.instruments in
    onward_more of_reason (ReasonFinds contents config) PairMissing PairMissing (all_pairs contents config) c.args.reasons.now c.loop-place.place _ (omega arith) (omega arith) c.missing_reason.ensures
    c.loop-place.invariant

pub returns-in_err-check_reason_at : goal.returns-in_err-check_reason_at
returns-in_err-check_reason_at c =
    let contents = c.args.catalogue.now in
    let config = c.args.config.now in
    let reasons = c.args.reasons.now in
    let place = c.loop-place.place in
    let reason = c.index-reasons-place.result in
    let n = length contents.instruments in
    let counts = counted contents config c.views.result.now c.instruments-instruments.result.now c.views.ensures.views c.instruments-instruments.ensures.instruments in
    let all = length-all_pairs contents config in
    let within : place < length config.views * n = omega arith in
    let own : Told (of_reason place) (ReasonFinds contents config (place / length c.instruments-instruments.result.now, place % length c.instruments-instruments.result.now) reason) (Some c.in_err-check_reason_at.field-0.0) =
    c.in_err-check_reason_at.ensures in
    let found =
    subst (λ (is : List Instrument). Told (of_reason place) (ReasonFinds contents config (place / length is, place % length is) reason) (Some c.in_err-check_reason_at.field-0.0))
    c.instruments-instruments.ensures.instruments own in
    let out = err_from_is_err_and c.from_residual.result c.from_residual.ensures.1 in
    rw (out.1, out.2)
    (onward_fault of_reason (ReasonFinds contents config) PairMissing PairMissing (all_pairs contents config) reasons place (place / n, place % n) reason c.in_err-check_reason_at.field-0.0
    (pair_at contents config place within) (slice_get_read reasons (length reasons) place reason refl c.loop-place-test.true c.index-reasons-place.is) found c.loop-place.invariant)

pub loop-place-preserved : goal.loop-place-preserved
loop-place-preserved c =
    let contents = c.args.catalogue.now in
    let config = c.args.config.now in
    let reasons = c.args.reasons.now in
    let place = c.loop-place.place in
    let reason = c.index-reasons-place.result in
    let n = length contents.instruments in
    let counts = counted contents config c.views.result.now c.instruments-instruments.result.now c.views.ensures.views c.instruments-instruments.ensures.instruments in
    let all = length-all_pairs contents config in
    let within : place < length config.views * n = omega arith in
    let own : ReasonFinds contents config (place / length c.instruments-instruments.result.now, place % length c.instruments-instruments.result.now) reason None =
    c.in_ok-check_reason_at.ensures in
    let found =
    subst (λ (is : List Instrument). ReasonFinds contents config (place / length is, place % length is) reason None) c.instruments-instruments.ensures.instruments own in
    onward_next of_reason (ReasonFinds contents config) PairMissing PairMissing (all_pairs contents config) reasons place (place / n, place % n) reason
    (pair_at contents config place within) (slice_get_read reasons (length reasons) place reason refl c.loop-place-test.true c.index-reasons-place.is) found c.loop-place.invariant

pub returns-then-reasons-pairs : goal.returns-then-reasons-pairs
returns-then-reasons-pairs c =
    let contents = c.args.catalogue.now in
    let config = c.args.config.now in
    let counts = counted contents config c.views.result.now c.instruments-instruments.result.now c.views.ensures.views c.instruments-instruments.ensures.instruments in
    let ended : length c.args.reasons.now ≡ c.loop-place.place = omega arith in
    onward_missing of_reason (ReasonFinds contents config) PairMissing PairMissing (all_pairs contents config) c.args.reasons.now c.loop-place.place _ (omega arith) (omega arith)
    (c.missing_reason-then-reasons-pairs.ensures ∙ ap (λ (n : ℕ). of_reason n PairMissing) ended) c.loop-place.invariant

pub returns : goal.returns
returns c =
    let contents = c.args.catalogue.now in
    let config = c.args.config.now in
    let counts = counted contents config c.views.result.now c.instruments-instruments.result.now c.views.ensures.views c.instruments-instruments.ensures.instruments in
    onward_end of_reason (ReasonFinds contents config) PairMissing PairMissing (all_pairs contents config) c.args.reasons.now c.loop-place.place (omega arith) (omega arith) c.loop-place.invariant
