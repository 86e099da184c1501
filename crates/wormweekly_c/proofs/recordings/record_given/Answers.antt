-- the recording of a set key that was found in order
use Rattle.std.proofs.Common.{◌≡◌, ℤ, length, rules, subst, w64}
use Rattle.std.proofs.lemmas.Int.{to_z-of_z}
use Rattle.metric_hosted.specs.Hosts.{number_of}
use Rattle.wormweekly_c.specs.Attributes.{attributes_from}
use Rattle.wormweekly_c.specs.Codes.{IsCodeOf}
use Rattle.wormweekly_c.specs.Recordings.{AnswersKey, RecordsKey}
use Rattle.wormweekly_c.proofs.AdmissionLaws.{AreOwn, answered_as_given, recorded_as_given}
use Rattle.wormweekly_c.proofs.recordings.record_given.Goals as goal

pub returns-in-Some-clause-answer : goal.returns-in-Some-clause-answer
returns-in-Some-clause-answer c =
    let plan_same : c.get-plan.result.now ≡ c.args.own.now.plan = search rules in
    let number_same : c.number.result ≡ number_of c.args.held.now = search rules in
    let are : AreOwn c.get-plan.result.now c.number.result c.args.held.now c.args.own.now =
    record { plan_same = plan_same; number_same = number_same; kept = c.catalogue.ensures.kept; names = c.attributes_name_allowed_sets.ensures } in
    answered_as_given c.get-plan.result.now c.number.result c.args.held.now c.args.own.now (length c.args.given.now) (attributes_from c.args.given.now c.args.texts.now) c.in-Some.set c.args.value c.record_key.result
    are c.in-Some.ensures
    (subst (λ (v : ℤ). IsCodeOf (AnswersKey c.in-Some.set v c.args.held.now c.args.own.now) c.record_key.result) (to_z-of_z w64 c.args.value c.ranges.value) c.record_key.ensures.answer)

pub returns-in-Some-clause-done : goal.returns-in-Some-clause-done
returns-in-Some-clause-done c =
    let plan_same : c.get-plan.result.now ≡ c.args.own.now.plan = search rules in
    let number_same : c.number.result ≡ number_of c.args.held.now = search rules in
    let are : AreOwn c.get-plan.result.now c.number.result c.args.held.now c.args.own.now =
    record { plan_same = plan_same; number_same = number_same; kept = c.catalogue.ensures.kept; names = c.attributes_name_allowed_sets.ensures } in
    λ done. recorded_as_given c.get-plan.result.now c.number.result c.args.held.now c.record_key.new.held c.args.own.now c.record_key.new.own (attributes_from c.args.given.now c.args.texts.now) c.in-Some.set
    c.args.value are c.in-Some.ensures
    (subst (λ (v : ℤ). RecordsKey c.in-Some.set v c.args.held.now c.record_key.new.held c.args.own.now c.record_key.new.own) (to_z-of_z w64 c.args.value c.ranges.value) (c.record_key.ensures.done done))
