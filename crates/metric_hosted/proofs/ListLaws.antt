-- One recording more of a list.
use Rattle.std.proofs.Common.{◌≡◌, ◌<◌, ℕ, zero, suc, ◌+◌, List, [], ◌∷◌, ◌++◌, Some, Ok, Err, get_or, length, take, refl, sym, ap, subst, ◌∙◌, arith}
use Rattle.std.specs.Prelude.{slice_get}
use Rattle.std.proofs.lemmas.Option.{same_Some, slice_get-get_or}
use Rattle.metric_contents.specs.declared.refusal.Refusal.{Refusal}
use Rattle.metric_hosted.specs.Recordings.{AnswersHosted, RecordsHosted, admission_of_key}
use Rattle.metric_plan.specs.Plans.{PlanValue}
use Rattle.metric_seat.specs.Seats.{RecorderValue}
use Rattle.metric_seat.specs.declared.keys.Measurement.{Measurement}
use Rattle.metric_hosted.specs.Hosts.{HostedValue}
use Rattle.metric_hosted.specs.Listings.{AreMade, IsMade, StopsAt}

pub made_more : (plan : PlanValue) (old next new : HostedValue) (before told after : RecorderValue) (all : List Measurement) (one : Measurement)
    → AreMade plan old next before told all → IsMade plan next new told after one → AreMade plan old new before after (all ++ one ∷ [])
made_more plan old next new before told after [] one so_far made =
    (new, after, subst (λ (h : HostedValue). IsMade plan h new before after one) so_far.0 (subst (λ (s : RecorderValue). IsMade plan next new s after one) so_far.1 made), (refl, refl))
made_more plan old next new before told after (first ∷ others) one so_far made =
    (so_far.0, so_far.1, so_far.2, made_more plan so_far.0 next new so_far.1 told after others one so_far.3 made)

take_one : {X : Type 0} (xs : List X) (n : ℕ) (x : X) → slice_get xs n ≡ Some x → take (n + 1) xs ≡ take n xs ++ x ∷ []
take_one [] n x found = absurd cc
take_one (y ∷ xs) zero x found = ap (λ z. z ∷ []) (same_Some y x found)
take_one (y ∷ xs) (suc n) x found =
    let last : suc n + 1 ≡ suc (n + 1) = omega arith in
    ap (λ (k : ℕ). take k (y ∷ xs)) last ∙ ap (λ (rest : List _). y ∷ rest) (take_one xs n x found)

-- the recording of a place is made
pub made_at : (plan : PlanValue) (old next new : HostedValue) (before told after : RecorderValue) (all : List Measurement) (n : ℕ) (d : Measurement) → n < length all
    → AreMade plan old next before told (take n all)
    → AnswersHosted (admission_of_key plan next told (get_or all n d).set (get_or all n d).value) plan next told (get_or all n d).value (Ok tt)
    → RecordsHosted (admission_of_key plan next told (get_or all n d).set (get_or all n d).value) plan next new told after (get_or all n d).value
    → AreMade plan old new before after (take (n + 1) all)
made_at plan old next new before told after all n d below so_far answer made =
    subst (λ (xs : List Measurement). AreMade plan old new before after xs) (sym (take_one all n (get_or all n d) (slice_get-get_or all n d below)))
    (made_more plan old next new before told after (take n all) (get_or all n d) so_far (record { answer = answer; made = made }))

-- that of a place is refused, and nothing has changed
pub stops_at : (plan : PlanValue) (old next new : HostedValue) (before told after : RecorderValue) (all : List Measurement) (n : ℕ) (d : Measurement) (refusal : Refusal) → n < length all
    → AreMade plan old next before told (take n all) → new ≡ next → after ≡ told
    → AnswersHosted (admission_of_key plan next told (get_or all n d).set (get_or all n d).value) plan next told (get_or all n d).value (Err refusal)
    → StopsAt plan old new before after all (record { place = n; refusal = refusal })
stops_at plan old next new before told after all n d refusal below so_far same same_seat answer =
    let here : StopsAt plan old next before told all (record { place = n; refusal = refusal }) =
    record { one = get_or all n d; next = slice_get-get_or all n d below; made = so_far; refused = answer } in
    subst (λ (h : HostedValue). StopsAt plan old h before after all (record { place = n; refusal = refusal })) (sym same)
    (subst (λ (s : RecorderValue). StopsAt plan old next before s all (record { place = n; refusal = refusal })) (sym same_seat) here)
