-- A recording of a set key is the one with the attributes that its entries name.
use Rattle.std.proofs.Common.{◌≡◌, ◌∙◌, ◌∷◌, ◌++◌, ◌+◌, ◌-◌, ◌≤◌, ◌&&◌, ℕ, Bool, true, false, List, [], Option, Some, None, Ok, Result, ap, arith, length, map, refl, sym, true≢false}
use Rattle.std.specs.Prelude.{replicate, slice_get}
use Rattle.std.proofs.lemmas.List.{length-append, length-replicate}
use Rattle.std.proofs.lemmas.Option.{same_Some}
use Rattle.metric_base.specs.Steps.{◌>>=◌, require, require_some}
use Rattle.metric_combinations.specs.Combinations.{permits}
use Rattle.metric_contents.specs.declared.contents.Instrument.{Instrument}
use Rattle.metric_contents.specs.declared.contents.Key.{Key}
use Rattle.metric_contents.specs.declared.refusal.Refusal.{Refusal}
use Rattle.metric_contents.specs.declared.refusal.Refusal.TheVariants.{Combination, Stranger, UnknownInstrument, UnknownValue, ValueRange}
use Rattle.metric_contents.specs.Encoding.{Given, encode_of, permitted}
use Rattle.metric_contents.specs.KeySets.{is_key_entry, is_key_set}
use Rattle.metric_facts.specs.declared.facts.Facts.{Facts}
use Rattle.metric_facts.specs.declared.facts.KeyFacts.{KeyFacts}
use Rattle.metric_facts.specs.Facts.{in_bounds, is_full_set, key_facts}
use Rattle.metric_hosted.specs.Hosts.{number_of, run_of}
use Rattle.metric_plan.specs.PlanFacts.{plan_facts_at}
use Rattle.metric_seat.specs.KeyRecordings.{key_of}
use Rattle.metric_seat.specs.Seats.{is_recorder_of}
use Rattle.wormweekly_c.specs.Expected.{CallsAreTheirTexts}
use Rattle.wormweekly_c.specs.Ranks.{KeysAreTheirTexts, named_by}
use Rattle.wormweekly_c.specs.Recordings.{admission}
use Rattle.wormweekly_c.proofs.Expected.{expected_ranks_name}
use Rattle.wormweekly_c.proofs.NamedSets.{few_keys, ranks_name_sets}

full_by_facts : (keys : List Key) (set : List ℕ) → is_full_set (map key_facts keys) set ≡ is_key_set keys set
full_by_facts [] set = refl
full_by_facts (key ∷ keys) [] = refl
full_by_facts (key ∷ keys) (entry ∷ set) = ap (λ (b : Bool). is_key_entry key entry && b) (full_by_facts keys set)

-- what refuses a set key that is full, in either way
tried : (is_allowed is_full is_within : Bool) (set : List ℕ) → is_full ≡ true
    → ((require is_allowed Combination >>= λ _. Ok set) >>= λ (own : List ℕ). require is_within ValueRange >>= λ _. Ok own)
    ≡ (require is_full UnknownValue >>= λ _. require is_allowed Combination >>= λ _. require is_within ValueRange >>= λ _. Ok set)
tried true true true set e = refl
tried true true false set e = refl
tried false true is_within set e = refl
tried is_allowed false is_within set e = absurd (true≢false (sym e))

pub keys_are_their_texts : KeysAreTheirTexts
keys_are_their_texts own h instrument set value is_plan sound at long full =
    ap (λ (declared : Result (List ℕ) Refusal). require (is_recorder_of (run_of own.plan h) own.seat) Stranger >>= λ _. declared)
    (by (slice_get own.plan.facts.instruments (number_of h)) refl)
  where
    attributes : List Given
    attributes = named_by instrument.keys set

    encoded : encode_of own.plan.facts.contents.instruments (number_of h) attributes ≡ permitted instrument.allowed set
    encoded = (ranks_name_sets own.plan.facts.contents (number_of h) instrument set sound at long full).encoded

    by : (found : Option Facts) → slice_get own.plan.facts.instruments (number_of h) ≡ found
        → (require_some found UnknownInstrument >>= λ facts. encode_of own.plan.facts.contents.instruments (number_of h) attributes >>= λ own_set. require (in_bounds facts value) ValueRange >>= λ _. Ok own_set)
        ≡ (require_some found UnknownInstrument >>= λ facts. key_of facts set value)
    by None e = refl
    by (Some facts) e =
        let here = plan_facts_at own.plan (number_of h) facts is_plan e in
        let same : here.instrument ≡ instrument = same_Some here.instrument instrument (sym here.at ∙ at) in
        let keys : facts.keys ≡ map key_facts instrument.keys = ap (λ (f : Facts). f.keys) here.is ∙ ap (λ (i : Instrument). map key_facts i.keys) same in
        let allowed : facts.allowed ≡ instrument.allowed = ap (λ (f : Facts). f.allowed) here.is ∙ ap (λ (i : Instrument). i.allowed) same in
        let whole : is_full_set facts.keys set ≡ true = ap (λ (all : List KeyFacts). is_full_set all set) keys ∙ full_by_facts instrument.keys set ∙ full in
        ap (λ (one : Result (List ℕ) Refusal). one >>= λ own_set. require (in_bounds facts value) ValueRange >>= λ _. Ok own_set) encoded
        ∙ ap (λ rows. (require (permits rows set) Combination >>= λ _. Ok set) >>= λ own_set. require (in_bounds facts value) ValueRange >>= λ _. Ok own_set) (sym allowed)
        ∙ tried (permits facts.allowed set) (is_full_set facts.keys set) (in_bounds facts value) set whole

-- the ranks of a program that was made for the instrument are such a set key
pub calls_are_their_texts : CallsAreTheirTexts
calls_are_their_texts own h shape ranks value is_plan sound means are few =
    let further = 8 - length ranks in
    let contents = own.plan.facts.contents in
    let keys : length means.own.keys ≤ 8 = few_keys contents (number_of h) means.own sound means.is in
    let named = expected_ranks_name shape.optional shape.keys means.own.keys ranks further means.keys are (omega (arith, keys, few)) in
    let long : length (ranks ++ replicate further 0) ≡ 8 = length-append ranks (replicate further 0) ∙ ap (λ (n : ℕ). length ranks + n) (length-replicate further 0) ∙ omega (arith, few) in
    ap (λ (given : List Given). admission h own given value) (sym named.named)
    ∙ keys_are_their_texts own h means.own (ranks ++ replicate further 0) value is_plan sound means.is long named.full
