-- The streams of a plan that are by product have room for each series that they can have.
use Rattle.std.proofs.Common.{◌≡◌, ℕ, zero, suc, ◌+◌, ◌*◌, ◌<◌, ◌≤◌, Bool, true, false, All, List}
use Rattle.std.proofs.Common.{[], ◌∷◌, length, get_or, map, Some, IsTrue, sym, ap, subst, ◌∙◌}
use Rattle.std.proofs.Common.{arith}
use Rattle.std.specs.Prelude.{slice_get}
use Rattle.std.proofs.lemmas.List.Elements.{All-head, All-tail, All-get_or}
use Rattle.std.proofs.lemmas.List.{length-map}
use Rattle.std.proofs.lemmas.Option.{get_or_from_slice_get, slice_get_within}
use Rattle.metric_catalogue.specs.Sound.{IsSound, IsSoundInstrument, IsSoundKey}
use Rattle.metric_contents.specs.declared.contents.Key.{Key}
use Rattle.metric_views.specs.declared.stream.Stream.{Stream}
use Rattle.metric_bounds.specs.KeptLaws.{flags_at}
use Rattle.metric_facts.specs.declared.facts.Facts.{Facts}
use Rattle.metric_facts.specs.declared.facts.NumberedStream.{NumberedStream}
use Rattle.metric_facts.specs.Facts.{is_by_product, key_facts}
use Rattle.metric_facts.specs.NumberedLaws.{all_numbered}
use Rattle.metric_facts.specs.Products.{AreDense, IsDense, product_of, radix}
use Rattle.metric_plan.specs.PlanFacts.{plan_facts_at}
use Rattle.metric_plan.specs.Plans.{IsPlan, PlanValue}
use Rattle.metric_plan.specs.SetLaws.{products_are}

some_product : (a w : ℕ) → 1 ≤ a → zero < w → zero < a * w
some_product zero w first some = absurd (omega arith)
some_product (suc a) w first some = omega (arith, some)

some_choice : (flag : Bool) (key : Key) → IsSoundKey key → 1 ≤ radix flag (key_facts key)
some_choice true key sound = omega (arith, sound.some)
some_choice false key sound = omega arith

-- some series can come of keys that declare some value each
some_series : (kept : List Bool) (keys : List Key) → All IsSoundKey keys
    → zero < product_of kept (map key_facts keys)
some_series [] keys sound = omega arith
some_series (flag ∷ kept) [] sound = omega arith
some_series (flag ∷ kept) (key ∷ keys) sound =
    some_product (radix flag (key_facts key)) (product_of kept (map key_facts keys))
    (some_choice flag key (All-head IsSoundKey key keys sound))
    (some_series kept keys (All-tail IsSoundKey key keys sound))

-- those of a plan
pub plan_dense : (plan : PlanValue) (number : ℕ) (own : Facts) → IsPlan plan
    → IsSound plan.facts.contents → slice_get plan.facts.instruments number ≡ Some own
    → AreDense own
plan_dense plan number own p sound found =
    let contents = plan.facts.contents in
    let flags = plan.by_product in
    let here = plan_facts_at plan number own p found in
    let keys = map key_facts here.instrument.keys in
    let same : get_or contents.instruments number here.instrument ≡ here.instrument =
    get_or_from_slice_get contents.instruments number here.instrument here.instrument here.at in
    let known : IsSoundInstrument (length contents.meters) here.instrument =
    subst (IsSoundInstrument (length contents.meters)) same
    (All-get_or (IsSoundInstrument (length contents.meters)) contents.instruments number
    here.instrument (slice_get_within contents.instruments number here.instrument here.at)
    sound.instruments.each) in
    subst AreDense (sym here.is)
    (all_numbered (λ (n : NumberedStream). IsTrue n.by_product → IsDense keys n.stream) flags number
    0 plan.streams (λ k s at of flagged.
    let place : 0 + k ≡ k = omega arith in
    let instrument_at = ap (slice_get contents.instruments) of ∙ here.at in
    record {
      few =
          subst (λ (n : ℕ). n ≤ 8) (sym (length-map here.instrument.keys key_facts)) known.keys.few;
      flags =
          flags_at contents plan.config k s here.instrument
          (ap (λ (ss : List Stream). slice_get ss k) (sym p.streams) ∙ at) instrument_at
          ∙ sym (length-map here.instrument.keys key_facts);
      some = some_series s.kept here.instrument.keys known.keys.each;
      room =
          subst (λ (n : ℕ). n ≤ s.limit) (products_are contents s here.instrument instrument_at)
          (p.products k s at (subst (λ (n : ℕ). IsTrue (is_by_product flags n)) place flagged));
    }))
