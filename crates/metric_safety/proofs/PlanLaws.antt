-- The facts of the run of a safe catalogue and config are safe.
use Rattle.std.proofs.Common.{◌≡◌, ℕ, ◌+◌, ◌^◌, ◌<◌, ◌≤◌, min, pos, ◌≤ℤ◌, ◌<ℤ◌, Bool, List, length, map, All, Contains, Option, Some, refl, sym, ap, subst, ◌∙◌, arith}
use Rattle.std.specs.Prelude.{sum, sum_by, slice_get, ◌==◌, ◌↔◌, IsTrue, FitsSigned}
use Rattle.std.specs.Int.{w64}
use Rattle.std.specs.Option.{option_map}
use Rattle.std.proofs.lemmas.Bool.{and_from, eq-eqb}
use Rattle.std.proofs.lemmas.List.{length-map}
use Rattle.std.proofs.lemmas.List.Elements.{All-contains, Contains-get_or}
use Rattle.std.proofs.lemmas.List.Folds.{list_any_at}
use Rattle.std.proofs.lemmas.List.Sums.{sum-map}
use Rattle.std.proofs.lemmas.Option.{slice_get_within, get_or_from_slice_get}
use Rattle.metric_combinations.specs.Restrictions.{restrictions}
use Rattle.metric_contents.specs.Budgets.{amount_of, spare_in}
use Rattle.metric_catalogue.specs.Sound.{IsSound}
use Rattle.metric_contents.specs.declared.contents.Contents.{Contents}
use Rattle.metric_contents.specs.declared.contents.Instrument.{Instrument}
use Rattle.metric_contents.specs.declared.contents.Recorder.{Recorder}
use Rattle.metric_views.specs.declared.config.Config.{Config}
use Rattle.metric_views.specs.declared.config.Reader.{Reader}
use Rattle.metric_views.specs.declared.stream.Stream.{Stream}
use Rattle.metric_resolve.specs.Laws.{IsOwn}
use Rattle.metric_resolve.specs.Resolved.{streams_of}
use Rattle.metric_bounds.specs.Amounts.{total_of, amount_with, low_with, high_with}
use Rattle.metric_bounds.specs.Safe.{AreSafe, IsSafe, SetsFit}
use Rattle.metric_bounds.specs.KeptLaws.{own_flags}
use Rattle.metric_bounds.specs.Sets.{FlagsEach, FlagsKeys, count_or, list_within, listed_of, sets_of}
use Rattle.metric_bounds.specs.Sums.{is_summed, keeps_sum, sums_instrument}
use Rattle.metric_facts.specs.declared.facts.Facts.{Facts}
use Rattle.metric_facts.specs.declared.facts.NumberedStream.{NumberedStream}
use Rattle.metric_facts.specs.Facts.{RunFacts, facts_from, facts_of, key_facts}
use Rattle.metric_facts.specs.NumberedLaws.{all_numbered}
use Rattle.metric_facts.specs.Products.{product_of}
use Rattle.metric_plan.specs.PlanFacts.{FactsAt, facts_at}
use Rattle.metric_plan.specs.Fingerprints.{fingerprint_of}
use Rattle.metric_plan.specs.Plans.{PlanValue, RangesFit, plan_of, run_facts}
use Rattle.metric_plan.specs.SetLaws.{products_are}
use Rattle.metric_safety.specs.SafeFacts.{IsSafeStream, IsSafeFacts}
use Rattle.metric_safety.specs.SafeRuns.{GivesSafePlan, IsSafePlan, IsSafeRun}

-- ---- the facts of an instrument

total_is : (recorders : List Recorder) (number : ℕ) → sum (map (λ (recorder : Recorder). amount_of recorder number) recorders) ≡ sum_by (λ recorder. amount_of recorder number) recorders
total_is recorders number = sum-map (λ recorder. amount_of recorder number) recorders

total_same : (contents : Contents) (number : ℕ) (instrument : Instrument) → slice_get contents.instruments number ≡ Some instrument
    → sum (map (λ (recorder : Recorder). amount_of recorder number) contents.recorders) + instrument.spare ≡ total_of contents number
unfolding total_of
total_same contents number instrument at =
    ap (λ (n : ℕ). n + instrument.spare) (total_is contents.recorders number)
    ∙ ap (λ (o : Option Instrument). sum_by (λ recorder. amount_of recorder number) contents.recorders + spare_in o) (sym at)

-- how many series a stream may have, as far as the facts of its instrument tell
series_are : (contents : Contents) (s : Stream) (instrument : Instrument) → slice_get contents.instruments s.instrument ≡ Some instrument
    → sets_of contents s ≡ count_or (product_of s.kept (map key_facts instrument.keys)) (option_map (restrictions s.kept) instrument.allowed)
unfolding sets_of listed_of
series_are contents s instrument at =
    ap (λ (n : ℕ). count_or n (listed_of contents s)) (products_are contents s instrument at)
    ∙ ap (λ (o : Option Instrument). count_or (product_of s.kept (map key_facts instrument.keys)) (list_within s o)) at

-- ---- safety

stream_safe : (plan : ℕ) (certified : Bool) (flags : List Bool) (contents : Contents) (readers : List Reader) (streams : List Stream) (number : ℕ) (instrument : Instrument) (s : Stream)
    → AreSafe contents streams → Contains streams s → FlagsKeys contents s → slice_get contents.instruments number ≡ Some instrument → s.instrument ≡ number
    → IsSafeStream (facts_of plan certified flags contents.recorders readers streams number instrument) s
stream_safe plan certified flags contents readers streams number instrument s safe there has at of =
    let own_at : slice_get contents.instruments s.instrument ≡ Some instrument = ap (slice_get contents.instruments) of ∙ at in
    let ranges = safe.instruments number instrument at in
    let fits : min (sets_of contents s) (total_of contents s.instrument) ≤ s.limit = All-contains (SetsFit contents) streams s safe.sets there in
    let same : total_of contents number ≡ sum (map (λ (recorder : Recorder). amount_of recorder number) contents.recorders) + instrument.spare = sym (total_same contents number instrument at) in
    record {
      flags = subst (FlagsEach s) own_at has ∙ sym (length-map instrument.keys key_facts);
      series = subst (λ (n : ℕ). n ≤ s.limit) (both (series_are contents s instrument own_at) (ap (total_of contents) of ∙ same)) fits;
      low = λ kept. subst (λ (n : ℕ). FitsSigned w64 (low_with n instrument.lo)) same (ranges.low (summed kept));
      high = λ kept. subst (λ (n : ℕ). FitsSigned w64 (high_with n instrument.hi)) same (ranges.high (summed kept));
    }
  where
    both : {a b c d : ℕ} → a ≡ b → c ≡ d → min a c ≡ min b d
    both {a} {b} {c} {d} p q = ap (λ (n : ℕ). min n c) p ∙ ap (min b) q

    summed : IsTrue (keeps_sum s) → IsTrue (is_summed streams number)
    summed kept =
        list_any_at (sums_instrument number) streams there.0 s there.1
        (ap (sums_instrument number) there.2 ∙ and_from (s.instrument == number) (keeps_sum s) (eq-eqb s.instrument number of) kept)

facts_safe : (plan : ℕ) (certified : Bool) (flags : List Bool) (contents : Contents) (readers : List Reader) (streams : List Stream) (number : ℕ) (instrument : Instrument)
    → AreSafe contents streams → ((s : Stream) → Contains streams s → FlagsKeys contents s) → slice_get contents.instruments number ≡ Some instrument
    → instrument.lo ≤ℤ instrument.hi → IsSafeFacts (facts_of plan certified flags contents.recorders readers streams number instrument)
facts_safe plan certified flags contents readers streams number instrument safe has at ordered =
    let ranges = safe.instruments number instrument at in
    let same : total_of contents number ≡ sum (map (λ (recorder : Recorder). amount_of recorder number) contents.recorders) + instrument.spare = sym (total_same contents number instrument at) in
    record {
      ordered = ordered;
      counts = subst (λ (n : ℕ). n < 2 ^ 64) same ranges.counts;
      amounts = subst (λ (n : ℕ). amount_with n instrument.lo instrument.hi <ℤ pos (2 ^ 64)) same ranges.amounts;
      streams = all_numbered (λ (n : NumberedStream). IsSafeStream (facts_of plan certified flags contents.recorders readers streams number instrument) n.stream) flags number 0 streams
          (λ k s found of.
          let there : Contains streams s = subst (Contains streams) (get_or_from_slice_get streams k s s found) (Contains-get_or streams k s (slice_get_within streams k s found)) in
          stream_safe plan certified flags contents readers streams number instrument s safe there (has s there) at of);
    }

in_order : (contents : Contents) (number : ℕ) (instrument : Instrument) → IsSound contents → slice_get contents.instruments number ≡ Some instrument → instrument.lo ≤ℤ instrument.hi
in_order contents number instrument sound at =
    let here = sound.instruments.each number instrument (slice_get_within contents.instruments number instrument at) in
    subst (λ (i : Instrument). i.lo ≤ℤ i.hi) (get_or_from_slice_get contents.instruments number instrument instrument at) here.ordered

few_keys : (contents : Contents) (number : ℕ) (instrument : Instrument) → IsSound contents → slice_get contents.instruments number ≡ Some instrument → length instrument.keys ≤ 8
few_keys contents number instrument sound at =
    let here = sound.instruments.each number instrument (slice_get_within contents.instruments number instrument at) in
    subst (λ (i : Instrument). length i.keys ≤ 8) (get_or_from_slice_get contents.instruments number instrument instrument at) here.keys.few

one_instrument : (a b : Instrument) (o : Option Instrument) → o ≡ Some a → o ≡ Some b → a ≡ b
one_instrument a b o p q = cc

-- the facts of a safe catalogue and config
safe_run : ((contents : Contents) (config : Config) (s : Stream) → Contains (streams_of contents config) s ↔ IsOwn contents config s)
    → (contents : Contents) (config : Config) (certified : Bool) (by_product : List Bool) → IsSound contents → IsSafe contents config
    → RangesFit (plan_of certified by_product contents config).facts.instruments → IsSafeRun (streams_of contents config) (plan_of certified by_product contents config).facts
safe_run exact contents config certified by_product sound safe ranges = record {
  safe = λ number own e.
      let here = at number own e in
      subst IsSafeFacts (sym here.is) (facts_safe (fingerprint_of contents config) certified by_product contents config.readers (streams_of contents config) number here.instrument safe flags here.at (in_order contents number here.instrument sound here.at));
  keys = λ number own instrument e f.
      let here = at number own e in
      ap (λ (x : Facts). x.keys) here.is ∙ ap (λ (x : Instrument). map key_facts x.keys) (one_instrument here.instrument instrument (slice_get contents.instruments number) here.at f);
  allowed = λ number own instrument e f.
      let here = at number own e in
      ap (λ (x : Facts). x.allowed) here.is ∙ ap (λ (x : Instrument). x.allowed) (one_instrument here.instrument instrument (slice_get contents.instruments number) here.at f);
  few_keys = λ number own e.
      let here = at number own e in
      let long : length own.keys ≡ length here.instrument.keys = ap (λ (x : Facts). length x.keys) here.is ∙ length-map here.instrument.keys key_facts in
      omega (arith, long, few_keys contents number here.instrument sound here.at);
  numbers = λ number own e.
      let here = at number own e in
      subst (λ (x : Facts). All (λ (n : NumberedStream). slice_get (streams_of contents config) n.number ≡ Some n.stream) x.streams) (sym here.is)
      (all_numbered (λ (n : NumberedStream). slice_get (streams_of contents config) n.number ≡ Some n.stream) by_product number 0 (streams_of contents config)
      (λ k s f of. ap (slice_get (streams_of contents config)) (none_before k) ∙ f));
  distinct = safe.identities;
  ranges = ranges;
}
  where
    none_before : (k : ℕ) → 0 + k ≡ k
    none_before k = omega arith

    flags : (s : Stream) → Contains (streams_of contents config) s → FlagsKeys contents s
    flags s there = own_flags contents config s ((exact contents config s).0 there)

    at : (number : ℕ) (own : Facts) → slice_get (facts_from (fingerprint_of contents config) certified by_product contents.recorders config.readers (streams_of contents config) 0 contents.instruments) number ≡ Some own
        → FactsAt (fingerprint_of contents config) certified by_product contents.recorders config.readers (streams_of contents config) number contents.instruments number own
    at number own e = facts_at (fingerprint_of contents config) certified by_product contents.recorders config.readers (streams_of contents config) 0 number contents.instruments number own (none_before number) e

-- the facts of a safe plan
pub plan_runs : ((contents : Contents) (config : Config) (s : Stream) → Contains (streams_of contents config) s ↔ IsOwn contents config s)
    → (plan : PlanValue) → IsSafePlan plan → IsSafeRun plan.streams plan.facts
plan_runs exact plan own =
    subst (IsSafeRun plan.streams) (sym own.facts)
    (subst (λ (streams : List Stream). IsSafeRun streams (run_facts plan.is_certified plan.by_product plan.facts.contents plan.config streams)) (sym own.streams)
    (safe_run exact plan.facts.contents plan.config plan.is_certified plan.by_product own.sound (subst (AreSafe plan.facts.contents) own.streams own.safe) ranges))
  where
    ranges : RangesFit (plan_of plan.is_certified plan.by_product plan.facts.contents plan.config).facts.instruments
    ranges =
        subst (λ (streams : List Stream). RangesFit (run_facts plan.is_certified plan.by_product plan.facts.contents plan.config streams).instruments) own.streams
        (subst (λ (run : RunFacts). RangesFit run.instruments) own.facts own.ranges)

pub plan_of_safe : (is_certified : Bool) (by_product : List Bool) (contents : Contents) (config : Config) → GivesSafePlan is_certified by_product contents config
plan_of_safe is_certified by_product contents config sound safe ranges = record { sound = sound; streams = refl; facts = refl; safe = safe; ranges = ranges }
