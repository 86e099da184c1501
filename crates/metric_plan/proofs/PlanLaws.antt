-- There are facts for each instrument, safe streams are of instruments whose recordings can be counted, and ranges fit
-- one after the other.
use Rattle.std.proofs.Common.{◌≡◌, ◌<◌, ◌≤◌, ℕ, suc, ◌+◌, ◌^◌, Bool, true, List, [], ◌∷◌, length, Some, slice_get, get_or, nat_lt, refl, ap, subst, ◌∙◌, arith, below_more}
use Rattle.std.specs.Prelude.{FitsSigned}
use Rattle.std.specs.Int.{w64}
use Rattle.std.proofs.lemmas.Bool.{and_from, lt-ltb}
use Rattle.std.proofs.lemmas.Option.{get_or_from_slice_get, slice_get_within}
use Rattle.metric_contents.specs.declared.contents.Contents.{Contents}
use Rattle.metric_contents.specs.declared.contents.Instrument.{Instrument}
use Rattle.metric_contents.specs.declared.contents.Recorder.{Recorder}
use Rattle.metric_views.specs.declared.config.Reader.{Reader}
use Rattle.metric_views.specs.declared.stream.Stream.{Stream}
use Rattle.metric_bounds.specs.Amounts.{total_of}
use Rattle.metric_bounds.specs.Safe.{AreSafe}
use Rattle.metric_facts.specs.declared.facts.Facts.{Facts}
use Rattle.metric_facts.specs.Facts.{facts_from}
use Rattle.metric_plan.specs.Counting.{counts_fit, is_counted}
use Rattle.metric_plan.specs.Plans.{RangesFit}

pub length-facts_from : (plan : ℕ) (certified : Bool) (flags : List Bool) (recorders : List Recorder) (readers : List Reader) (streams : List Stream) (number : ℕ) (instruments : List Instrument)
    → length (facts_from plan certified flags recorders readers streams number instruments) ≡ length instruments
length-facts_from plan certified flags recorders readers streams number [] = refl
length-facts_from plan certified flags recorders readers streams number (instrument ∷ instruments) =
    ap (λ (n : ℕ). suc n) (length-facts_from plan certified flags recorders readers streams (number + 1) instruments)

counted_from : (contents : Contents) (number : ℕ) (instruments : List Instrument)
    → ((k : ℕ) (instrument : Instrument) → slice_get instruments k ≡ Some instrument → total_of contents (number + k) < 2 ^ 64)
    → counts_fit contents number instruments ≡ true
counted_from contents number [] each = refl
counted_from contents number (instrument ∷ instruments) each =
    let here : number + 0 ≡ number = omega arith in
    let first : total_of contents number < 2 ^ 64 = subst (λ (n : ℕ). total_of contents n < 2 ^ 64) here (each 0 instrument refl) in
    and_from (nat_lt (total_of contents number) (2 ^ 64)) (counts_fit contents (number + 1) instruments) (lt-ltb (total_of contents number) (2 ^ 64) first)
    (counted_from contents (number + 1) instruments (λ k other at.
    let there : number + suc k ≡ number + 1 + k = omega arith in
    subst (λ (n : ℕ). total_of contents n < 2 ^ 64) there (each (suc k) other at)))

pub safe_is_counted : (contents : Contents) (streams : List Stream) → AreSafe contents streams → is_counted contents ≡ true
safe_is_counted contents streams safe =
    counted_from contents 0 contents.instruments (λ k instrument at.
    let here : k ≡ 0 + k = omega arith in
    subst (λ (n : ℕ). total_of contents n < 2 ^ 64) here ((safe.instruments k instrument at).counts))

-- the range of an instrument is one of 64-bit numbers
abbrev pub RangeFits : Facts → Type 0
RangeFits own = FitsSigned w64 own.lo × FitsSigned w64 own.hi

-- those of the first instruments are
abbrev pub RangesFitBelow : ℕ → List Facts → Type 0
RangesFitBelow n all = (number : ℕ) → number < n → (own : Facts) → slice_get all number ≡ Some own → RangeFits own

pub ranges_more : (all : List Facts) (n : ℕ) (item : Facts) → RangesFitBelow n all → item ≡ get_or all n item → RangeFits item → RangesFitBelow (n + 1) all
ranges_more all n item before is fits =
    below_more _ _ before (λ own at. subst RangeFits (is ∙ get_or_from_slice_get all n own item at) fits)

pub all_ranges : (all : List Facts) (n : ℕ) → length all ≤ n → RangesFitBelow n all → RangesFit all
all_ranges all n whole below number own at =
    let within : number < length all = slice_get_within all number own at in
    below number (omega arith) own at
