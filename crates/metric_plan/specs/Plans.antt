-- What a plan is.
use Rattle.std.specs.Prelude.{◌≡◌, ℕ, ◌≤◌, Bool, true, IsTrue, List, Some, length, slice_get}
use Rattle.std.specs.Prelude.{FitsSigned}
use Rattle.std.specs.Int.{w64}
use Rattle.metric_bounds.specs.Safe.{AreSafe}
use Rattle.metric_bounds.specs.Sets.{product_of}
use Rattle.metric_contents.specs.declared.contents.Contents.{Contents}
use Rattle.metric_views.specs.declared.config.Config.{Config}
use Rattle.metric_views.specs.declared.stream.Stream.{Stream}
use Rattle.metric_resolve.specs.Resolved.{streams_of}
use Rattle.metric_facts.specs.declared.facts.Facts.{Facts}
use Rattle.metric_facts.specs.Facts.{RunFacts, facts_from, is_by_product}
use Rattle.metric_plan.specs.Counting.{is_counted}
use Rattle.metric_plan.specs.Fingerprints.{fingerprint_of}

-- whether it is certified, a flag for each stream that says whether it is by product, the config,
-- the streams, and the facts of the instruments with their catalogue
pub record PlanValue : Type 0 where
  pub is_certified : Bool
  pub by_product : List Bool
  pub config : Config
  pub streams : List Stream
  pub facts : RunFacts

-- the facts of the instruments of a catalogue, for the readers of a config and all streams
abbrev pub run_facts : Bool → List Bool → Contents → Config → List Stream → RunFacts
run_facts is_certified by_product contents config streams = record {
  contents = contents;
  instruments =
      facts_from (fingerprint_of contents config) is_certified by_product contents.recorders
      config.readers streams 0 contents.instruments;
}

-- What plans are told apart by: plans of the same contents have the same fingerprint.
abbrev pub print_of : PlanValue → ℕ
print_of plan = fingerprint_of plan.facts.contents plan.config

-- # plan (profile)
-- A catalogue with a config, the streams that they give, and the facts of each instrument.
abbrev pub plan_of : Bool → List Bool → Contents → Config → PlanValue
plan_of is_certified by_product contents config = record {
  is_certified = is_certified;
  by_product = by_product;
  config = config;
  streams = streams_of contents config;
  facts = run_facts is_certified by_product contents config (streams_of contents config);
}

-- the ranges of the instruments are of 64-bit numbers
abbrev pub RangesFit : List Facts → Type 0
RangesFit all =
    (number : ℕ) (own : Facts) → slice_get all number ≡ Some own
    → FitsSigned w64 own.lo × FitsSigned w64 own.hi

-- The product over the keys that a stream keeps is within its limit,
-- where the stream is by product.
abbrev pub ProductsFit : Contents → List Bool → List Stream → Type 0
ProductsFit contents by_product streams =
    (number : ℕ) (s : Stream) → slice_get streams number ≡ Some s
    → IsTrue (is_by_product by_product number) → product_of contents s ≤ s.limit

-- No stream is by product unless the plan is certified.
abbrev pub AreVouched : Bool → List Bool → Type 0
AreVouched is_certified by_product =
    (number : ℕ) → IsTrue (is_by_product by_product number) → IsTrue is_certified

-- # what each plan keeps (profile)
-- The streams are the definition's, the facts theirs, each total is a u64; a certified plan is
-- safe, and its streams by product are within their limits whatever is recorded.
pub record IsPlan (plan : PlanValue) : Type 0 where
  pub one_each : length plan.facts.instruments ≡ length plan.facts.contents.instruments
  pub streams : plan.streams ≡ streams_of plan.facts.contents plan.config
  pub facts : plan.facts
      ≡ run_facts plan.is_certified plan.by_product plan.facts.contents plan.config plan.streams
  pub counted : is_counted plan.facts.contents ≡ true
  pub ranges : RangesFit plan.facts.instruments
  pub safe : IsTrue plan.is_certified → AreSafe plan.facts.contents plan.streams
  pub products : ProductsFit plan.facts.contents plan.by_product plan.streams
  pub vouched : AreVouched plan.is_certified plan.by_product

-- A plan and its fingerprint, as it is kept beside the plan.
pub record IsPrinted (plan : PlanValue) (print : ℕ) : Type 0 where
  pub is_plan : IsPlan plan
  pub is_print : print ≡ print_of plan
