-- The check of a certificate has one answer only.
use Rattle.std.proofs.Common.{◌≡◌, ℕ, ◌+◌, IsTrue, List, [], ◌∷◌, Option, Some, None, slice_get, refl, ap, sym, ◌∙◌}
use Rattle.metric_contents.specs.declared.contents.Contents.{Contents}
use Rattle.metric_contents.specs.declared.contents.Instrument.{Instrument}
use Rattle.metric_contents.specs.declared.contents.Meter.{Meter}
use Rattle.metric_views.specs.declared.config.Config.{Config}
use Rattle.metric_views.specs.declared.config.Criteria.{Criteria}
use Rattle.metric_views.specs.declared.config.View.{View}
use Rattle.metric_views.specs.declared.stream.Stream.{Stream}
use Rattle.metric_glob.specs.declared.reason.Reason.TheVariants.{Takes, Rows}
use Rattle.metric_resolve.specs.Applying.{all_instruments, meter_at}
use Rattle.metric_resolve.specs.Resolved.{streams_of}
use Rattle.metric_bounds.specs.Amounts.{total_of}
use Rattle.metric_bounds.specs.FirstLaws.{IsSingle, Asks-IsSingle, Then-IsSingle}
use Rattle.metric_bounds.specs.Sums.{is_summed}
use Rattle.metric_cert.specs.declared.bound.InstrumentBound.{InstrumentBound}
use Rattle.metric_cert.specs.declared.claims.Claims.{Claims}
use Rattle.metric_cert.specs.declared.reason.Evidence.{Evidence}
use Rattle.metric_cert.specs.declared.reason.Evidence.TheVariants.{Name, Miss}
use Rattle.metric_cert.specs.declared.reason.SelectionReason.{SelectionReason}
use Rattle.metric_cert.specs.Valid.{all_pairs}
use Rattle.metric_plan.specs.declared.fault.CheckFault.TheVariants.{PairMissing, BadSets, CountRange, StreamMissing, StreamStrange}
use Rattle.metric_check.specs.Checked.{FindsOne}
use Rattle.metric_check.specs.Findings.{BoundFinds, BoundsFind, CheckFinds, EntriesFind, EntryFinds, EvidenceFinds, EvidenceFindsAt, LimitFinds, NumbersFind, NumbersFindAt, OrdersFind, ReasonFinds, ReasonsFind, SetsFind, StreamsFind, of_bound, of_reason, of_stream}
use Rattle.metric_check.specs.Paired.{EachPaired, Told}

-- one answer is equal to itself alone
equal_single : {F : Type 0} (value : Option F) → IsSingle (λ found. found ≡ value)
equal_single None = record { alone = λ f p q. absurd cc; same = λ f g p q. absurd cc }
equal_single (Some x) = record { alone = λ f p q. absurd cc; same = λ f g p q. cc }

Told-IsSingle : {F G : Type 0} (told : F → G) (Finds : Option F → Type 0) → IsSingle Finds → IsSingle (Told told Finds)
Told-IsSingle {F} {G} told Finds single = record {
  alone = λ g p q. single.alone q.fault p q.found;
  same = λ g h p q. p.is ∙ ap (λ (f : F). told f) (single.same p.fault q.fault p.found q.found) ∙ sym q.is;
}

EachPaired-IsSingle : {X Y F G : Type 0} (told : ℕ → F → G) (Finds : X → Y → Option F → Type 0) → ((x : X) (y : Y) → IsSingle (Finds x y)) → (missing more : F) (n : ℕ) (xs : List X) (ys : List Y)
    → IsSingle (EachPaired told Finds missing more n xs ys)
EachPaired-IsSingle told Finds single missing more n [] [] = equal_single None
EachPaired-IsSingle told Finds single missing more n [] (y ∷ ys) = equal_single (Some (told n more))
EachPaired-IsSingle told Finds single missing more n (x ∷ xs) [] = equal_single (Some (told n missing))
EachPaired-IsSingle told Finds single missing more n (x ∷ xs) (y ∷ ys) =
    Then-IsSingle (Told (told n) (Finds x y)) (EachPaired told Finds missing more (n + 1) xs ys) (Told-IsSingle (told n) (Finds x y) (single x y))
    (EachPaired-IsSingle told Finds single missing more (n + 1) xs ys)

EvidenceFinds-IsSingle : (evidence : Evidence) (criteria : Criteria) (meter : Meter) (instrument : Instrument) → IsSingle (EvidenceFinds evidence criteria meter instrument)
EvidenceFinds-IsSingle (Name (Takes takes)) criteria meter instrument = Then-IsSingle _ _ (Asks-IsSingle _ _) (Asks-IsSingle _ _)
EvidenceFinds-IsSingle (Name (Rows rows)) criteria meter instrument = Asks-IsSingle _ _
EvidenceFinds-IsSingle (Miss criterion) criteria meter instrument = Asks-IsSingle _ _

EvidenceFindsAt-IsSingle : (evidence : Evidence) (view : Option View) (meter : Option Meter) (instrument : Option Instrument) → IsSingle (EvidenceFindsAt evidence view meter instrument)
EvidenceFindsAt-IsSingle evidence (Some view) (Some meter) (Some instrument) = EvidenceFinds-IsSingle evidence view.criteria meter instrument
EvidenceFindsAt-IsSingle evidence (Some view) (Some meter) None = Asks-IsSingle ⊥ PairMissing
EvidenceFindsAt-IsSingle evidence (Some view) None instrument = Asks-IsSingle ⊥ PairMissing
EvidenceFindsAt-IsSingle evidence None meter instrument = Asks-IsSingle ⊥ PairMissing

ReasonsFind-IsSingle : (contents : Contents) (config : Config) (reasons : List SelectionReason) → IsSingle (ReasonsFind contents config reasons)
ReasonsFind-IsSingle contents config reasons =
    EachPaired-IsSingle of_reason (ReasonFinds contents config)
    (λ pair reason. Then-IsSingle _ _ (Asks-IsSingle _ _)
    (EvidenceFindsAt-IsSingle reason.evidence (slice_get config.views reason.view) (meter_at contents reason.instrument) (slice_get contents.instruments reason.instrument)))
    PairMissing PairMissing 0 (all_pairs contents config) reasons

NumbersFind-IsSingle : (number total : ℕ) (instrument : Instrument) (Summed : Type 0) (bound : InstrumentBound) → IsSingle (NumbersFind number total instrument Summed bound)
NumbersFind-IsSingle number total instrument Summed bound =
    Then-IsSingle _ _ (Asks-IsSingle _ _) (Then-IsSingle _ _ (Asks-IsSingle _ _) (Then-IsSingle _ _ (Asks-IsSingle _ _) (Asks-IsSingle _ _)))

BoundFinds-IsSingle : (contents : Contents) (streams : List Stream) (number : ℕ) (instrument : Option Instrument) (bound : InstrumentBound)
    → IsSingle (NumbersFindAt contents streams number instrument bound)
BoundFinds-IsSingle contents streams number (Some instrument) bound =
    NumbersFind-IsSingle number (total_of contents number) instrument (IsTrue (is_summed streams number)) bound
BoundFinds-IsSingle contents streams number None bound = Asks-IsSingle ⊥ CountRange

StreamsFind-IsSingle : (contents : Contents) (config : Config) (certificate : Claims) (streams : List Stream) → IsSingle (StreamsFind contents config certificate streams)
StreamsFind-IsSingle contents config certificate streams =
    Then-IsSingle (EntriesFind streams certificate.streams) _
    (EachPaired-IsSingle of_stream EntryFinds (λ stream entry. Then-IsSingle _ _ (Asks-IsSingle _ _) (Asks-IsSingle _ _)) StreamMissing StreamStrange 0 streams certificate.streams)
    (Then-IsSingle (OrdersFind contents config streams certificate.orders) _ (Asks-IsSingle _ _)
    (Then-IsSingle (BoundsFind contents streams certificate.bounds) (SetsFind contents streams certificate.streams)
    (EachPaired-IsSingle of_bound (BoundFinds contents streams)
    (λ number bound. BoundFinds-IsSingle contents streams number (slice_get contents.instruments number) bound) CountRange CountRange 0 (all_instruments contents) certificate.bounds)
    (EachPaired-IsSingle of_stream (LimitFinds contents) (λ stream entry. Then-IsSingle _ _ (Asks-IsSingle _ _) (Asks-IsSingle _ _)) BadSets BadSets 0 streams certificate.streams)))

pub CheckFinds-IsSingle : (contents : Contents) (config : Config) (certificate : Claims) → IsSingle (CheckFinds contents config certificate)
CheckFinds-IsSingle contents config certificate =
    Then-IsSingle (ReasonsFind contents config certificate.reasons) (StreamsFind contents config certificate (streams_of contents config))
    (ReasonsFind-IsSingle contents config certificate.reasons) (StreamsFind-IsSingle contents config certificate (streams_of contents config))

one_answer : {F : Type 0} (Finds : Option F → Type 0) → IsSingle Finds → (found other : Option F) → Finds found → Finds other → found ≡ other
one_answer Finds single None None p q = refl
one_answer Finds single None (Some g) p q = absurd (single.alone g p q)
one_answer Finds single (Some f) None p q = absurd (single.alone f q p)
one_answer Finds single (Some f) (Some g) p q = let same : f ≡ g = single.same f g p q in cc

pub finds_one : FindsOne
finds_one contents config certificate found other p q =
    one_answer (CheckFinds contents config certificate) (CheckFinds-IsSingle contents config certificate) found other p q
