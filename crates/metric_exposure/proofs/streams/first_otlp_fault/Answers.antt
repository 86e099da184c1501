-- the first stream that has a fault
use Rattle.std.proofs.Common.{◌≡◌, ℕ, ◌<◌, ◌==◌, [], length, sym, ap, ◌∙◌, arith}
use Rattle.std.specs.List.{flat_map, list_any, range_with_len}
use Rattle.metric_exposure.specs.declared.fault.ExposureFault.TheVariants.{Boundary}
use Rattle.metric_exposure.specs.declared.outlet.Outlet.TheVariants.{Otlp}
use Rattle.metric_exposure.specs.Exposures.{exposure_faults, faults_at, first_of, is_inexact}
use Rattle.metric_exposure.specs.Sources.{boundaries_of}
use Rattle.metric_exposure.proofs.FirstFault.{fault_absent, fault_there, first_found}
use Rattle.metric_exposure.proofs.Firsts.{faults_is}
use Rattle.metric_exposure.proofs.Turns.{still}
use Rattle.metric_exposure.proofs.streams.first_otlp_fault.Goals as goal

pub returns-then-is_inexact_for : goal.returns-then-is_inexact_for
unfolding exposure_faults
returns-then-is_inexact_for c =
    let contents = c.args.catalogue.now in
    let streams = c.args.streams.now in
    let reader = c.args.reader in
    let n = c.loop-number.number in
    let stream = c.index-streams-number.result in
    let within : n < length streams = omega arith in
    let at =
    faults_is Otlp contents streams reader n stream within c.index-streams-number.is
    ∙ fault_there (stream.reader == reader) (list_any is_inexact (boundaries_of stream.aggregation)) (Boundary n) (sym c.is_inexact_for.ensures ∙ c.if-is_inexact_for.true) in
    sym (first_found (faults_at Otlp contents streams reader) (length streams) n (Boundary n) c.loop-number.invariant within at)

pub loop-number-preserved : goal.loop-number-preserved
loop-number-preserved c =
    let contents = c.args.catalogue.now in
    let streams = c.args.streams.now in
    let reader = c.args.reader in
    let n = c.loop-number.number in
    let stream = c.index-streams-number.result in
    let within : n < length streams = omega arith in
    let none =
    faults_is Otlp contents streams reader n stream within c.index-streams-number.is
    ∙ fault_absent (stream.reader == reader) (list_any is_inexact (boundaries_of stream.aggregation)) (Boundary n) (sym c.is_inexact_for.ensures ∙ c.if-is_inexact_for.false) in
    sym (still (faults_at Otlp contents streams reader) n [] [] (sym c.loop-number.invariant) none)

pub returns : goal.returns
unfolding exposure_faults
returns c =
    let streams = c.args.streams.now in
    let f = faults_at Otlp c.args.catalogue.now streams c.args.reader in
    let all : length streams ≡ c.loop-number.number = omega arith in
    sym (ap first_of (ap (λ (n : ℕ). flat_map f (range_with_len 0 n)) all ∙ c.loop-number.invariant))
