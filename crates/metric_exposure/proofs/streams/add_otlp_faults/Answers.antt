-- one stream more
use Rattle.std.proofs.Common.{◌≡◌, ℕ, ◌<◌, List, ◌++◌, length, sym, ap, ◌∙◌, arith}
use Rattle.std.specs.List.{flat_map, range_with_len}
use Rattle.metric_exposure.specs.declared.fault.ExposureFault.{ExposureFault}
use Rattle.metric_exposure.specs.declared.outlet.Outlet.TheVariants.{Otlp}
use Rattle.metric_exposure.specs.Exposures.{exposure_faults, faults_at}
use Rattle.metric_exposure.proofs.Firsts.{faults_is}
use Rattle.metric_exposure.proofs.Turns.{turn}
use Rattle.metric_exposure.proofs.streams.add_otlp_faults.Goals as goal

pub loop-number-preserved : goal.loop-number-preserved
loop-number-preserved c =
    let contents = c.args.catalogue.now in
    let streams = c.args.streams.now in
    let reader = c.args.reader in
    let n = c.loop-number.number in
    let now = c.loop-number.faults.items in
    let within : n < length streams = omega arith in
    turn (faults_at Otlp contents streams reader) n c.args.faults.now.items now c.add_otlp_fault.new.faults.items c.loop-number.invariant
    (c.in_ok-add_otlp_fault.ensures
    ∙ ap (λ (fs : List ExposureFault). now ++ fs) (sym (faults_is Otlp contents streams reader n c.index-streams-number.result within c.index-streams-number.is)))

pub returns : goal.returns
unfolding exposure_faults
returns c =
    let contents = c.args.catalogue.now in
    let streams = c.args.streams.now in
    let all : c.loop-number.number ≡ length streams = omega arith in
    c.loop-number.invariant ∙ ap (λ (n : ℕ). c.args.faults.now.items ++ flat_map (faults_at Otlp contents streams c.args.reader) (range_with_len 0 n)) all
