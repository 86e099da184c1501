-- one stream more
use Rattle.std.proofs.Common.{◌≡◌, ℕ, ◌+◌, ◌<◌, ◌==◌, cond, List, [], ◌++◌, Option, Some, None, length, take, sym, ap, ◌∙◌, arith, rules}
use Rattle.std.specs.BTreeMap.{get_by_text}
use Rattle.std.specs.List.{flat_map, range_with_len}
use Rattle.std.proofs.lemmas.List.{append-nil}
use Rattle.metric_contents.specs.PlaceLaws.{or_else}
use Rattle.metric_exposure.specs.declared.fault.ExposureFault.{ExposureFault}
use Rattle.metric_exposure.specs.declared.outlet.Outlet.TheVariants.{Prometheus}
use Rattle.metric_exposure.specs.Collisions.{first_claim, is_claimed}
use Rattle.metric_exposure.specs.Exposures.{exposure_faults, faults_at, page_faults}
use Rattle.metric_exposure.specs.Sharing.{first_scoped, is_scoped}
use Rattle.metric_exposure.proofs.Firsts.{faults_is, first_claim-more, first_scoped-more}
use Rattle.metric_exposure.proofs.Turns.{turn}
use Rattle.metric_exposure.proofs.streams.add_page_faults.Goals as goal

pub loop-number-init : goal.loop-number-init
unfolding first_claim first_scoped
loop-number-init c = record { names = λ name. search rules; scopes = λ name. search rules; faults = sym (append-nil c.args.faults.now.items) }

pub loop-number-preserved : goal.loop-number-preserved
loop-number-preserved c =
    let contents = c.args.catalogue.now in
    let streams = c.args.streams.now in
    let reader = c.args.reader in
    let n = c.loop-number.number in
    let stream = c.index-streams-number.result in
    let is = c.index-streams-number.is in
    let within : n < length streams = omega arith in
    let before = c.loop-number.invariant in
    let taken = c.loop-number.taken in
    let now = c.loop-number.faults.items in
    let firsts : get_by_text taken.names ≡ first_claim reader (take n streams) = λ i name. before.names name i in
    let scopes : get_by_text taken.scopes ≡ first_scoped contents reader (take n streams) = λ i name. before.scopes name i in
    record {
      names = λ name.
          c.in_ok-add_faults_for.ensures.names name
          ∙ ap (λ (o : Option ℕ). or_else o (cond (is_claimed reader name stream) (Some n) None)) (before.names name)
          ∙ sym (first_claim-more reader streams n stream name within is);
      scopes = λ name.
          c.in_ok-add_faults_for.ensures.scopes name
          ∙ ap (λ (o : Option ℕ). or_else o (cond (is_scoped contents reader name stream) (Some n) None)) (before.scopes name)
          ∙ sym (first_scoped-more contents reader streams n stream name within is);
      faults =
          turn (faults_at Prometheus contents streams reader) n c.args.faults.now.items now c.add_faults_for.new.faults.items before.faults
          (c.in_ok-add_faults_for.ensures.faults
          ∙ ap (λ (first : List ℕ → Option ℕ). now ++ cond (stream.reader == reader) (page_faults contents streams first (get_by_text taken.scopes) n stream) []) firsts
          ∙ ap (λ (scope : List ℕ → Option ℕ). now ++ cond (stream.reader == reader) (page_faults contents streams (first_claim reader (take n streams)) scope n stream) []) scopes
          ∙ ap (λ (fs : List ExposureFault). now ++ fs) (sym (faults_is Prometheus contents streams reader n stream within is)));
    }

pub returns : goal.returns
unfolding exposure_faults
returns c =
    let contents = c.args.catalogue.now in
    let streams = c.args.streams.now in
    let all : c.loop-number.number ≡ length streams = omega arith in
    c.loop-number.invariant.faults ∙ ap (λ (n : ℕ). c.args.faults.now.items ++ flat_map (faults_at Prometheus contents streams c.args.reader) (range_with_len 0 n)) all
