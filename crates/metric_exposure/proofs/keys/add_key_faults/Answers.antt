-- one key more
use Rattle.std.proofs.Common.{◌≡◌, ℕ, ◌<◌, ◌++◌, length, Some, sym, ap, refl, ◌∙◌, arith}
use Rattle.std.specs.Prelude.{slice_get}
use Rattle.std.specs.List.{flat_map, range_with_len}
use Rattle.std.proofs.lemmas.List.{append-nil}
use Rattle.std.proofs.lemmas.Option.{slice_get_read}
use Rattle.metric_exposure.specs.KeyFaults.{all_key_faults, place_faults}
use Rattle.metric_family.specs.Labels.{label_of}
use Rattle.metric_exposure.proofs.KeyTurns.{faults_more, faults_same, labels_more, labels_same}
use Rattle.metric_exposure.proofs.keys.add_key_faults.Goals as goal
use Rattle.metric_exposure.proofs.keys.add_key_faults.Goals.{then-is_kept+in_ok-label+in_ok-add_faults_of+in_ok-push, else-is_kept}

pub loop-place-init : goal.loop-place-init
loop-place-init c = record { labels = sym (append-nil c.args.labels.items); faults = sym (append-nil c.args.faults.now.items) }

pub loop-place-preserved : goal.loop-place-preserved
loop-place-preserved c =
    let number = c.args.number in
    let own = c.args.labels.items in
    let keys = c.args.keys.now in
    let kept = c.args.kept.now in
    let n = c.loop-place.place in
    let key = c.index-keys-place.result in
    let within : n < length keys = omega arith in
    let at : slice_get keys n ≡ Some key = slice_get_read keys (length keys) n key refl within c.index-keys-place.is in
    let before = c.loop-place.invariant in
    let old = c.args.faults.now.items in
    let now = c.loop-place.faults.items in
    let labels = c.loop-place.labels.items in
    elim c.if-is_kept.branch [
      | then-is_kept+in_ok-label+in_ok-add_faults_of+in_ok-push w ↦
          let is = sym c.is_kept.ensures ∙ w.if-is_kept.true in
          record {
            labels =
                labels_more number own keys kept n key at labels c.if-is_kept.labels.items w.in_ok-label.label is before.labels
                (w.in_ok-label.ensures ∙ ap label_of w.as_str.ensures) (ap (λ v. v.items) w.labels-is ∙ w.in_ok-push.ensures.items);
            faults =
                faults_more number own keys kept n key at labels old now c.if-is_kept.faults.items is before.labels before.faults
                (ap (λ v. v.items) w.faults-is ∙ (rw w.as_slice-taken.ensures.value at w.in_ok-add_faults_of.ensures));
          }
      | else-is_kept w ↦
          let is = sym c.is_kept.ensures ∙ w.if-is_kept.false in
          record {
            labels = ap (λ v. v.items) w.labels-is ∙ labels_same number own keys kept n key at labels is before.labels;
            faults = ap (λ v. v.items) w.faults-is ∙ faults_same number own keys kept n key at old now is before.faults;
          }
    ]

pub returns : goal.returns
unfolding all_key_faults
returns c =
    let keys = c.args.keys.now in
    let all : c.loop-place.place ≡ length keys = omega arith in
    c.loop-place.invariant.faults ∙ ap (λ (n : ℕ). c.args.faults.now.items ++ flat_map (place_faults c.args.number c.args.labels.items keys c.args.kept.now) (range_with_len 0 n)) all
