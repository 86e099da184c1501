-- the totals of all instruments
use Rattle.std.proofs.Common.{◌≡◌, ◌+◌, ◌<◌, ◌^◌, ℕ, List, length, get_or, ap, subst, sym, ◌∙◌, All, arith}
use Rattle.std.specs.Prelude.{sum_by}
use Rattle.std.proofs.lemmas.List.{length-map}
use Rattle.metric_contents.specs.declared.contents.Instrument.{Instrument}
use Rattle.metric_contents.specs.declared.contents.Recorder.{Recorder}
use Rattle.metric_contents.specs.Budgets.{amount_of}
use Rattle.metric_catalogue.specs.Sound.{IsSoundRecorder}
use Rattle.metric_bounds.specs.Amounts.{total_of}
use Rattle.metric_bounds.proofs.Spares.{spare_limited, spare_listed, spares}
use Rattle.metric_bounds.proofs.Tables.{table_is, written_back}
use Rattle.metric_bounds.proofs.amounts.totals.Goals as goal

pub add_recorders-requires : goal.add_recorders-requires
add_recorders-requires c =
    let contents = c.args.catalogue.now in
    let sound = c.instruments.ensures.sound in
    let listed : c.as_mut_slice.result.now ≡ spares contents.instruments =
    c.as_mut_slice.ensures.value ∙ c.in_ok-totals.ensures ∙ ap spares c.instruments.ensures.instruments in
    let long : length c.as_mut_slice.result.now ≡ length contents.instruments =
    ap length listed ∙ length-map contents.instruments (λ (i : Instrument). i.spare) in
    let few : length c.recorders.result.now ≡ length contents.recorders = ap length c.recorders.ensures.recorders in
    record {
      few = omega (arith, c.recorders.ensures.few);
      known = subst (λ (rs : List Recorder). All (IsSoundRecorder (length c.as_mut_slice.result.now)) rs) (sym c.recorders.ensures.recorders)
          (subst (λ (n : ℕ). All (IsSoundRecorder n) contents.recorders) (sym long) sound.recorders.each);
      low = λ i.
          subst (λ (all : List ℕ). get_or all i 0 < 2 ^ 63) (sym listed) (spare_limited (length contents.meters) contents.instruments i sound.instruments.each);
    }

pub returns : goal.returns
unfolding total_of
returns c =
    let contents = c.args.catalogue.now in
    let n = length contents.instruments in
    let new = c.add_recorders.new.totals in
    let old = c.in_ok-totals.totals.items in
    let value = ap length c.as_mut_slice.ensures.value in
    let len = c.as_mut_slice.ensures.len in
    let listed : c.as_mut_slice.result.now ≡ spares contents.instruments =
    c.as_mut_slice.ensures.value ∙ c.in_ok-totals.ensures ∙ ap spares c.instruments.ensures.instruments in
    let made : length c.as_mut_slice.result.now ≡ n = ap length listed ∙ length-map contents.instruments (λ (i : Instrument). i.spare) in
    let long = c.add_recorders.ensures.length in
    c.from_vec.ensures ∙ written_back c.in_ok-totals.totals.len new old (omega arith) (omega arith)
    ∙ table_is (total_of contents) 0 new n (omega arith)
    (λ i within.
    c.add_recorders.ensures.added i (omega arith)
    ∙ ap (λ (rs : List Recorder). sum_by (λ recorder. amount_of recorder i) rs + get_or c.as_mut_slice.result.now i 0) c.recorders.ensures.recorders
    ∙ ap (λ (all : List ℕ). sum_by (λ recorder. amount_of recorder i) contents.recorders + get_or all i 0) listed
    ∙ ap (λ (spare : ℕ). sum_by (λ recorder. amount_of recorder i) contents.recorders + spare) (spare_listed contents.instruments i))
