-- The bounds of the instrument of a number.
use Rattle.std.proofs.Common.{◌≡◌, ◌<◌, ℕ, Bool, IsTrue, List, length, get_or, Option, Some, None, sym, subst, arith}
use Rattle.std.specs.List.{AllZip}
use Rattle.std.specs.Prelude.{IsSomeAnd, slice_get}
use Rattle.std.proofs.lemmas.List.FromFn.{get_or-range_with_len, length-range_with_len}
use Rattle.metric_contents.specs.declared.contents.Contents.{Contents}
use Rattle.metric_contents.specs.declared.contents.Instrument.{Instrument}
use Rattle.metric_views.specs.declared.stream.Stream.{Stream}
use Rattle.metric_resolve.specs.Applying.{all_instruments}
use Rattle.metric_bounds.specs.Amounts.{total_of}
use Rattle.metric_bounds.specs.Finding.{WhereThere}
use Rattle.metric_bounds.specs.Sums.{is_summed}
use Rattle.metric_cert.specs.declared.bound.InstrumentBound.{InstrumentBound}
use Rattle.metric_make.specs.declared.fault.MakeFault.{MakeFault}
use Rattle.metric_make.specs.Finding.{NumberFinds, OwnFinds}
use Rattle.metric_make.specs.Making.{HasNumbers}
use Rattle.metric_cert.specs.Valid.{IsBoundAt, IsBoundOf}
use Rattle.metric_make.proofs.Pairs.{AllZip-at}

pub found_at : (contents : Contents) (streams : List Stream) (n total : ℕ) (summed : Bool) (i : Instrument) (found : Option MakeFault)
    → slice_get contents.instruments n ≡ Some i → total ≡ total_of contents n → summed ≡ is_summed streams n
    → OwnFinds n total (IsTrue summed) i found → NumberFinds contents streams n found
found_at contents streams n total summed i found at is_total is_flag finds =
    subst (λ (o : Option Instrument). WhereThere (OwnFinds n (total_of contents n) (IsTrue (is_summed streams n))) o found) (sym at)
    (subst (λ (b : Bool). OwnFinds n (total_of contents n) (IsTrue b) i found) is_flag
    (subst (λ (t : ℕ). OwnFinds n t (IsTrue summed) i found) is_total finds))

pub bound_at : (contents : Contents) (streams : List Stream) (n total : ℕ) (summed : Bool) (i : Instrument) (bound : InstrumentBound)
    → slice_get contents.instruments n ≡ Some i → total ≡ total_of contents n → summed ≡ is_summed streams n
    → HasNumbers n total i bound → OwnFinds n total (IsTrue summed) i None → IsBoundAt contents streams n bound
bound_at contents streams n total summed i bound at is_total is_flag has finds =
    subst (λ (o : Option Instrument). IsSomeAnd o (λ instrument. IsBoundOf contents streams n instrument bound)) (sym at)
    (let own = subst (λ (t : ℕ). HasNumbers n t i bound) is_total has in
    let safe = subst (λ (b : Bool). OwnFinds n (total_of contents n) (IsTrue b) i None) is_flag
    (subst (λ (t : ℕ). OwnFinds n t (IsTrue summed) i None) is_total finds) in
    record {
      numbered = own.numbered;
      total = own.total;
      amount = own.amount;
      low = own.low;
      high = own.high;
      safe = record { counts = safe.0; amounts = safe.1.0; low = safe.1.1.0; high = safe.1.1.1 };
    })

-- the total in the bounds
pub bound_total : (contents : Contents) (streams : List Stream) (bounds : List InstrumentBound) → AllZip (IsBoundAt contents streams) (all_instruments contents) bounds
    → (n : ℕ) → n < length contents.instruments → (e : InstrumentBound) → (get_or bounds n e).total ≡ total_of contents n
bound_total contents streams bounds zip n within e =
    let inside : n < length (all_instruments contents) = omega (arith, length-range_with_len 0 (length contents.instruments)) in
    let is : get_or (all_instruments contents) n 0 ≡ n = omega (arith, get_or-range_with_len 0 (length contents.instruments) n 0 within) in
    by (slice_get contents.instruments n) (subst (λ (k : ℕ). IsBoundAt contents streams k (get_or bounds n e)) is (AllZip-at (IsBoundAt contents streams) (all_instruments contents) bounds zip n 0 e inside))
  where
    by : (o : Option Instrument) → IsSomeAnd o (λ instrument. IsBoundOf contents streams n instrument (get_or bounds n e)) → (get_or bounds n e).total ≡ total_of contents n
    by None h = absurd h
    by (Some i) h = h.total
