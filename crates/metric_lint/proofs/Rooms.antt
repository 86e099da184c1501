-- The headroom of an instrument.
use Rattle.std.proofs.Common.{◌≡◌, ℕ, ◌-◌, ◌^◌, Bool, true, false, cond, ltb, eqb, IsTrue, List, [], ◌∷◌, fold, Option, Some, None, refl, sym, subst, ◌∙◌, arith}
use Rattle.std.specs.List.{enumerate_from}
use Rattle.std.specs.Prelude.{slice_get}
use Rattle.metric_bounds.specs.Amounts.{total_of}
use Rattle.metric_bounds.specs.Finding.{WhereThere}
use Rattle.metric_bounds.specs.First.{Asks, Then}
use Rattle.metric_bounds.specs.Safe.{AmountsFit, CountsFit, HighFits, LowFits}
use Rattle.metric_bounds.specs.Sums.{is_summed}
use Rattle.metric_contents.specs.declared.contents.Contents.{Contents}
use Rattle.metric_contents.specs.declared.contents.Instrument.{Instrument}
use Rattle.metric_views.specs.declared.stream.Stream.{Stream}
use Rattle.metric_lint.specs.declared.headroom.Headroom.{Headroom}
use Rattle.metric_lint.specs.declared.limit.Limit.{Limit}
use Rattle.metric_lint.specs.declared.limit.Limit.TheVariants.{Count, Amount, SumLow, SumHigh, Series}
use Rattle.metric_lint.specs.Edges.{IsEdge, IsMost}
use Rattle.metric_lint.specs.Headrooms.{IsHeadroom, IsOwnHeadroom, most_by_series, tightened, tightened_at}
use Rattle.metric_lint.specs.Limits.{OwnFinds, OwnFindsAt}
use Rattle.metric_lint.proofs.EdgeLaws.{asked_edge, four_grouped, streams_edge, tightened_edge}

-- the total stays
pub tightened-total : (h : Headroom) (o : Option ℕ) (limit : Limit) → (tightened h o limit).total ≡ h.total
tightened-total h None limit = refl
tightened-total h (Some most) limit = by (ltb most h.most)
  where
    by : (b : Bool) → (cond b (record h { most = most; limit = limit }) h).total ≡ h.total
    by true = refl
    by false = refl

at-total : (contents : Contents) (i : ℕ) (h : Headroom) (s : ℕ × Stream) → (tightened_at contents i h s).total ≡ h.total
at-total contents i h s = by (eqb s.1.instrument i)
  where
    by : (b : Bool) → (cond b (tightened h (most_by_series contents s.1) (Series s.0)) h).total ≡ h.total
    by true = tightened-total h (most_by_series contents s.1) (Series s.0)
    by false = refl

all-total : (contents : Contents) (i : ℕ) (h : Headroom) (streams : List (ℕ × Stream)) → (fold (tightened_at contents i) h streams).total ≡ h.total
all-total contents i h [] = refl
all-total contents i h (s ∷ streams) = all-total contents i (tightened_at contents i h s) streams ∙ at-total contents i h s

-- an instrument's own numbers
pub own_edge : (h : Headroom) (summed : Type 0) (instrument : Instrument) (amount low high : Option ℕ) → h.most ≡ 2 ^ 64 - 1 → h.limit ≡ Count
    → IsMost (λ t. AmountsFit t instrument) amount → IsMost (λ t. summed → LowFits t instrument) low → IsMost (λ t. summed → HighFits t instrument) high
    → IsEdge (λ t. OwnFinds t summed instrument)
    (tightened (tightened (tightened h amount Amount) low SumLow) high SumHigh).most (tightened (tightened (tightened h amount Amount) low SumLow) high SumHigh).limit
own_edge h summed instrument amount low high most limit amounts lows highs =
    let one : IsEdge (λ t. Asks (CountsFit t) Count) (2 ^ 64 - 1) Count =
    asked_edge (λ t. CountsFit t) (2 ^ 64 - 1) Count (record { within = λ t le. omega arith; greatest = λ t less. omega arith }) in
    let start : IsEdge (λ t. Asks (CountsFit t) Count) h.most h.limit = rw (most, limit) one in
    let counts = λ (t : ℕ). Asks (CountsFit t) Count in
    let by_amount = λ (t : ℕ). Asks (AmountsFit t instrument) Amount in
    let by_low = λ (t : ℕ). Asks (summed → LowFits t instrument) SumLow in
    let by_high = λ (t : ℕ). Asks (summed → HighFits t instrument) SumHigh in
    let one_more = tightened h amount Amount in
    let two_more = tightened one_more low SumLow in
    let three_more = tightened two_more high SumHigh in
    four_grouped counts by_amount by_low by_high three_more.most three_more.limit
    (tightened_edge (λ t. Then (Then (counts t) (by_amount t)) (by_low t)) (λ t. summed → HighFits t instrument) two_more high SumHigh
    (tightened_edge (λ t. Then (counts t) (by_amount t)) (λ t. summed → LowFits t instrument) one_more low SumLow
    (tightened_edge counts (λ t. AmountsFit t instrument) h amount Amount start amounts) lows) highs)

-- the own numbers of the instrument of a number
pub own_at : (contents : Contents) (streams : List Stream) (n : ℕ) (summed : Bool) (i : Instrument) (h : Headroom) → slice_get contents.instruments n ≡ Some i
    → h.total ≡ total_of contents n → summed ≡ is_summed streams n → IsEdge (λ t. OwnFinds t (IsTrue summed) i) h.most h.limit → IsOwnHeadroom contents streams n h
own_at contents streams n summed i h at total flag edge = record {
  total = total;
  edge =
      subst (λ (o : Option Instrument). IsEdge (λ t. WhereThere (OwnFinds t (IsTrue (is_summed streams n))) o) h.most h.limit) (sym at)
      (subst (λ (b : Bool). IsEdge (λ t. OwnFinds t (IsTrue b) i) h.most h.limit) flag edge);
}

-- with its streams
pub room_is : (contents : Contents) (streams : List Stream) (i : ℕ) (own h : Headroom) → IsOwnHeadroom contents streams i own
    → h ≡ fold (tightened_at contents i) own (enumerate_from 0 streams) → IsHeadroom contents streams i h
room_is contents streams i own h o is =
    let all = enumerate_from 0 streams in
    let lowered = fold (tightened_at contents i) own all in
    let e = streams_edge contents i (OwnFindsAt contents streams i) own all o.edge in
    subst (λ (x : Headroom). IsHeadroom contents streams i x) (sym is) (record {
      total = all-total contents i own all ∙ o.total;
      safe = e.safe lowered.most (omega arith);
      greatest = e.greatest;
      next = e.next;
    })
