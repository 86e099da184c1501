-- each return against the distinct series of the recordings before it
use Rattle.std.proofs.Common.{◌≡◌, ℕ, ◌≤◌, false, List, length, take, ap, subst, ◌∙◌, arith}
use Rattle.std.specs.Prelude.{nat_lt}
use Rattle.std.proofs.lemmas.List.{take_all}
use Rattle.metric_history.specs.declared.entry.Entry.{Entry}
use Rattle.metric_history.specs.Series.{all_series, has, distinct}
use Rattle.metric_history.specs.SeriesLaws.{place_short, place_here, place_late, place_next, has_more, places_more}
use Rattle.metric_journal.proofs.series.has_place.Goals as goal
use Rattle.metric_journal.proofs.series.has_place.Goals.{then-not-is_among, else-not-is_among}

pub returns-then-entries-limit : goal.returns-then-entries-limit
returns-then-entries-limit c = place_short _ c.args.limit c.args.entries.now _ c.if-entries-limit.true

pub returns-then-eq : goal.returns-then-eq
returns-then-eq c =
    ap (λ (n : ℕ). nat_lt n c.args.limit) c.loop-i.invariant.places
    ∙ place_here _ c.args.limit c.args.entries.now c.loop-i.i _ _ _ c.series_of-series.ensures c.loop-i-test.true c.loop-i.invariant.new c.if-eq.ensures

pub returns-then-places-limit : goal.returns-then-places-limit
returns-then-places-limit c =
    let none : c.args.limit ≤ length (distinct (all_series c.args.kept.now (take c.loop-i.i c.args.entries.now))) = omega arith in
    place_late _ c.args.limit c.args.entries.now c.loop-i.i _ c.loop-i.invariant.new none

pub loop-i-preserved : goal.loop-i-preserved
loop-i-preserved c =
    let more = places_more c.args.kept.now c.args.entries.now c.loop-i.i _ _ _ c.series_of-series.ensures c.loop-i-test.true c.is_among.ensures in
    record {
      places = elim c.if-not-is_among.branch [ then-not-is_among w ↦ grind (arith, more) | else-not-is_among w ↦ grind (arith, more) ];
      few = elim c.if-not-is_among.branch [ then-not-is_among w ↦ omega arith | else-not-is_among w ↦ omega arith ];
      new = has_more _ c.args.entries.now c.loop-i.i _ _ _ c.series_of-series.ensures c.loop-i-test.true c.loop-i.invariant.new c.if-eq.ensures;
    }

pub returns : goal.returns
returns c =
    let whole : take c.loop-i.i c.args.entries.now ≡ c.args.entries.now = take_all c.loop-i.i c.args.entries.now (omega arith) in
    let new : has (all_series c.args.kept.now c.args.entries.now) c.args.key.now ≡ false =
    subst (λ (es : List Entry). has (all_series c.args.kept.now es) c.args.key.now ≡ false) whole c.loop-i.invariant.new in
    ap (λ (n : ℕ). nat_lt n c.args.limit) (c.loop-i.invariant.places ∙ ap (λ (es : List Entry). length (distinct (all_series c.args.kept.now es))) whole)
    ∙ place_next c.args.kept.now c.args.limit c.args.entries.now c.args.key.now new
