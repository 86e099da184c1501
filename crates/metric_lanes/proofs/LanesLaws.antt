-- A batch of two lanes, put together, is that of every order of their recordings.
use Rattle.std.proofs.Common.{◌≡◌, ℕ, ◌+◌, Bool, true, false, cond, List, ◌++◌}
use Rattle.std.proofs.Common.{take, drop, refl, ap, sym, subst, arith, length-take}
use Rattle.std.specs.Prelude.{max}
use Rattle.std.proofs.lemmas.List.{take-append-drop}
use Rattle.metric_facts.specs.Facts.{is_delta}
use Rattle.metric_history.specs.declared.entry.Entry.{Entry}
use Rattle.metric_history.specs.Answers.{covered}
use Rattle.metric_history.specs.Windows.{window}
use Rattle.metric_lanes.specs.Joined.{Interleaves, none, left, right}
use Rattle.metric_lanes.proofs.JoinedLaws.{lengths_join}
use Rattle.metric_lanes.proofs.RisingLaws.{report_together}
use Rattle.metric_lanes.specs.Lanes.{BatchesTogether}

appends_join : {X : Type 0} {us vs ws xs ys zs : List X} → Interleaves us vs ws
    → Interleaves xs ys zs → Interleaves (us ++ xs) (vs ++ ys) (ws ++ zs)
appends_join none r = r
appends_join (left q) r = left (appends_join q r)
appends_join (right q) r = right (appends_join q r)

whole : (m n k : ℕ) (xs ys zs : List Entry) → Interleaves (take m xs) (take n ys) (take k zs)
    → Interleaves (drop m xs) (drop n ys) (drop k zs) → Interleaves xs ys zs
whole m n k xs ys zs q r =
    subst (λ (ws : List Entry). Interleaves ws ys zs) (take-append-drop m xs)
    (subst (λ (ws : List Entry). Interleaves (take m xs ++ drop m xs) ws zs) (take-append-drop n ys)
    (subst (λ (ws : List Entry). Interleaves (take m xs ++ drop m xs) (take n ys ++ drop n ys) ws)
    (take-append-drop k zs) (appends_join q r)))

pub batches_together : BatchesTogether
batches_together facts start a b all reader now lanes = record {
  from = by_from (is_delta facts reader);
  mark = lengths_join every;
  start = by_start (is_delta facts reader);
  time = ap (max now) (sym lanes.time);
  points = λ s may held_a held_b held_all.
      report_together s (covered facts a reader) (covered facts b reader) (covered facts all reader)
      may (windows (is_delta facts reader)) held_a held_b held_all;
}
  where
    every : Interleaves a.accepted b.accepted all.accepted
    every =
        whole (a.mark reader) (b.mark reader) (all.mark reader) a.accepted b.accepted all.accepted
        lanes.before lanes.after

    marks : all.mark reader ≡ a.mark reader + b.mark reader
    marks =
        omega (
          arith,
          lengths_join lanes.before,
          length-take (a.mark reader) a.accepted,
          length-take (b.mark reader) b.accepted,
          length-take (all.mark reader) all.accepted,
          lanes.past_a,
          lanes.past_b,
          lanes.past,
        )

    by_from : (d : Bool) → cond d (all.mark reader) 0
        ≡ cond d (a.mark reader) 0 + cond d (b.mark reader) 0
    by_from true = marks
    by_from false = omega arith

    by_start : (d : Bool) → cond d (all.previous reader) start ≡ cond d (a.previous reader) start
    by_start true = sym lanes.time
    by_start false = refl

    windows : (d : Bool) → Interleaves (window d (a.mark reader) a.accepted)
        (window d (b.mark reader) b.accepted) (window d (all.mark reader) all.accepted)
    windows true = lanes.after
    windows false = every
