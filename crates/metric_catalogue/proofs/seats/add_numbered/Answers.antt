-- one more recorder, or its fault
use Rattle.std.proofs.Common.{◌≡◌, ℕ, ◌+◌, ◌-◌, ◌<◌, suc, map, ap, sym, subst, arith, List, ◌∷◌, Result, Ok, Err, ◌∙◌}
use Rattle.std.proofs.lemmas.Result.{err_from_is_err_and}
use Rattle.std.specs.List.{range_with_len}
use Rattle.metric_base.specs.Steps.{◌>>=◌, in_turn, with_next}
use Rattle.metric_catalogue.specs.Seats.{numbered, seat_of}
use Rattle.metric_catalogue.proofs.seats.add_numbered.Goals as goal

-- the first of the names that are left
next_name : (name : List ℕ) (n c : ℕ) → n < c
    → map (numbered name) (range_with_len n (c - n)) ≡ numbered name n ∷ map (numbered name) (range_with_len (n + 1) (c - (n + 1)))
next_name name n c below =
    let left : c - n ≡ suc (c - (n + 1)) = omega arith in
    ap (λ (k : ℕ). map (numbered name) (range_with_len n k)) left

-- with the step for the first element done, those that are left give what all gave
one_on : {S X E : Type 0} (step : S → X → Result S E) (s t : S) (x y : X) (xs ys : List X) → step s x ≡ Ok t → x ≡ y → ys ≡ y ∷ xs → in_turn step t xs ≡ in_turn step s ys
one_on {S} {X} {E} step s t x y xs ys made same next =
    let first : step s y ≡ Ok t = subst (λ (z : X). step s z ≡ Ok t) same made in
    sym (ap (λ (r : Result S E). r >>= λ u. in_turn step u xs) first) ∙ ap (in_turn step s) (sym next)

-- the fault of the first element is that of all that are left
stops : {S X E : Type 0} (step : S → X → Result S E) (s : S) (x y : X) (e : E) (xs ys : List X) → step s x ≡ Err e → x ≡ y → ys ≡ y ∷ xs → in_turn step s ys ≡ Err e
stops {S} {X} {E} step s x y e xs ys fault same next =
    let first : step s y ≡ Err e = subst (λ (z : X). step s z ≡ Err e) same fault in
    ap (in_turn step s) next ∙ ap (λ (r : Result S E). r >>= λ u. in_turn step u xs) first

pub loop-number-preserved : goal.loop-number-preserved
loop-number-preserved c = record {
  few = omega (arith, c.loop-number.invariant.few, c.in_ok-add_seat.ensures.few);
  exact = one_on (with_next (seat_of c.args.at c.args.budgets.now)) c.loop-number.recorders c.add_seat.new.recorders c.as_str.result.now _
      (map (numbered c.args.name.now) (range_with_len (c.loop-number.number + 1) (c.args.count - (c.loop-number.number + 1)))) _
      c.in_ok-add_seat.ensures.exact (c.as_str.ensures ∙ c.in_ok-next.ensures)
      (next_name c.args.name.now c.loop-number.number c.args.count c.loop-number-test.true)
      ∙ c.loop-number.invariant.exact;
}

pub returns-in_err-add_seat-clause-exact : goal.returns-in_err-add_seat-clause-exact
returns-in_err-add_seat-clause-exact c =
    let p = err_from_is_err_and c.from_residual-in_err-add_seat.result c.from_residual-in_err-add_seat.ensures.1 in
    rw (p.1, p.2) (λ other. sym c.loop-number.invariant.exact
    ∙ stops (with_next (seat_of c.args.at c.args.budgets.now)) c.loop-number.recorders c.as_str.result.now _ _
    (map (numbered c.args.name.now) (range_with_len (c.loop-number.number + 1) (c.args.count - (c.loop-number.number + 1)))) _
    (c.in_err-add_seat.ensures.exact other) (c.as_str.ensures ∙ c.in_ok-next.ensures)
    (next_name c.args.name.now c.loop-number.number c.args.count c.loop-number-test.true))
