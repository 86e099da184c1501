-- A list breaks off at one place, and a whole list at none.
use Rattle.std.proofs.Common.{◌≡◌, ℕ, ◌⊎◌, inl, inr, List, [], ◌∷◌, ◌++◌, length, refl, sym, ap}
use Rattle.std.proofs.Common.{subst, ◌∙◌, append_assoc, append-nil}
use Rattle.metric_base.specs.Fronts.{BeginsWhole, IsStuck, BreaksOffAt}

-- Of two fronts of one list the second goes on after the first.
record GoesFurther {X : Type 0} (before rest further left : List X) : Type 0 where
  between : List X
  front : further ≡ before ++ between
  back : rest ≡ between ++ left

consed : {X : Type 0} (x y : X) (xs ys : List X) → x ≡ y → xs ≡ ys → (x ∷ xs) ≡ (y ∷ ys)
consed x y xs ys p q = cc

longer : {X : Type 0} (x y : X) (a r b s : List X) → x ≡ y → GoesFurther a r b s
    → GoesFurther (x ∷ a) r (y ∷ b) s
longer x y a r b s e g = record {
  between = g.between;
  front = consed y x b (a ++ g.between) (sym e) g.front;
  back = g.back;
}

fronts : {X : Type 0} (a r b s : List X) → a ++ r ≡ b ++ s
    → GoesFurther a r b s ⊎ GoesFurther b s a r
fronts [] r b s e = inl (record { between = b; front = refl; back = e })
fronts (x ∷ a) r [] s e = inr (record { between = x ∷ a; front = refl; back = sym e })
fronts (x ∷ a) r (y ∷ b) s e =
    let heads : x ≡ y = cc in
    let tails : a ++ r ≡ b ++ s = cc in
    elim (fronts a r b s tails) [
      | inl g ↦ inl (longer x y a r b s heads g)
      | inr g ↦ inr (longer y x b s a r (sym heads) g)
    ]

-- No whole list begins with more than what stands before the break.
not_further : {X : Type 0} (IsWhole : List X → Type 0) (before rest further left between : List X)
    → IsStuck IsWhole before rest → BeginsWhole IsWhole further
    → further ≡ before ++ between → rest ≡ between ++ left → before ≡ further
not_further IsWhole before rest further left [] stuck begins e f = sym (e ∙ append-nil before)
not_further {X = X} IsWhole before rest further left (x ∷ between) stuck begins e f =
    absurd (subst (λ (r : List X). IsStuck IsWhole before r) f stuck (record {
      more = between ++ begins.more;
      is_whole = subst IsWhole
          (ap (λ (ys : List X). ys ++ begins.more) e ∙ append_assoc before (x ∷ between) begins.more
          ∙ sym (append_assoc before (x ∷ []) (between ++ begins.more)))
          begins.is_whole;
    }))

pub one_break : {X : Type 0} (IsWhole : List X → Type 0) (xs : List X) (m n : ℕ)
    → BreaksOffAt IsWhole xs m → BreaksOffAt IsWhole xs n → m ≡ n
one_break IsWhole xs m n p q =
    p.at ∙ ap length (elim (fronts p.before p.rest q.before q.rest (sym p.whole ∙ q.whole)) [
      | inl g ↦ not_further IsWhole p.before p.rest q.before q.rest g.between p.stuck q.begun
          g.front g.back
      | inr g ↦ sym (not_further IsWhole q.before q.rest p.before p.rest g.between q.stuck p.begun
          g.front g.back)
    ]) ∙ sym q.at

not_stuck : {X : Type 0} (IsWhole : List X → Type 0) (before rest : List X)
    → IsWhole (before ++ rest) → IsStuck IsWhole before rest → ⊥
not_stuck IsWhole before [] whole stuck = stuck (subst IsWhole (append-nil before) whole)
not_stuck IsWhole before (x ∷ rest) whole stuck =
    stuck (record {
      more = rest;
      is_whole = subst IsWhole (sym (append_assoc before (x ∷ []) rest)) whole;
    })

pub no_break : {X : Type 0} (IsWhole : List X → Type 0) (xs : List X) (n : ℕ) → IsWhole xs
    → BreaksOffAt IsWhole xs n → ⊥
no_break IsWhole xs n whole broken =
    not_stuck IsWhole broken.before broken.rest (subst IsWhole broken.whole whole) broken.stuck
