-- What merging gives is the points put together.
use Rattle.std.proofs.Common.{◌≡◌, Less, Equal, Greater, ℕ, ◌+◌, ◌<◌, ◌≤◌, All, Bool, true, false, cond, List, [], ◌∷◌, ◌++◌, Option, Some, None, length, get_or, append_assoc, refl, sym, ap, subst, ◌∙◌, arith}
use Rattle.std.specs.Prelude.{IfOk, Result, Ok, Err}
use Rattle.std.specs.Ordering.{ordering_reverse}
use Rattle.std.specs.declared.alloc.AllocError.{AllocError}
use Rattle.std.proofs.lemmas.Cmp.{nat_list_cmp_total}
use Rattle.std.proofs.lemmas.List.Elements.{All-tail, All-weaker}
use Rattle.std.proofs.lemmas.List.{append-nil}
use Rattle.std.proofs.lemmas.Map.Lookups.{exact_bytes}
use Rattle.metric_aggregate.specs.declared.point_value.PointValue.{PointValue}
use Rattle.metric_history.specs.declared.batch.Point.{Point}
use Rattle.metric_history.specs.declared.batch.StreamPoints.{StreamPoints}
use Rattle.metric_safety.specs.WindowBounds.{IsValueInRange}
use Rattle.metric_lanes.specs.Joined.{joined}
use Rattle.metric_lanes.specs.Merging.{Merges, done, first, second, both, IsNext, joined_point, next_of, rest_of, set_order}
use Rattle.metric_lanes.specs.declared.together.Next.{Next}
use Rattle.metric_lanes.specs.Together.{AreTogether, ArePutTogether, AreStreamsTogether, CanJoin, CanJoinStreams, HasSet, IsBefore, IsBeforeAll, IsRising, is_of, joined_at, value_at}
use Rattle.metric_lanes.proofs.RisingLaws.{first_before, nothing_of}

at_nothing : (a : Option PointValue) (v : PointValue) → a ≡ None → Some v ≡ joined_at a (Some v)
at_nothing a v e = sym (ap (λ (b : Option PointValue). joined_at b (Some v)) e)

-- series by series
each : (xs ys zs : List Point) → Merges xs ys zs → IsRising xs → IsRising ys → AreTogether xs ys zs
each [] [] [] done up down key = refl
each _ _ _ (first {a} {xs} {ys} {zs} before rest) up down key =
    at (is_of a.set key) refl (each xs ys zs rest up.1.1 down key)
  where
    at : (b : Bool) → is_of a.set key ≡ b → value_at zs key ≡ joined_at (value_at xs key) (value_at ys key)
        → cond b (Some a.value) (value_at zs key) ≡ joined_at (cond b (Some a.value) (value_at xs key)) (value_at ys key)
    at true e others =
        ap (joined_at (Some a.value)) (sym (nothing_of a.set key ys (first_before a.set ys before down) e))
    at false e others = others
each _ _ _ (second {b} {xs} {ys} {zs} before rest) up down key =
    at (is_of b.set key) refl (each xs ys zs rest up down.1.1 key)
  where
    at : (t : Bool) → is_of b.set key ≡ t → value_at zs key ≡ joined_at (value_at xs key) (value_at ys key)
        → cond t (Some b.value) (value_at zs key) ≡ joined_at (value_at xs key) (cond t (Some b.value) (value_at ys key))
    at true e others = at_nothing (value_at xs key) b.value (nothing_of b.set key xs (first_before b.set xs before up) e)
    at false e others = others
each _ _ _ (both {a} {b} {xs} {ys} {zs} same rest) up down key =
    at (is_of a.set key) (each xs ys zs rest up.1.1 down.1.1 key)
    ∙ ap (λ (t : Bool). joined_at (cond (is_of a.set key) (Some a.value) (value_at xs key)) (cond t (Some b.value) (value_at ys key)))
    (ap (λ (set : Option (List ℕ)). is_of set key) same)
  where
    at : (t : Bool) → value_at zs key ≡ joined_at (value_at xs key) (value_at ys key)
        → cond t (Some (joined a.value b.value)) (value_at zs key)
        ≡ joined_at (cond t (Some a.value) (value_at xs key)) (cond t (Some b.value) (value_at ys key))
    at true others = refl
    at false others = others

before_merged : (set : Option (List ℕ)) (xs ys zs : List Point) → Merges xs ys zs → IsBeforeAll set xs → IsBeforeAll set ys → IsBeforeAll set zs
before_merged set _ _ _ done p q = tt
before_merged set _ _ _ (first {a} {xs} {ys} {zs} before rest) p q = (p.0, before_merged set xs ys zs rest p.1 q)
before_merged set _ _ _ (second {b} {xs} {ys} {zs} before rest) p q = (q.0, before_merged set xs ys zs rest p q.1)
before_merged set _ _ _ (both {a} {b} {xs} {ys} {zs} same rest) p q = (p.0, before_merged set xs ys zs rest p.1 q.1)

rising : (xs ys zs : List Point) → Merges xs ys zs → IsRising xs → IsRising ys → IsRising zs
rising _ _ _ done up down = tt
rising _ _ _ (first {a} {xs} {ys} {zs} before rest) up down =
    (up.0, (before_merged a.set xs ys zs rest up.1.0 (first_before a.set ys before down), rising xs ys zs rest up.1.1 down))
rising _ _ _ (second {b} {xs} {ys} {zs} before rest) up down =
    (down.0, (before_merged b.set xs ys zs rest (first_before b.set xs before up) down.1.0, rising xs ys zs rest up down.1.1))
rising _ _ _ (both {a} {b} {xs} {ys} {zs} same rest) up down =
    (up.0, (before_merged a.set xs ys zs rest up.1.0 (subst_before (sym same) down.1.0), rising xs ys zs rest up.1.1 down.1.1))
  where
    subst_before : b.set ≡ a.set → IsBeforeAll b.set ys → IsBeforeAll a.set ys
    subst_before e below = subst (λ (set : Option (List ℕ)). IsBeforeAll set ys) e below

pub merged_together : (xs ys zs : List Point) → Merges xs ys zs → IsRising xs → IsRising ys → ArePutTogether xs ys zs
merged_together xs ys zs merged up down = record { each = each xs ys zs merged up down; rising = rising xs ys zs merged up down }

-- ---- points that can be joined, without the first of either

rising_rest : (taken : Bool) (xs : List Point) → IsRising xs → IsRising (rest_of taken xs)
rising_rest true [] up = up
rising_rest true (x ∷ xs) up = up.1.1
rising_rest false [] up = up
rising_rest false (x ∷ xs) up = up

all_rest : (P : Point → Type 0) (taken : Bool) (xs : List Point) → All P xs → All P (rest_of taken xs)
all_rest P true [] all = all
all_rest P true (x ∷ xs) all = All-tail P x xs all
all_rest P false [] all = all
all_rest P false (x ∷ xs) all = all

pub can_rest : (f g : Bool) (xs ys : List Point) → CanJoin xs ys → CanJoin (rest_of f xs) (rest_of g ys)
can_rest f g xs ys can = record {
  first = rising_rest f xs can.first;
  second = rising_rest g ys can.second;
  fit = all_rest (λ (a : Point). All (λ (b : Point). a.set ≡ b.set → IsValueInRange (joined a.value b.value)) (rest_of g ys)) f xs
      (All-weaker (λ (a : Point). All (λ (b : Point). a.set ≡ b.set → IsValueInRange (joined a.value b.value)) ys)
      (λ (a : Point). All (λ (b : Point). a.set ≡ b.set → IsValueInRange (joined a.value b.value)) (rest_of g ys))
      (λ a all. all_rest (λ (b : Point). a.set ≡ b.set → IsValueInRange (joined a.value b.value)) g ys all) xs can.fit);
}

-- ---- the order of set keys

less_before : (a b : Option (List ℕ)) → set_order a b ≡ Less → IsBefore a b
less_before None b e = absurd cc
less_before (Some a) None e = absurd cc
less_before (Some a) (Some b) e = e

greater_before : (a b : Option (List ℕ)) → set_order a b ≡ Greater → IsBefore b a
greater_before None b e = absurd cc
greater_before (Some a) None e = absurd cc
greater_before (Some a) (Some b) e = nat_list_cmp_total.antisymm b a ∙ ap ordering_reverse e

pub equal_same : (a b : Option (List ℕ)) → HasSet a → HasSet b → set_order a b ≡ Equal → a ≡ b
equal_same None b p q e = absurd p
equal_same (Some a) None p q e = absurd q
equal_same (Some a) (Some b) p q e = ap Some (exact_bytes a b e)

-- ---- the next point, where these are the first of either

pub firsts_fit : (left right : List Point) (a b : Point) → CanJoin left right → 1 ≤ length left → a ≡ get_or left 0 a → 1 ≤ length right → b ≡ get_or right 0 b
    → set_order a.set b.set ≡ Equal → IsValueInRange (joined a.value b.value)
firsts_fit [] right a b can some is more be e = absurd (omega arith)
firsts_fit (x ∷ xs) [] a b can some is more be e = absurd (omega arith)
firsts_fit (x ∷ xs) (y ∷ ys) a b can some is more be e =
    subst (λ (p : Point). IsValueInRange (joined p.value b.value)) (sym is)
    (subst (λ (p : Point). IsValueInRange (joined x.value p.value)) (sym be)
    (can.fit 0 x (omega arith) 0 y (omega arith)
    (equal_same x.set y.set can.first.0 can.second.0
    (sym (ap (λ (p : Point). set_order p.set b.set) is ∙ ap (λ (q : Point). set_order x.set q.set) be) ∙ e))))

pub next_less : (left right : List Point) (a b : Point) → 1 ≤ length left → a ≡ get_or left 0 a → 1 ≤ length right → b ≡ get_or right 0 b
    → set_order a.set b.set ≡ Less → IsNext left right (next_of a true false)
next_less [] right a b some is more be e = absurd (omega arith)
next_less (x ∷ xs) [] a b some is more be e = absurd (omega arith)
next_less (x ∷ xs) (y ∷ ys) a b some is more be e =
    subst (λ (p : Point). IsNext (x ∷ xs) (y ∷ ys) (next_of p true false)) (sym is) (record {
      fewer = omega arith;
      goes_on = λ rest merged.
          first (less_before x.set y.set (sym (ap (λ (p : Point). set_order p.set b.set) is ∙ ap (λ (q : Point). set_order x.set q.set) be) ∙ e)) merged;
    })

pub next_greater : (left right : List Point) (a b : Point) → 1 ≤ length left → a ≡ get_or left 0 a → 1 ≤ length right → b ≡ get_or right 0 b
    → set_order a.set b.set ≡ Greater → IsNext left right (next_of b false true)
next_greater [] right a b some is more be e = absurd (omega arith)
next_greater (x ∷ xs) [] a b some is more be e = absurd (omega arith)
next_greater (x ∷ xs) (y ∷ ys) a b some is more be e =
    subst (λ (p : Point). IsNext (x ∷ xs) (y ∷ ys) (next_of p false true)) (sym be) (record {
      fewer = omega arith;
      goes_on = λ rest merged.
          second (greater_before x.set y.set (sym (ap (λ (p : Point). set_order p.set b.set) is ∙ ap (λ (q : Point). set_order x.set q.set) be) ∙ e)) merged;
    })

pub next_equal : (left right : List Point) (a b : Point) → CanJoin left right → 1 ≤ length left → a ≡ get_or left 0 a → 1 ≤ length right → b ≡ get_or right 0 b
    → set_order a.set b.set ≡ Equal → IsNext left right (next_of (joined_point a b) true true)
next_equal [] right a b can some is more be e = absurd (omega arith)
next_equal (x ∷ xs) [] a b can some is more be e = absurd (omega arith)
next_equal (x ∷ xs) (y ∷ ys) a b can some is more be e =
    subst (λ (p : Point). IsNext (x ∷ xs) (y ∷ ys) (next_of (joined_point p b) true true)) (sym is)
    (subst (λ (q : Point). IsNext (x ∷ xs) (y ∷ ys) (next_of (joined_point x q) true true)) (sym be) (record {
      fewer = omega arith;
      goes_on = λ rest merged.
          both
          (equal_same x.set y.set can.first.0 can.second.0
          (sym (ap (λ (p : Point). set_order p.set b.set) is ∙ ap (λ (q : Point). set_order x.set q.set) be) ∙ e)) merged;
    }))

pub next_of_first : (left right : List Point) (a : Point) → 1 ≤ length left → a ≡ get_or left 0 a → length right < 1 → IsNext left right (next_of a true false)
next_of_first [] right a some is few = absurd (omega arith)
next_of_first (x ∷ xs) (y ∷ ys) a some is few = absurd (omega arith)
next_of_first (x ∷ xs) [] a some is few =
    subst (λ (p : Point). IsNext (x ∷ xs) [] (next_of p true false)) (sym is)
    (record { fewer = omega arith; goes_on = λ rest merged. first tt merged })

pub next_of_second : (left right : List Point) (b : Point) → length left < 1 → 0 < length left + length right → b ≡ get_or right 0 b → IsNext left right (next_of b false true)
next_of_second (x ∷ xs) right b few some be = absurd (omega arith)
next_of_second [] [] b few some be = absurd (omega arith)
next_of_second [] (y ∷ ys) b few some be =
    subst (λ (p : Point). IsNext [] (y ∷ ys) (next_of p false true)) (sym be)
    (record { fewer = omega arith; goes_on = λ rest merged. second tt merged })

-- ---- all points

-- one point more
pub goes_more : (a b left right all new : List Point) (next : Next) → ((rest : List Point) → Merges left right rest → Merges a b (all ++ rest))
    → IsNext left right next → new ≡ all ++ next.point ∷ []
    → (rest : List Point) → Merges (rest_of next.is_of_first left) (rest_of next.is_of_second right) rest → Merges a b (new ++ rest)
goes_more a b left right all new next so_far is push rest merged =
    subst (Merges a b) (sym (ap (λ (ps : List Point). ps ++ rest) push ∙ append_assoc all (next.point ∷ []) rest))
    (so_far (next.point ∷ rest) (is.goes_on rest merged))

-- none is left
pub all_merged : (a b left right all : List Point) → CanJoin a b → ((rest : List Point) → Merges left right rest → Merges a b (all ++ rest))
    → length left ≡ 0 → length right ≡ 0 → ArePutTogether a b all
all_merged a b [] [] all can so_far none_left none_right =
    merged_together a b all (subst (Merges a b) (append-nil all) (so_far [] done)) can.first can.second
all_merged a b (x ∷ xs) right all can so_far none_left none_right = absurd (omega arith)
all_merged a b [] (y ∷ ys) all can so_far none_left none_right = absurd (omega arith)

-- stream by stream
pub streams_all : (a b left right all : List StreamPoints) → CanJoinStreams left right → ((rest : List StreamPoints) → AreStreamsTogether left right rest → AreStreamsTogether a b (all ++ rest))
    → length left < 1 → AreStreamsTogether a b all
streams_all a b (s ∷ left) right all can so_far few = absurd (omega arith)
streams_all a b [] [] all can so_far few = subst (AreStreamsTogether a b) (append-nil all) (so_far [] tt)
streams_all a b [] (s ∷ right) all can so_far few = absurd can

-- what is answered where it is this point
pub answered : (left right : List Point) (own : Next) (result : Result Next AllocError) → IfOk result (λ next. next ≡ own) → IsNext left right own
    → IfOk result (λ next. IsNext left right next)
answered left right own (Ok next) is named = subst (IsNext left right) (sym is) named
answered left right own (Err e) is named = tt
