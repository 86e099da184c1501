-- What holds of each stream of an instrument holds of its numbered streams.
use Rattle.std.proofs.Common.{◌≡◌, ℕ, zero, suc, ◌+◌, Bool, true, false, cond, List, [], ◌∷◌, All}
use Rattle.std.proofs.Common.{Some, refl, subst, arith}
use Rattle.std.specs.Prelude.{slice_get, ◌==◌}
use Rattle.std.proofs.lemmas.Bool.{eqb-true}
use Rattle.std.proofs.lemmas.List.Elements.{All-nil, All-cons, All-append}
use Rattle.metric_views.specs.declared.stream.Stream.{Stream}
use Rattle.metric_facts.specs.declared.facts.NumberedStream.{NumberedStream}
use Rattle.metric_facts.specs.Facts.{is_by_product, numbered, numbered_from}

-- a stream with this number and the flag of it
abbrev pub with_number : List Bool → ℕ → Stream → NumberedStream
with_number flags number s =
    record { number = number; by_product = is_by_product flags number; stream = s }

-- It holds of each stream of the instrument, with its number and its flag,
-- where the first has this number.
abbrev pub OfEach : (NumberedStream → Type 0) → List Bool → ℕ → ℕ → List Stream → Type 0
OfEach P flags instrument first streams =
    (k : ℕ) (s : Stream) → slice_get streams k ≡ Some s → s.instrument ≡ instrument
    → P (with_number flags (first + k) s)

pub all_numbered : (P : NumberedStream → Type 0) (flags : List Bool) (instrument first : ℕ)
    (streams : List Stream) → OfEach P flags instrument first streams
    → All P (numbered_from flags instrument first streams)
all_numbered P flags instrument first [] each = All-nil P
all_numbered P flags instrument first (s ∷ streams) each =
    All-append P (numbered instrument first (is_by_product flags first) s)
    (numbered_from flags instrument (first + 1) streams)
    (here (s.instrument == instrument) refl)
    (all_numbered P flags instrument (first + 1) streams
    (λ k t at of. subst (λ (n : ℕ). P (with_number flags n t)) (next k) (each (suc k) t at of)))
  where
    next : (k : ℕ) → first + suc k ≡ first + 1 + k
    next k = omega arith

    start : first + 0 ≡ first
    start = omega arith

    here : (b : Bool) → (s.instrument == instrument) ≡ b
        → All P (cond b (with_number flags first s ∷ []) [])
    here true e =
        All-cons P (with_number flags first s) [] (subst (λ (n : ℕ). P (with_number flags n s))
        start (each zero s refl (eqb-true s.instrument instrument e))) (All-nil P)
    here false e = All-nil P
