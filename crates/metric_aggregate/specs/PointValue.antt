-- When two point values are the same.
use Rattle.std.proofs.Common.{◌≡◌, ℤ, Bool, false, ◌&&◌, Option, Some, None, refl, ap}
use Rattle.std.specs.Prelude.{◌==◌}
use Rattle.std.specs.Bool.{Decides}
use Rattle.std.specs.Cmp.{IsPartialEquivalence, partial_equiv_from_equiv, decided}
use Rattle.std.specs.Cmp.Lexicographic.{pointwise}
use Rattle.std.specs.Option.{option_eq}
use Rattle.std.specs.Ordering.{int_eq}
use Rattle.std.proofs.lemmas.Bool.{false≢true}
use Rattle.std.proofs.lemmas.Bool.Decides.{Decides-eqb, Decides-int_eq, Decides-and, Decides-like}
use Rattle.std.proofs.lemmas.Slice.Eq.{slice_eq-Decides}
use Rattle.metric_aggregate.specs.declared.point_value.PointValue.{PointValue}
use Rattle.metric_aggregate.specs.declared.point_value.PointValue.TheVariants.{Sum, Last, Buckets}

abbrev pub point_value_eq : PointValue → PointValue → Bool
point_value_eq (Sum a) (Sum b) = int_eq a b
point_value_eq (Sum a) (Last b) = false
point_value_eq (Sum a) (Buckets n ns s l g) = false
point_value_eq (Last a) (Sum b) = false
point_value_eq (Last a) (Last b) = int_eq a b
point_value_eq (Last a) (Buckets n ns s l g) = false
point_value_eq (Buckets m ms r k f) (Sum b) = false
point_value_eq (Buckets m ms r k f) (Last b) = false
point_value_eq (Buckets m ms r k f) (Buckets n ns s l g) =
    (m == n) && (pointwise ◌==◌ ms ns && (option_eq int_eq r s && (int_eq k l && int_eq f g)))

never : {P : Type 0} → (P → ⊥) → Decides false P
never different = (λ e. absurd (false≢true e), λ p. absurd (different p))

option_int_eq-Decides : (a b : Option ℤ) → Decides (option_eq int_eq a b) (a ≡ b)
option_int_eq-Decides None None = (λ _. refl, λ _. refl)
option_int_eq-Decides None (Some y) = never (λ e. cc)
option_int_eq-Decides (Some x) None = never (λ e. cc)
option_int_eq-Decides (Some x) (Some y) =
    Decides-like (int_eq x y) (ap Some) (λ e. cc) (Decides-int_eq x y)

pub point_value_eq-Decides : (a b : PointValue) → Decides (point_value_eq a b) (a ≡ b)
point_value_eq-Decides (Sum a) (Sum b) =
    Decides-like (int_eq a b) (ap Sum) (λ e. cc) (Decides-int_eq a b)
point_value_eq-Decides (Sum a) (Last b) = never (λ e. cc)
point_value_eq-Decides (Sum a) (Buckets n ns s l g) = never (λ e. cc)
point_value_eq-Decides (Last a) (Sum b) = never (λ e. cc)
point_value_eq-Decides (Last a) (Last b) =
    Decides-like (int_eq a b) (ap Last) (λ e. cc) (Decides-int_eq a b)
point_value_eq-Decides (Last a) (Buckets n ns s l g) = never (λ e. cc)
point_value_eq-Decides (Buckets m ms r k f) (Sum b) = never (λ e. cc)
point_value_eq-Decides (Buckets m ms r k f) (Last b) = never (λ e. cc)
point_value_eq-Decides (Buckets m ms r k f) (Buckets n ns s l g) =
    Decides-like (point_value_eq (Buckets m ms r k f) (Buckets n ns s l g))
    (λ p i. Buckets (p.0 i) (p.1.0 i) (p.1.1.0 i) (p.1.1.1.0 i) (p.1.1.1.1 i))
    (λ e. (cc, (cc, (cc, (cc, cc)))))
    (Decides-and (m == n)
    (pointwise ◌==◌ ms ns && (option_eq int_eq r s && (int_eq k l && int_eq f g))) (Decides-eqb m n)
    (Decides-and (pointwise ◌==◌ ms ns) (option_eq int_eq r s && (int_eq k l && int_eq f g))
    (slice_eq-Decides Decides-eqb ms ns (pointwise ◌==◌ ms ns) refl)
    (Decides-and (option_eq int_eq r s) (int_eq k l && int_eq f g) (option_int_eq-Decides r s)
    (Decides-and (int_eq k l) (int_eq f g) (Decides-int_eq k l) (Decides-int_eq f g)))))

pub point_value_laws : IsPartialEquivalence point_value_eq
point_value_laws = partial_equiv_from_equiv (decided point_value_eq point_value_eq-Decides)
