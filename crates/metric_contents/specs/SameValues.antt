-- Values that are the same are equal.
use Rattle.std.proofs.Common.{◌≡◌, true, false, refl, ap, Decides}
use Rattle.std.proofs.lemmas.Bool.Decides.{Decides-int_eq}
use Rattle.std.proofs.lemmas.Slice.Eq.{bytes_eq-Decides}
use Rattle.metric_names.specs.declared.value.AttrValue.{AttrValue}
use Rattle.metric_names.specs.declared.value.AttrValue.TheVariants.{Text, Whole, Flag}
use Rattle.metric_contents.specs.Places.{same_value}

-- two values are the same exactly where they are equal
pub same_value-Decides : (x y : AttrValue) → Decides (same_value x y) (x ≡ y)
same_value-Decides (Text a) (Text b) = (
  λ e. ap Text ((bytes_eq-Decides a b).0 e),
  λ e.
      (bytes_eq-Decides a b).1 cc,
)
same_value-Decides (Whole a) (Whole b) = (
  λ e. ap Whole ((Decides-int_eq a b).0 e),
  λ e.
      (Decides-int_eq a b).1 cc,
)
same_value-Decides (Flag true) (Flag true) = (λ e. refl, λ e. refl)
same_value-Decides (Flag false) (Flag false) = (λ e. refl, λ e. refl)
same_value-Decides (Flag true) (Flag false) = (λ e. absurd cc, λ e. absurd cc)
same_value-Decides (Flag false) (Flag true) = (λ e. absurd cc, λ e. absurd cc)
same_value-Decides (Text a) (Whole b) = (λ e. absurd cc, λ e. absurd cc)
same_value-Decides (Text a) (Flag b) = (λ e. absurd cc, λ e. absurd cc)
same_value-Decides (Whole a) (Text b) = (λ e. absurd cc, λ e. absurd cc)
same_value-Decides (Whole a) (Flag b) = (λ e. absurd cc, λ e. absurd cc)
same_value-Decides (Flag a) (Text b) = (λ e. absurd cc, λ e. absurd cc)
same_value-Decides (Flag a) (Whole b) = (λ e. absurd cc, λ e. absurd cc)
