-- The product over the keys that a stream keeps is that over the facts of its instrument's keys.
use Rattle.std.proofs.Common.{◌≡◌, ℕ, ◌*◌, Bool, true, false, List, [], ◌∷◌, map, Some, refl, ap}
use Rattle.std.proofs.Common.{◌∙◌}
use Rattle.std.specs.Prelude.{slice_get}
use Rattle.metric_contents.specs.declared.contents.Contents.{Contents}
use Rattle.metric_contents.specs.declared.contents.Instrument.{Instrument}
use Rattle.metric_contents.specs.declared.contents.Key.{Key}
use Rattle.metric_views.specs.declared.stream.Stream.{Stream}
use Rattle.metric_bounds.specs.Sets.{factor_of, product_of as stream_product, product_over}
use Rattle.metric_bounds.specs.Sets.{product_within}
use Rattle.metric_facts.specs.Facts.{key_facts}
use Rattle.metric_facts.specs.Products.{product_of, radix}

factor_is : (flag : Bool) (key : Key) → factor_of flag key ≡ radix flag (key_facts key)
factor_is true key = refl
factor_is false key = refl

-- the product over keys is that over their facts
product_is : (kept : List Bool) (keys : List Key)
    → product_over kept keys ≡ product_of kept (map key_facts keys)
product_is [] keys = refl
product_is (flag ∷ kept) [] = refl
product_is (flag ∷ kept) (key ∷ keys) =
    ap (λ (n : ℕ). n * product_over kept keys) (factor_is flag key)
    ∙ ap (λ (n : ℕ). radix flag (key_facts key) * n) (product_is kept keys)

pub products_are : (contents : Contents) (s : Stream) (instrument : Instrument)
    → slice_get contents.instruments s.instrument ≡ Some instrument
    → stream_product contents s ≡ product_of s.kept (map key_facts instrument.keys)
unfolding stream_product
products_are contents s instrument at = ap (product_within s) at ∙ product_is s.kept instrument.keys
