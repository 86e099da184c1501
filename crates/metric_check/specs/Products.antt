-- Of which streams a certificate says that they are by product.
use Rattle.std.specs.Prelude.{Bool, true, false, List, map}
use Rattle.metric_cert.specs.declared.claims.Claims.{Claims}
use Rattle.metric_cert.specs.declared.stream.By.{By}
use Rattle.metric_cert.specs.declared.stream.By.TheVariants as by
use Rattle.metric_cert.specs.declared.stream.StreamSets.{StreamSets}

abbrev pub is_product : By → Bool
is_product by.Product = true
is_product (by.List list) = false
is_product by.Budget = false

-- whether each entry is by product, in order
abbrev pub entry_flags : List StreamSets → List Bool
entry_flags entries = map (λ entry. is_product entry.by) entries

abbrev pub by_product_of : Claims → List Bool
by_product_of certificate = entry_flags certificate.streams
