-- A stream that a valid certificate has by product is within its limit, whatever is recorded.
use Rattle.std.proofs.Common.{◌≡◌, ℕ, zero, suc, ◌≤◌, IsTrue, List, [], ◌∷◌, subst}
use Rattle.std.specs.List.{AllZip}
use Rattle.std.proofs.lemmas.Option.{same_Some}
use Rattle.metric_contents.specs.declared.contents.Contents.{Contents}
use Rattle.metric_views.specs.declared.stream.Stream.{Stream}
use Rattle.metric_bounds.specs.Sets.{product_of}
use Rattle.metric_cert.specs.declared.stream.By.{By}
use Rattle.metric_cert.specs.declared.stream.By.TheVariants as by
use Rattle.metric_cert.specs.declared.stream.StreamSets.{StreamSets}
use Rattle.metric_cert.specs.Valid.{IsEntryOf, bound_by}
use Rattle.metric_plan.specs.Plans.{ProductsFit}
use Rattle.metric_check.specs.Products.{entry_flags, is_product}

bounded_by : (contents : Contents) (s : Stream) (bound : By) (sets : ℕ) → sets ≡ bound_by contents s bound → sets ≤ s.limit → IsTrue (is_product bound) → product_of contents s ≤ s.limit
bounded_by contents s by.Product sets is few flagged = subst (λ (n : ℕ). n ≤ s.limit) is few
bounded_by contents s (by.List list) sets is few flagged = absurd cc
bounded_by contents s by.Budget sets is few flagged = absurd cc

pub products_within : (contents : Contents) (streams : List Stream) (entries : List StreamSets) → AllZip (IsEntryOf contents) streams entries
    → ProductsFit contents (entry_flags entries) streams
products_within contents [] [] zip number s at flagged = absurd cc
products_within contents [] (entry ∷ entries) zip number s at flagged = absurd zip
products_within contents (stream ∷ streams) [] zip number s at flagged = absurd zip
products_within contents (stream ∷ streams) (entry ∷ entries) zip zero s at flagged =
    subst (λ (t : Stream). product_of contents t ≤ t.limit) (same_Some stream s at) (bounded_by contents stream entry.by entry.sets zip.0.sets zip.0.limited flagged)
products_within contents (stream ∷ streams) (entry ∷ entries) zip (suc number) s at flagged =
    products_within contents streams entries zip.1 number s at flagged
