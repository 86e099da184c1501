-- The certificate that is made is by product wherever it can, and so is the plan of it.
use Rattle.std.proofs.Common.{◌≡◌, ℕ, Bool, true, false, cond, List, [], ◌∷◌, length, map, nat_le, Option, Some, None, Result, Ok, Err, IfOk, refl, ap, ◌∙◌}
use Rattle.std.specs.Prelude.{unwrap_or}
use Rattle.metric_contents.specs.declared.contents.Contents.{Contents}
use Rattle.metric_catalogue.specs.Catalogues.{opened_of}
use Rattle.metric_views.specs.declared.config.Setup.{Setup}
use Rattle.metric_views.specs.declared.stream.Stream.{Stream}
use Rattle.metric_resolve.specs.Resolved.{streams_of}
use Rattle.metric_bounds.specs.Amounts.{total_of}
use Rattle.metric_bounds.specs.Sets.{listed_of, product_of}
use Rattle.metric_make.specs.Making.{entry_by_list, entry_of, entry_past, entry_with}
use Rattle.metric_cert.specs.declared.claims.Claims.{Claims as Certificate}
use Rattle.metric_cert.specs.declared.stream.By.TheVariants as by
use Rattle.metric_cert.specs.declared.stream.StreamSets.{StreamSets}
use Rattle.metric_check.specs.Products.{entry_flags, is_product}
use Rattle.metric_plan.specs.Plans.{PlanValue, plan_of}
use Rattle.metric_setup.specs.declared.fault.SetupFault.{SetupFault}
use Rattle.metric_setup.specs.Setups.{Certifies, IsCertifiedPlan, IsDeclared, Plans, bounded_flags}

-- no stream past its product is by it
past_flag : (contents : Contents) (s : Stream) → is_product (entry_past contents s).by ≡ false
past_flag contents s = of (listed_of contents s)
  where
    budget : StreamSets
    budget = entry_with s by.Budget (total_of contents s.instrument)

    listed : (list : List (List ℕ)) (b : Bool) → is_product (unwrap_or (cond b (Some (entry_with s (by.List list) (length list))) None) budget).by ≡ false
    listed list true = refl
    listed list false = refl

    of : (list : Option (List (List ℕ))) → is_product (unwrap_or (entry_by_list s list) budget).by ≡ false
    of None = refl
    of (Some list) = listed list (nat_le (length list) s.limit)

entry_flag : (contents : Contents) (s : Stream) → is_product (entry_of contents s).by ≡ nat_le (product_of contents s) s.limit
entry_flag contents s = of (nat_le (product_of contents s) s.limit)
  where
    of : (b : Bool) → is_product (cond b (entry_with s by.Product (product_of contents s)) (entry_past contents s)).by ≡ b
    of true = refl
    of false = past_flag contents s

pub made_flags : (contents : Contents) (streams : List Stream) → entry_flags (map (entry_of contents) streams) ≡ bounded_flags contents streams
made_flags contents [] = refl
made_flags contents (s ∷ streams) =
    ap (λ (b : Bool). b ∷ entry_flags (map (entry_of contents) streams)) (entry_flag contents s)
    ∙ ap (λ (rest : List Bool). nat_le (product_of contents s) s.limit ∷ rest) (made_flags contents streams)

pub made_plan : (catalogue config : List ℕ) (contents : Contents) (setup : Setup) (certificate : Certificate) (planned : Result PlanValue SetupFault)
    → IsDeclared (opened_of catalogue) config contents setup → Certifies contents setup certificate → Plans planned contents setup certificate
    → IfOk planned (IsCertifiedPlan catalogue config)
made_plan catalogue config contents setup certificate (Ok plan) declared made p = record {
  contents = contents;
  setup = setup;
  declared = declared;
  safe = made.safe;
  planned = p ∙ ap (λ (flags : List Bool). plan_of true flags contents setup) (ap entry_flags made.made.entries ∙ made_flags contents (streams_of contents setup));
}
made_plan catalogue config contents setup certificate (Err fault) declared made p = tt
