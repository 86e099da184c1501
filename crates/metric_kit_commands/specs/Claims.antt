-- What an input claims by its certificate, and what the check of it gives.
use Rattle.std.specs.Prelude.{◌≡◌, true, Some, IsSomeAnd, Ok, Err}
use Rattle.metric_parts.specs.declared.parts.Parts.{Parts}
use Rattle.metric_contents.specs.declared.contents.Contents.{Contents}
use Rattle.metric_views.specs.declared.config.Setup.{Setup}
use Rattle.metric_cert.specs.declared.claims.Claims.{Claims as Certificate}
use Rattle.metric_cert.specs.declared.fault.CertFault.{CertFault}
use Rattle.metric_cert.specs.Certificates.{certificate_from}
use Rattle.metric_cert.specs.Valid.{IsValid}
use Rattle.metric_plan.specs.Plans.{PlanValue, plan_of}
use Rattle.metric_check.specs.declared.fault.ClaimFault.{ClaimFault}
use Rattle.metric_check.specs.Findings.{CheckFinds}
use Rattle.metric_check.specs.Products.{by_product_of}
use Rattle.metric_kit_commands.specs.declared.fault.KitFault.{KitFault}
use Rattle.metric_kit_commands.specs.declared.fault.KitFault.TheVariants.{Certificate as BadCertificate}
use Rattle.metric_kit_commands.specs.declared.fault.KitFault.TheVariants.{Check}
use Rattle.metric_kit_commands.specs.Declarations.{IsDeclared, IsDeclaredFault}

-- # claimed, certified plan (profile) [IsClaimed, IsCertifiedPlan, IsClaimFault]
-- What the parts declare with their certificate; the plan of it where the certificate is valid; the
-- first fault where it is none or not valid.
pub record IsClaimed (read : Parts) (contents : Contents) (config : Setup)
    (certificate : Certificate) : Type 0 where
  pub declared : IsDeclared read contents config
  pub is_certificate : IsSomeAnd read.certificate (λ text. certificate_from text ≡ Ok certificate)

-- The certificate of the parts is valid, and this is the plan that it certifies.
pub record IsCertifiedPlan (read : Parts) (plan : PlanValue) : Type 0 where
  pub contents : Contents
  pub config : Setup
  pub certificate : Certificate
  pub claimed : IsClaimed read contents config certificate
  pub valid : IsValid contents config certificate
  pub planned : plan ≡ plan_of true (by_product_of certificate) contents config

-- The catalogue and the config are right, and the certificate has this first fault.
pub record IsFaultyCertificate (read : Parts) (fault : CertFault) : Type 0 where
  pub contents : Contents
  pub config : Setup
  pub declared : IsDeclared read contents config
  pub first : IsSomeAnd read.certificate (λ text. certificate_from text ≡ Err fault)

-- The parts are right, and this is the first fault that the certificate's check finds.
pub record IsRefusedCheck (read : Parts) (fault : ClaimFault) : Type 0 where
  pub contents : Contents
  pub config : Setup
  pub certificate : Certificate
  pub claimed : IsClaimed read contents config certificate
  pub found : CheckFinds contents config certificate (Some fault)

-- The fault is the first of the catalogue, the config, the certificate and its check.
abbrev pub IsClaimFault : KitFault → Parts → Type 0
IsClaimFault (BadCertificate fault) read = IsFaultyCertificate read fault
IsClaimFault (Check fault) read = IsRefusedCheck read fault
IsClaimFault fault read = IsDeclaredFault fault read
