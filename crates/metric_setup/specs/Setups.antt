-- What texts come to: a certified plan, or why none.
use Rattle.std.specs.Prelude.{◌≡◌, ℕ, Bool, true, false, List, [], map, nat_le}
use Rattle.std.specs.Prelude.{Some, Result, Ok, Err}
use Rattle.metric_catalogue.specs.Catalogues.{catalogue_of, opened_of}
use Rattle.metric_contents.specs.declared.contents.Contents.{Contents}
use Rattle.metric_catalogue.specs.declared.fault.CatalogueFault.{CatalogueFault}
use Rattle.metric_views.specs.Configs.{config_of}
use Rattle.metric_views.specs.declared.config.Setup.{Setup}
use Rattle.metric_views.specs.declared.fault.ViewFault.{ViewFault}
use Rattle.metric_views.specs.declared.stream.Stream.{Stream}
use Rattle.metric_resolve.specs.Resolved.{streams_of}
use Rattle.metric_bounds.specs.Safe.{IsSafe}
use Rattle.metric_bounds.specs.Sets.{product_of}
use Rattle.metric_cert.specs.Certificates.{certificate_from}
use Rattle.metric_make.specs.Finding.{UnsafeFinds}
use Rattle.metric_make.specs.Making.{IsMade}
use Rattle.metric_cert.specs.Valid.{IsValid}
use Rattle.metric_cert.specs.declared.claims.Claims.{Claims as Certificate}
use Rattle.metric_cert.specs.declared.fault.CertFault.{CertFault}
use Rattle.metric_make.specs.declared.fault.MakeFault.{MakeFault}
use Rattle.metric_check.specs.Findings.{CheckFinds, of_none}
use Rattle.metric_check.specs.Products.{by_product_of}
use Rattle.metric_plan.specs.Counting.{is_counted}
use Rattle.metric_plan.specs.Plans.{PlanValue, plan_of}
use Rattle.metric_plan.specs.declared.fault.CheckFault.TheVariants.{CountRange}
use Rattle.metric_check.specs.declared.fault.ClaimFault.{ClaimFault}
use Rattle.metric_setup.specs.declared.fault.SetupFault.{SetupFault}
use Rattle.metric_setup.specs.declared.fault.SetupFault.TheVariants.{Catalogue, Config, Unsafe}
use Rattle.metric_setup.specs.declared.fault.SetupFault.TheVariants.{Certificate as BadCertificate}
use Rattle.metric_setup.specs.declared.fault.SetupFault.TheVariants.{Check, Memory}

-- The catalogue that was read and the config are these.
pub record IsDeclared (read : Result Contents CatalogueFault) (config : List ℕ)
    (contents : Contents) (setup : Setup) : Type 0 where
  pub is_catalogue : read ≡ Ok contents
  pub is_config : config_of config ≡ Ok setup

-- whether each stream is by product: it is wherever the product over the keys
-- that it keeps is within its limit
abbrev pub bounded_flags : Contents → List Stream → List Bool
bounded_flags contents streams = map (λ s. nat_le (product_of contents s) s.limit) streams

-- # certified plan of two texts (profile)
-- The plan of the catalogue and the config that the texts are, where they are safe together.
pub record IsCertifiedPlan (catalogue config : List ℕ) (plan : PlanValue) : Type 0 where
  pub contents : Contents
  pub setup : Setup
  pub declared : IsDeclared (opened_of catalogue) config contents setup
  pub safe : IsSafe contents setup
  pub planned : plan
      ≡ plan_of true (bounded_flags contents (streams_of contents setup)) contents setup

-- The catalogue is right, and the config has this first fault.
pub record IsFaultyConfig (read : Result Contents CatalogueFault) (config : List ℕ)
    (fault : ViewFault) : Type 0 where
  pub contents : Contents
  pub is_catalogue : read ≡ Ok contents
  pub first : config_of config ≡ Err fault

-- This is the first part of safety that fails.
abbrev pub IsUnsafe : Contents → Setup → MakeFault → Type 0
IsUnsafe contents setup fault = UnsafeFinds contents setup (Some fault)

-- The catalogue and the config are right, and not safe together.
pub record IsUnsafeSetup (read : Result Contents CatalogueFault) (config : List ℕ)
    (fault : MakeFault) : Type 0 where
  pub contents : Contents
  pub setup : Setup
  pub declared : IsDeclared read config contents setup
  pub found : IsUnsafe contents setup fault

-- # first fault of two texts (profile)
-- Of the catalogue, then of the config, then the first part of safety that fails.
abbrev pub IsFirstFault : SetupFault → List ℕ → List ℕ → Type 0
IsFirstFault (Catalogue fault) catalogue config = opened_of catalogue ≡ Err fault
IsFirstFault (Config fault) catalogue config = IsFaultyConfig (opened_of catalogue) config fault
IsFirstFault (Unsafe fault) catalogue config = IsUnsafeSetup (opened_of catalogue) config fault
IsFirstFault Memory catalogue config = Unit {0}
IsFirstFault _ catalogue config = ⊥

-- what a text of a catalogue is read as, or is opened as where it may be of format 3
abbrev pub read_or_opened : Bool → List ℕ → Result Contents CatalogueFault
read_or_opened true text = opened_of text
read_or_opened false text = catalogue_of text

-- a catalogue, or its first fault, unless memory ran out
abbrev pub ReadsCatalogue : Result Contents SetupFault → Result Contents CatalogueFault → Type 0
ReadsCatalogue (Ok contents) read = read ≡ Ok contents
ReadsCatalogue (Err (Catalogue fault)) read = read ≡ Err fault
ReadsCatalogue (Err Memory) read = Unit {0}
ReadsCatalogue (Err _) read = ⊥

-- a config, or its first fault, unless memory ran out
abbrev pub ReadsConfig : Result Setup SetupFault → Result Setup ViewFault → Type 0
ReadsConfig (Ok setup) read = read ≡ Ok setup
ReadsConfig (Err (Config fault)) read = read ≡ Err fault
ReadsConfig (Err Memory) read = Unit {0}
ReadsConfig (Err _) read = ⊥

-- The certificate is the one that is made for a catalogue and a config, and shows that they are
-- safe, which they are.
pub record Certifies (contents : Contents) (setup : Setup) (certificate : Certificate)
    : Type 0 where
  pub safe : IsSafe contents setup
  pub valid : IsValid contents setup certificate
  pub made : IsMade contents setup certificate

-- a certificate, or the first part of safety that fails, unless memory ran out
abbrev pub Makes : Result Certificate SetupFault → Contents → Setup → Type 0
Makes (Ok certificate) contents setup = Certifies contents setup certificate
Makes (Err (Unsafe fault)) contents setup = IsUnsafe contents setup fault
Makes (Err Memory) contents setup = Unit {0}
Makes (Err _) contents setup = ⊥

-- the plan of a certificate, unless memory ran out
abbrev pub Plans : Result PlanValue SetupFault → Contents → Setup → Certificate → Type 0
Plans (Ok plan) contents setup certificate =
    plan ≡ plan_of true (by_product_of certificate) contents setup
Plans (Err Memory) contents setup certificate = Unit {0}
Plans (Err _) contents setup certificate = ⊥

-- ---- a certificate that somebody else made

-- The texts are this catalogue, this config and this certificate.
pub record IsClaimed (catalogue config certificate : List ℕ) (contents : Contents) (setup : Setup)
    (claims : Certificate) : Type 0 where
  pub declared : IsDeclared (opened_of catalogue) config contents setup
  pub is_certificate : certificate_from certificate ≡ Ok claims

-- # plan of three texts (profile)
-- The plan that a certificate certifies, where the texts are a catalogue, a config and a
-- certificate that is valid for them.
pub record IsVouchedPlan (catalogue config certificate : List ℕ) (plan : PlanValue) : Type 0 where
  pub contents : Contents
  pub setup : Setup
  pub claims : Certificate
  pub claimed : IsClaimed catalogue config certificate contents setup claims
  pub valid : IsValid contents setup claims
  pub planned : plan ≡ plan_of true (by_product_of claims) contents setup

-- The catalogue and the config are right, and the certificate has this first fault.
pub record IsFaultyCertificate (catalogue config certificate : List ℕ) (fault : CertFault)
    : Type 0 where
  pub contents : Contents
  pub setup : Setup
  pub declared : IsDeclared (opened_of catalogue) config contents setup
  pub first : certificate_from certificate ≡ Err fault

-- The texts are right, and this is the first fault that the certificate's check finds, with the
-- entry that it is of.
pub record IsRefusedCheck (catalogue config certificate : List ℕ) (fault : ClaimFault)
    : Type 0 where
  pub contents : Contents
  pub setup : Setup
  pub claims : Certificate
  pub claimed : IsClaimed catalogue config certificate contents setup claims
  pub found : CheckFinds contents setup claims (Some fault)

-- # first fault of three texts (profile)
-- Of the catalogue, then of the config, then of the certificate, then the first that its check
-- finds.
abbrev pub IsFirstClaimFault : SetupFault → List ℕ → List ℕ → List ℕ → Type 0
IsFirstClaimFault (Catalogue fault) catalogue config certificate =
    opened_of catalogue ≡ Err fault
IsFirstClaimFault (Config fault) catalogue config certificate =
    IsFaultyConfig (opened_of catalogue) config fault
IsFirstClaimFault (BadCertificate fault) catalogue config certificate =
    IsFaultyCertificate catalogue config certificate fault
IsFirstClaimFault (Check fault) catalogue config certificate =
    IsRefusedCheck catalogue config certificate fault
IsFirstClaimFault Memory catalogue config certificate = Unit {0}
IsFirstClaimFault _ catalogue config certificate = ⊥

-- a certificate, or its first fault, unless memory ran out
abbrev pub ReadsCertificate : Result Certificate SetupFault → Result Certificate CertFault → Type 0
ReadsCertificate (Ok certificate) read = read ≡ Ok certificate
ReadsCertificate (Err (BadCertificate fault)) read = read ≡ Err fault
ReadsCertificate (Err Memory) read = Unit {0}
ReadsCertificate (Err _) read = ⊥

-- the plan that a certificate shows to be safe, or the first fault that its check finds, unless
-- memory ran out
abbrev pub Vouches : Result PlanValue SetupFault → Contents → Setup → Certificate → Type 0
Vouches (Ok plan) contents setup certificate =
    IsValid contents setup certificate
    × (plan ≡ plan_of true (by_product_of certificate) contents setup)
Vouches (Err (Check fault)) contents setup certificate =
    CheckFinds contents setup certificate (Some fault)
Vouches (Err Memory) contents setup certificate = Unit {0}
Vouches (Err _) contents setup certificate = ⊥

-- ---- no certificate

-- # plan of a trial (profile)
-- The plan of a catalogue and a config without a certificate, where the budgets can be counted.
abbrev pub Tries : Result PlanValue SetupFault → Contents → Setup → Type 0
Tries (Ok plan) contents setup =
    (is_counted contents ≡ true) × (plan ≡ plan_of false [] contents setup)
Tries (Err (Check refused)) contents setup =
    (refused ≡ of_none CountRange) × (is_counted contents ≡ false)
Tries (Err Memory) contents setup = Unit {0}
Tries (Err _) contents setup = ⊥
