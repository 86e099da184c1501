-- What follows from the definitions of a certificate's check alone.
use Rattle.std.specs.Prelude.{◌≡◌, ◌↔◌, Option, None}
use Rattle.metric_catalogue.specs.Sound.{IsSound}
use Rattle.metric_contents.specs.declared.contents.Contents.{Contents}
use Rattle.metric_views.specs.declared.config.Config.{Config}
use Rattle.metric_bounds.specs.Safe.{IsSafe}
use Rattle.metric_cert.specs.declared.claims.Claims.{Claims}
use Rattle.metric_cert.specs.Valid.{IsValid}
use Rattle.metric_check.specs.declared.fault.ClaimFault.{ClaimFault}
use Rattle.metric_check.specs.Findings.{CheckFinds}

-- No fault is found exactly where the certificate is valid.
abbrev pub FindsNothingWhereValid : Type 0
FindsNothingWhereValid =
    (contents : Contents) (config : Config) (certificate : Claims)
    → CheckFinds contents config certificate None ↔ IsValid contents config certificate

-- Which fault is found, or that none is, has one answer only.
abbrev pub FindsOne : Type 0
FindsOne =
    (contents : Contents) (config : Config) (certificate : Claims) (found other : Option ClaimFault)
    → CheckFinds contents config certificate found
    → CheckFinds contents config certificate other → found ≡ other

-- What has a valid certificate can overflow neither a limit nor a number.
abbrev pub ValidIsSafe : Type 0
ValidIsSafe =
    (contents : Contents) (config : Config) (certificate : Claims) → IsSound contents
    → IsValid contents config certificate → IsSafe contents config
