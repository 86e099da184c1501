-- What checking a certificate makes of the bytes of its input.
use Rattle.std.specs.Prelude.{◌≡◌, ℕ, true, false, List, codes}
use Rattle.metric_text.specs.Lines.{lines_of}
use Rattle.metric_parts.specs.Input.{IsFirstFault as IsFaultyLine}
use Rattle.metric_parts.specs.Kept.{IsRead}
use Rattle.metric_parts.specs.declared.needs.Needs.{Needs}
use Rattle.metric_parts.specs.declared.parts.Parts.{Parts}
use Rattle.metric_plan.specs.Plans.{PlanValue}
use Rattle.metric_kit_commands.specs.declared.fault.KitFault.{KitFault}
use Rattle.metric_kit_commands.specs.declared.fault.KitFault.TheVariants.{
  Read,
  Input,
  Catalogue,
  Config as BadConfig,
  Certificate as BadCertificate,
  Check,
  Make,
  Audit,
  Finish,
  Write,
  Memory,
}
use Rattle.metric_kit_commands.specs.Claims.{IsCertifiedPlan, IsClaimFault}
use Rattle.metric_kit_commands.specs.Commands.{IsAnswerTo}
use Rattle.metric_kit_commands.specs.Declarations.{IsMisdeclared}

-- the certificate with what it is for
abbrev pub check_needs : Needs
check_needs = record { certificate = true; script = false }

-- The input has a valid certificate for what it declares, and this is the plan that it certifies.
pub record IsCertifiedInput (input : List ℕ) (plan : PlanValue) : Type 0 where
  pub read : Parts
  pub is_read : IsRead check_needs (lines_of input) read
  pub certified : IsCertifiedPlan read plan

-- the line of an accepted certificate
abbrev pub accepted_text : List ℕ
accepted_text = codes "accepted\n"

-- # acceptance (profile) [IsAcceptance, IsAccepted, IsFirstCheckFault]
-- The text `accepted`, where the certificate of an input is valid.
pub record IsAccepted (read : Parts) (text : List ℕ) : Type 0 where
  pub plan : PlanValue
  pub certified : IsCertifiedPlan read plan
  pub written : text ≡ accepted_text

abbrev pub IsAcceptance : List ℕ → List ℕ → Type 0
IsAcceptance = IsAnswerTo check_needs IsAccepted

-- The fault is the first that the input has.
abbrev pub IsFirstCheckFault : List ℕ → KitFault → Type 0
IsFirstCheckFault input (Input line) = IsFaultyLine check_needs (lines_of input) line
IsFirstCheckFault input (Catalogue fault) =
    IsMisdeclared check_needs input (IsClaimFault (Catalogue fault))
IsFirstCheckFault input (BadConfig fault) =
    IsMisdeclared check_needs input (IsClaimFault (BadConfig fault))
IsFirstCheckFault input (BadCertificate fault) =
    IsMisdeclared check_needs input (IsClaimFault (BadCertificate fault))
IsFirstCheckFault input (Check fault) = IsMisdeclared check_needs input (IsClaimFault (Check fault))
IsFirstCheckFault input Memory = Unit {0}
IsFirstCheckFault input _ = ⊥

-- A fault of the parts is the first of the input.
pub check_refused : (input : List ℕ) (read : Parts) (fault : KitFault)
    → IsRead check_needs (lines_of input) read → IsClaimFault fault read
    → IsFirstCheckFault input fault
check_refused input read Read is_read found = found
check_refused input read (Input line) is_read found = absurd found
check_refused input read (Catalogue fault) is_read found =
    record { read = read; is_read = is_read; first = found }
check_refused input read (BadConfig fault) is_read found =
    record { read = read; is_read = is_read; first = found }
check_refused input read (BadCertificate fault) is_read found =
    record { read = read; is_read = is_read; first = found }
check_refused input read (Check fault) is_read found =
    record { read = read; is_read = is_read; first = found }
check_refused input read (Make fault) is_read found = found
check_refused input read (Audit fault) is_read found = found
check_refused input read (Finish fault) is_read found = found
check_refused input read Write is_read found = found
check_refused input read Memory is_read found = tt
