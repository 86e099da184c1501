-- The faults of a trial's plan, and of a certified one, are those of a replay's plan.
use Rattle.std.proofs.Common.{◌≡◌, true, false, inl, inr, refl}
use Rattle.metric_parts.specs.declared.parts.Parts.{Parts}
use Rattle.metric_kit_commands.specs.declared.options.ReplayOptions.{ReplayOptions}
use Rattle.metric_kit_commands.specs.declared.fault.KitFault.{KitFault}
use Rattle.metric_kit_commands.specs.declared.fault.KitFault.TheVariants.{Certificate as BadCertificate, Check}
use Rattle.metric_kit_commands.specs.Claims.{IsClaimFault}
use Rattle.metric_kit_commands.specs.Replaying.{IsPlanFault, IsTrialFault}

pub tried_fault : (options : ReplayOptions) (fault : KitFault) (read : Parts) → options.trial ≡ true → IsTrialFault fault read → IsPlanFault options fault read
tried_fault options (Check fault) read trial found = inl (trial, found.0, found.1)
tried_fault options (BadCertificate fault) read trial found = absurd found
tried_fault options other read trial found = found

pub claimed_fault : (options : ReplayOptions) (fault : KitFault) (read : Parts) → options.trial ≡ false → IsClaimFault fault read → IsPlanFault options fault read
claimed_fault options (BadCertificate fault) read certified found = (certified, found)
claimed_fault options (Check fault) read certified found = inr (certified, found)
claimed_fault options other read certified found = found

pub ruleset plan_faults = (tried_fault, claimed_fault)
