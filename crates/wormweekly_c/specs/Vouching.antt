-- Why there is no plan of a catalogue, a config and a certificate that somebody made.
use Rattle.std.specs.Prelude.{◌≢◌, ℕ, List}
use Rattle.metric_setup.specs.Setups.{IsFirstClaimFault}
use Rattle.metric_setup.specs.declared.fault.SetupFault.{SetupFault}
use Rattle.metric_setup.specs.declared.fault.SetupFault.TheVariants.{Memory}
use Rattle.wormweekly_c.specs.Telling.{TellsFault}

-- # fault of three texts (profile)
-- The first fault of a catalogue, a config and a certificate, other than out of memory, which a text
-- tells.
pub record HasVouchFault (catalogue config certificate text : List ℕ) : Type 0 where
  pub fault : SetupFault
  pub known : fault ≢ Memory
  pub first : IsFirstClaimFault fault catalogue config certificate
  pub tells : TellsFault catalogue config fault text
