-- what is read is sound
use Rattle.metric_views.proofs.SoundSetups.{config_made}
use Rattle.metric_views.proofs.config.Config.read.Goals as goal

pub invariant_of-result : goal.invariant_of-result
invariant_of-result c = config_made c.args.text.now c.in_ok-setup.setup c.in_ok-setup.ensures
