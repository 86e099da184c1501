-- each recording is in one window
use Rattle.metric_periodic.proofs.WindowLaws.{each_once}
use Rattle.metric_periodic.proofs.laws.outlets_tell_once.Goals as goal

pub returns : goal.returns
returns c p instrument made own seat last given handed plan at delta new all = each_once p instrument made own seat last given handed plan at delta new all
