-- The parts have a script, and it is a trial where they have no certificate.
use Rattle.wormweekly_commands.proofs.PartsNeeded.{needed_of}
use Rattle.wormweekly_commands.proofs.refused.tell_refused.Goals as goal

pub tally_replies-requires-clause-needed : goal.tally_replies-requires-clause-needed
tally_replies-requires-clause-needed g c = needed_of c.is_trial.result c.args.parts.now c.is_trial.ensures c.requires
