-- a test of what references point to
use Rattle.std.proofs.Common.{◌∙◌}
use Rattle.std.specs.Str.{bytes_eq}
use Rattle.metric_messages.proofs.StandingLaws.{any_pointed}
use Rattle.metric_messages.proofs.standing.is_among.Goals as goal

pub returns : goal.returns
returns c = c.has_same.ensures ∙ any_pointed (λ known. bytes_eq known c.args.name.now) c.args.names.now
