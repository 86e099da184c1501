-- It calls itself with fewer numbers.
use Rattle.std.proofs.Common.{length}
use Rattle.metric_otlp.proofs.json.+push_led.Given as goal

abbrev pub decreases-push_led : goal.decreases-push_led
decreases-push_led l = length l.numbers.now
