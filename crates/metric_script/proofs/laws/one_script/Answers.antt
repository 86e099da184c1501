-- the laws of a script and of its first fault
use Rattle.metric_script.proofs.OneScript.{printed_script, same_event, same_start, same_events, same_fault, no_script}
use Rattle.metric_script.proofs.laws.one_script.Goals as goal

pub returns : goal.returns
returns c = record { script = printed_script; event = same_event; start = same_start; events = same_events; fault = same_fault; apart = no_script }
