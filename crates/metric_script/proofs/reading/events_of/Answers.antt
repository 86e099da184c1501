-- the script, or the line where it stops
use Rattle.std.proofs.Common.{length, ◌-◌, subst}
use Rattle.metric_script.specs.Scripts.{IsScript, IsFirstFault}
use Rattle.metric_script.specs.declared.events.ScriptEvents.{ScriptEvents}
use Rattle.metric_script.proofs.ScriptLaws.{script_found, texts_fault, texts_fits}
use Rattle.metric_script.proofs.PlaceLaws.{stop_is}
use Rattle.metric_script.proofs.reading.events_of.Goals as goal

pub overflow_sub-lines : goal.overflow_sub-lines
overflow_sub-lines c =
    texts_fits c.lines-lines.result.now c.in-Err-At.rest.now
    (stop_is (λ (read : ScriptEvents). read) c.in-Err-At.field-0 c.in-Err-At.rest _ c.in-Err-At.field-0-is c.in-Err-At.ensures)

pub returns-in-Ok-clause-found : goal.returns-in-Ok-clause-found
returns-in-Ok-clause-found c =
    subst (λ lines. IsScript lines c.in-Ok.events.start c.in-Ok.events.events) c.lines-lines.ensures.lines (script_found _ c.in-Ok.events c.in-Ok.ensures)

pub returns-in-Err-At-clause-input : goal.returns-in-Err-At-clause-input
returns-in-Err-At-clause-input c = record {
  place = length c.lines-lines.result.now - length c.in-Err-At.rest.now;
  numbered = c.line_number.ensures;
  fault = subst (λ lines. IsFirstFault lines (length c.lines-lines.result.now - length c.in-Err-At.rest.now)) c.lines-lines.ensures.lines
      (texts_fault c.lines-lines.result.now c.in-Err-At.rest.now
      (stop_is (λ (read : ScriptEvents). read) c.in-Err-At.field-0 c.in-Err-At.rest _ c.in-Err-At.field-0-is c.in-Err-At.ensures));
}
