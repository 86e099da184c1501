use Rattle.std.proofs.Common.{sym}
use Rattle.metric_parts.specs.Pieces.{contents_of}
use Rattle.metric_parts.proofs.Inputs.{contents_found, texts_fault, texts_fits}
use Rattle.metric_parts.proofs.KeptParts.{certificate_there, script_there}
use Rattle.metric_parts.proofs.reading.parts_of.Goals as goal

pub read-requires : goal.read-requires
read-requires c = contents_found _ _ _ (sym c.in-Ok.ensures)

pub overflow_sub-result : goal.overflow_sub-result
overflow_sub-result c = texts_fits _ _ _ c.in-Err.ensures

pub returns-in-Err-clause-input : goal.returns-in-Err-clause-input
returns-in-Err-clause-input c = texts_fault _ _ _ c.in-Err.ensures

pub returns-in_ok-read-in-Ok-clause-parts : goal.returns-in_ok-read-in-Ok-clause-parts
returns-in_ok-read-in-Ok-clause-parts c = record {
  parts = contents_of c.in-Ok.pieces;
  is_input = contents_found _ _ _ (sym c.in-Ok.ensures);
  texts = c.in_ok-read-in-Ok.ensures;
}

pub returns-in_ok-read-in-Ok-clause-certificate : goal.returns-in_ok-read-in-Ok-clause-certificate
returns-in_ok-read-in-Ok-clause-certificate c =
    certificate_there _ _ (contents_of c.in-Ok.pieces) _ (contents_found _ _ _ (sym c.in-Ok.ensures)) c.in_ok-read-in-Ok.ensures

pub returns-in_ok-read-in-Ok-clause-script : goal.returns-in_ok-read-in-Ok-clause-script
returns-in_ok-read-in-Ok-clause-script c =
    script_there _ _ (contents_of c.in-Ok.pieces) _ (contents_found _ _ _ (sym c.in-Ok.ensures)) c.in_ok-read-in-Ok.ensures
