-- the sink's answer is passed on
use Rattle.std.proofs.Common.{Ok, Err, refl}
use Rattle.metric_export.proofs.text_exporter.flushed.Goals as goal

pub returns-in-Ok-clause-flushed : goal.returns-in-Ok-clause-flushed
returns-in-Ok-clause-flushed g c =
    record { told = Ok tt; call = c.in-Ok.ensures.gives; passed = refl }

pub returns-in-Err-clause-flushed : goal.returns-in-Err-clause-flushed
returns-in-Err-clause-flushed g c =
    record { told = Err c.in-Err.field-0; call = c.in-Err.ensures.gives; passed = refl }
