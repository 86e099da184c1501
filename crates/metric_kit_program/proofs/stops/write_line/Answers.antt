-- what is written of a line and its end is a prefix of both
use Rattle.std.proofs.KnownBytes.{Appends-kept, Appends-trans}
use Rattle.metric_io.specs.Prefix.{AppendsPrefix-kept}
use Rattle.metric_kit_commands.specs.TextLaws.{prefix_of_first, prefix_of_second}
use Rattle.metric_kit_program.proofs.stops.write_line.Goals as goal

pub returns-in_err-write_all-clause-prefix : goal.returns-in_err-write_all-clause-prefix
returns-in_err-write_all-clause-prefix g c = rw (← c.as_bytes.ensures.value) (prefix_of_first _ _ _ _ c.write_all.ensures.prefix)

pub returns-in_err-write_all-2-clause-prefix : goal.returns-in_err-write_all-2-clause-prefix
returns-in_err-write_all-2-clause-prefix g c =
    rw (← c.as_bytes.ensures.value)
    (prefix_of_second _ (g.E.Sink.contents c.write_all.new.sink) _ _ _ c.in_ok-write_all.ensures.ok c.write_all-2.ensures.prefix)

pub returns-in_err-flush-clause-prefix : goal.returns-in_err-flush-clause-prefix
returns-in_err-flush-clause-prefix g c =
    rw (← c.as_bytes.ensures.value)
    (AppendsPrefix-kept _ (g.E.Sink.contents c.write_all-2.new.sink) _ _
    (prefix_of_second _ (g.E.Sink.contents c.write_all.new.sink) _ _ _ c.in_ok-write_all.ensures.ok c.write_all-2.ensures.prefix)
    c.flush.ensures.bytes)

pub returns-clause-prefix : goal.returns-clause-prefix
returns-clause-prefix g c =
    rw (← c.as_bytes.ensures.value)
    (AppendsPrefix-kept _ (g.E.Sink.contents c.write_all-2.new.sink) _ _
    (prefix_of_second _ (g.E.Sink.contents c.write_all.new.sink) _ _ _ c.in_ok-write_all.ensures.ok c.write_all-2.ensures.prefix)
    c.flush.ensures.bytes)

pub returns-clause-whole : goal.returns-clause-whole
returns-clause-whole g c =
    rw (← c.as_bytes.ensures.value)
    (Appends-kept _ (g.E.Sink.contents c.write_all-2.new.sink) _ _
    (Appends-trans _ (g.E.Sink.contents c.write_all.new.sink) _ _ _ c.in_ok-write_all.ensures.ok c.in_ok-write_all-2.ensures.ok)
    c.flush.ensures.bytes)
