-- the lines of the streams are written, and then those of the warnings
use Rattle.std.proofs.KnownBytes.{Appends-trans}
use Rattle.metric_kit_commands.specs.TextLaws.{prefix_of_first, prefix_of_second}
use Rattle.metric_kit_commands.specs.Showing.{listing_text}
use Rattle.metric_kit_commands.proofs.show.write_lines.Goals as goal

pub returns-in_err-write_parts-clause-prefix : goal.returns-in_err-write_parts-clause-prefix
unfolding listing_text
returns-in_err-write_parts-clause-prefix g c =
    rw (← c.list.ensures.list) (prefix_of_first _ (g.W.Sink.contents c.write_parts.new.sink) _ _ c.write_parts.ensures.prefix)

pub returns-in_err-write_parts-2-clause-prefix : goal.returns-in_err-write_parts-2-clause-prefix
unfolding listing_text
returns-in_err-write_parts-2-clause-prefix g c =
    rw (← c.list.ensures.list, ← c.warnings.ensures)
    (prefix_of_second _ (g.W.Sink.contents c.write_parts.new.sink) _ _ _ c.in_ok-write_parts.ensures.ok c.write_parts-2.ensures.prefix)

pub returns-clause-prefix : goal.returns-clause-prefix
unfolding listing_text
returns-clause-prefix g c =
    rw (← c.list.ensures.list, ← c.warnings.ensures)
    (prefix_of_second _ (g.W.Sink.contents c.write_parts.new.sink) _ _ _ c.in_ok-write_parts.ensures.ok c.write_parts-2.ensures.prefix)

pub returns-clause-ok : goal.returns-clause-ok
unfolding listing_text
returns-clause-ok g c =
    rw (← c.list.ensures.list, ← c.warnings.ensures)
    (Appends-trans _ (g.W.Sink.contents c.write_parts.new.sink) _ _ _ c.in_ok-write_parts.ensures.ok c.in_ok-write_parts-2.ensures.ok)
