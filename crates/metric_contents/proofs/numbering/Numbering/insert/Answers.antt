-- a text is written into the numbering
use Rattle.std.proofs.Common.{refl, ◌∙◌}
use Rattle.metric_contents.proofs.Numbered.{text_written}
use Rattle.metric_contents.proofs.numbering.Numbering.insert.Goals as goal

pub returns-in_ok-insert-in-Text-clause-new : goal.returns-in_ok-insert-in-Text-clause-new
returns-in_ok-insert-in-Text-clause-new c =
    text_written c.args.self.now (record c.args.self.now { texts = c.insert.new.self }) c.args.value.now _ c.in_ok-text-in-Text.text c.args.number c.in-Text.is (c.in_ok-text-in-Text.ensures.ok ∙ c.as_str.ensures) refl refl refl c.in_ok-insert-in-Text.ensures.updates
