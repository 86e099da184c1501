-- what is kept of these replies is kept of all
use Rattle.std.proofs.Common.{◌++◌, ℕ, length, sym, subst, ◌∙◌}
use Rattle.metric_kit_commands.specs.Pages.{AreLast}
use Rattle.metric_kit_commands.proofs.page_replays.LastBatchesTally.add.Goals as goal

pub returns : goal.returns
returns c = λ begun told known. (
  c.keep_all.ensures.reader_is ∙ known.0,
  subst (λ (reader : ℕ). AreLast reader (length begun.last.items) c.keep_all.new.self.last.items (told ++ c.args.replies.items)) known.0
      (c.keep_all.ensures.are_last (length begun.last.items) told
      (subst (λ (reader : ℕ). AreLast reader (length begun.last.items) c.args.self.now.last.items told) (sym known.0) known.1)),
)
