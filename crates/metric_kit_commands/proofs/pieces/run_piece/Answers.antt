-- the replies are those that are due
use Rattle.std.proofs.Common.{◌≡◌, false, sym, ap, subst, ◌∙◌}
use Rattle.std.specs.List.{list_any}
use Rattle.metric_core.specs.CoreStands.{CoreStands}
use Rattle.metric_kit_commands.specs.Replies.{is_want_of_memory}
use Rattle.metric_kit_commands.proofs.PieceLaws.{due_after, is_due}
use Rattle.metric_kit_commands.proofs.pieces.run_piece.Goals as goal

pub returns-clause-due : goal.returns-clause-due
returns-clause-due g c =
    let remembered : list_any is_want_of_memory c.in_ok-replies.replies.items ≡ false =
    ap (list_any is_want_of_memory) (sym c.deref.ensures.value) ∙ sym c.has_want_of_memory.ensures ∙ c.if-has_want_of_memory.false in
    λ h stands. is_due c.args.core.now.plan.facts c.args.core.now.start h c.args.events.now c.in_ok-replies.replies.items (c.in_ok-replies.ensures.legal h stands) remembered

pub returns-clause-stands : goal.returns-clause-stands
returns-clause-stands g c =
    let remembered : list_any is_want_of_memory c.in_ok-replies.replies.items ≡ false =
    ap (list_any is_want_of_memory) (sym c.deref.ensures.value) ∙ sym c.has_want_of_memory.ensures ∙ c.if-has_want_of_memory.false in
    λ h stands. subst (CoreStands g.B.Book.stands c.run.new.self)
    (due_after c.args.core.now.plan.facts c.args.core.now.start h c.args.events.now c.in_ok-replies.replies.items (c.in_ok-replies.ensures.legal h stands) remembered)
    (c.in_ok-replies.ensures.stands h stands)
