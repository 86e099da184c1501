-- one piece more
use Rattle.std.proofs.Common.{◌≡◌, ◌++◌, List, ℕ, refl, sym, subst, ap, ◌∙◌}
use Rattle.metric_core.specs.CoreStands.{CoreStands}
use Rattle.metric_history.specs.History.{History}
use Rattle.metric_history.specs.declared.event.Event.{Event}
use Rattle.metric_plan.specs.Plans.{PlanValue}
use Rattle.metric_kit_commands.specs.Runs.{due_history, due_replies}
use Rattle.metric_kit_commands.proofs.PieceLaws.{piece_tallied, tally_begins}
use Rattle.metric_kit_commands.proofs.tally.tally_run.Goals as goal

pub loop-piece-init : goal.loop-piece-init
loop-piece-init g c = record {
  so_far = tally_begins g.T.Tally.tells g.B.Book.stands c.args.tally.now c.args.core.now.plan c.args.core.now.start c.args.core.now c.args.events c.requires.stands c.requires.begins;
  plan = refl;
  start = refl;
}

pub loop-piece-preserved : goal.loop-piece-preserved
loop-piece-preserved g c =
    let inv = c.loop-piece.invariant in
    let piece = c.as_slice.result.now in
    let parted : c.loop-piece.rest ≡ c.as_slice.result.now ++ c.in_ok-piece.later =
    c.in_ok-piece.ensures.all ∙ ap (λ (l : List Event). l ++ c.in_ok-piece.later) (sym c.as_slice.ensures) in
    let due : (h : History) → CoreStands g.B.Book.stands c.loop-piece.core h → c.in_ok-replies.replies.items ≡ due_replies c.args.core.now.plan.facts c.args.core.now.start h piece =
    subst (λ (p : PlanValue). (h : History) → CoreStands g.B.Book.stands c.loop-piece.core h → c.in_ok-replies.replies.items ≡ due_replies p.facts c.args.core.now.start h piece) inv.plan
    (subst (λ (s : ℕ). (h : History) → CoreStands g.B.Book.stands c.loop-piece.core h → c.in_ok-replies.replies.items ≡ due_replies c.loop-piece.core.plan.facts s h piece) inv.start
    c.in_ok-replies.ensures.due) in
    let runs : (h : History) → CoreStands g.B.Book.stands c.loop-piece.core h
    → CoreStands g.B.Book.stands c.run_piece.new.core (due_history c.args.core.now.plan.facts c.args.core.now.start h piece) =
    subst (λ (p : PlanValue). (h : History) → CoreStands g.B.Book.stands c.loop-piece.core h
    → CoreStands g.B.Book.stands c.run_piece.new.core (due_history p.facts c.args.core.now.start h piece)) inv.plan
    (subst (λ (s : ℕ). (h : History) → CoreStands g.B.Book.stands c.loop-piece.core h
    → CoreStands g.B.Book.stands c.run_piece.new.core (due_history c.loop-piece.core.plan.facts s h piece)) inv.start
    c.in_ok-replies.ensures.stands) in
    record {
      so_far = piece_tallied g.T.Tally.tells g.B.Book.stands c.args.tally.now c.loop-piece.tally c.add.new.self c.args.core.now.plan c.args.core.now.start c.loop-piece.core c.run_piece.new.core
          c.args.events c.loop-piece.rest piece c.in_ok-piece.later c.in_ok-replies.replies.items inv.so_far parted due runs (c.in_ok-add.ensures c.args.tally.now);
      plan = c.in_ok-replies.ensures.plan ∙ inv.plan;
      start = c.in_ok-replies.ensures.start ∙ inv.start;
    }
