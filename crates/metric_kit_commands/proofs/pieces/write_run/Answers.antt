-- one piece more
use Rattle.std.proofs.Common.{◌≡◌, ◌++◌, List, ℕ, refl, sym, subst, ap, ◌∙◌}
use Rattle.std.specs.Io.KnownBytes.{Appends}
use Rattle.metric_core.specs.CoreStands.{CoreStands}
use Rattle.metric_history.specs.History.{History}
use Rattle.metric_history.specs.declared.event.Event.{Event}
use Rattle.metric_io.specs.Prefix.{AppendsPrefix}
use Rattle.metric_plan.specs.Plans.{PlanValue}
use Rattle.metric_kit_commands.specs.Runs.{due_history}
use Rattle.metric_kit_commands.specs.WrittenRuns.{due_text}
use Rattle.metric_kit_commands.proofs.PieceLaws.{piece_more, piece_prefix, run_begins, written_so_far}
use Rattle.metric_kit_commands.proofs.pieces.write_run.Goals as goal

pub loop-piece-init : goal.loop-piece-init
loop-piece-init g c = record {
  so_far = run_begins (g.F.ReplyForm.text c.args.form.now) g.B.Book.stands (g.W.Sink.contents c.args.sink.now) c.args.core.now.plan c.args.core.now.start c.args.core.now c.args.events c.requires;
  plan = refl;
  start = refl;
  failures = refl;
}

pub returns-in_err-piece-clause-prefix : goal.returns-in_err-piece-clause-prefix
returns-in_err-piece-clause-prefix g c =
    written_so_far (g.F.ReplyForm.text c.args.form.now) g.B.Book.stands _ _ c.args.core.now.plan c.args.core.now.start c.loop-piece.core c.args.events c.loop-piece.rest c.loop-piece.invariant.so_far

pub returns-then-is_empty-clause-prefix : goal.returns-then-is_empty-clause-prefix
returns-then-is_empty-clause-prefix g c =
    written_so_far (g.F.ReplyForm.text c.args.form.now) g.B.Book.stands _ _ c.args.core.now.plan c.args.core.now.start c.loop-piece.core c.args.events c.loop-piece.rest c.loop-piece.invariant.so_far

pub returns-in_err-write_piece-clause-prefix : goal.returns-in_err-write_piece-clause-prefix
returns-in_err-write_piece-clause-prefix g c =
    let inv = c.loop-piece.invariant in
    let now = g.W.Sink.contents c.loop-piece.sink in
    let later = g.W.Sink.contents c.write_piece.new.sink in
    let piece = c.as_slice.result.now in
    let parted : c.loop-piece.rest ≡ c.as_slice.result.now ++ c.in_ok-piece.later =
    c.in_ok-piece.ensures.all ∙ ap (λ (l : List Event). l ++ c.in_ok-piece.later) (sym c.as_slice.ensures) in
    let writes : (h : History) → CoreStands g.B.Book.stands c.loop-piece.core h → AppendsPrefix now later (due_text (g.F.ReplyForm.text c.args.form.now) c.args.core.now.plan c.args.core.now.start h piece) =
    subst (λ (p : PlanValue). (h : History) → CoreStands g.B.Book.stands c.loop-piece.core h → AppendsPrefix now later (due_text (g.F.ReplyForm.text c.args.form.now) p c.args.core.now.start h piece)) inv.plan
    (subst (λ (s : ℕ). (h : History) → CoreStands g.B.Book.stands c.loop-piece.core h → AppendsPrefix now later (due_text (g.F.ReplyForm.text c.args.form.now) c.loop-piece.core.plan s h piece)) inv.start
    c.write_piece.ensures.prefix) in
    piece_prefix (g.F.ReplyForm.text c.args.form.now) g.B.Book.stands (g.W.Sink.contents c.args.sink.now) now later c.args.core.now.plan c.args.core.now.start c.loop-piece.core
    c.args.events c.loop-piece.rest piece c.in_ok-piece.later inv.so_far parted writes

pub loop-piece-preserved : goal.loop-piece-preserved
loop-piece-preserved g c =
    let inv = c.loop-piece.invariant in
    let now = g.W.Sink.contents c.loop-piece.sink in
    let later = g.W.Sink.contents c.write_piece.new.sink in
    let piece = c.as_slice.result.now in
    let parted : c.loop-piece.rest ≡ c.as_slice.result.now ++ c.in_ok-piece.later =
    c.in_ok-piece.ensures.all ∙ ap (λ (l : List Event). l ++ c.in_ok-piece.later) (sym c.as_slice.ensures) in
    let writes : (h : History) → CoreStands g.B.Book.stands c.loop-piece.core h → Appends now later (due_text (g.F.ReplyForm.text c.args.form.now) c.args.core.now.plan c.args.core.now.start h piece) =
    subst (λ (p : PlanValue). (h : History) → CoreStands g.B.Book.stands c.loop-piece.core h → Appends now later (due_text (g.F.ReplyForm.text c.args.form.now) p c.args.core.now.start h piece)) inv.plan
    (subst (λ (s : ℕ). (h : History) → CoreStands g.B.Book.stands c.loop-piece.core h → Appends now later (due_text (g.F.ReplyForm.text c.args.form.now) c.loop-piece.core.plan s h piece)) inv.start
    c.in_ok-write_piece.ensures.ok) in
    let runs : (h : History) → CoreStands g.B.Book.stands c.loop-piece.core h
    → CoreStands g.B.Book.stands c.write_piece.new.core (due_history c.args.core.now.plan.facts c.args.core.now.start h piece) =
    subst (λ (p : PlanValue). (h : History) → CoreStands g.B.Book.stands c.loop-piece.core h
    → CoreStands g.B.Book.stands c.write_piece.new.core (due_history p.facts c.args.core.now.start h piece)) inv.plan
    (subst (λ (s : ℕ). (h : History) → CoreStands g.B.Book.stands c.loop-piece.core h
    → CoreStands g.B.Book.stands c.write_piece.new.core (due_history c.loop-piece.core.plan.facts s h piece)) inv.start
    c.in_ok-write_piece.ensures.stands) in
    record {
      so_far = piece_more (g.F.ReplyForm.text c.args.form.now) g.B.Book.stands (g.W.Sink.contents c.args.sink.now) now later c.args.core.now.plan c.args.core.now.start c.loop-piece.core c.write_piece.new.core
          c.args.events c.loop-piece.rest piece c.in_ok-piece.later inv.so_far parted writes runs;
      plan = c.in_ok-write_piece.ensures.plan ∙ inv.plan;
      start = c.in_ok-write_piece.ensures.start ∙ inv.start;
      failures = c.in_ok-write_piece.ensures.counted ∙ inv.failures;
    }
