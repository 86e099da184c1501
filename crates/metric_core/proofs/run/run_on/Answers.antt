-- one event more, and all events
use Rattle.std.proofs.Common.{◌≡◌, ℕ, ◌+◌, ◌≤◌, [], ◌∷◌, ◌++◌, List, get_or, length, take, vec_capacity, refl, sym, ap, subst, ◌∙◌, arith}
use Rattle.std.proofs.lemmas.List.{take_more, take_all, length-take-le, length_push}
use Rattle.metric_history.specs.declared.event.Event.{Event}
use Rattle.metric_history.specs.declared.event.Reply.{Reply}
use Rattle.metric_history.specs.Events.{attr_count}
use Rattle.metric_history.specs.History.{History}
use Rattle.metric_core.specs.CoreStands.{CellsStand}
use Rattle.metric_history.specs.Legal.{AllLegal, grown}
use Rattle.metric_core.proofs.RunLaws.{AllLegal_push, grown_push}
use Rattle.metric_core.proofs.run.run_on.Goals as goal

pub loop-event-init : goal.loop-event-init
loop-event-init g c = record {
  count = ap length c.requires.none;
  cells = c.requires.cells;
  replies = c.requires.replies;
  room = refl;
  legal = λ since h s. subst (λ (rs : List Reply). AllLegal c.args.plan.now.facts since h [] rs) (sym c.requires.none) tt;
  stands = λ since h s. s;
}

pub step-reply-requires-clause-cells : goal.step-reply-requires-clause-cells
step-reply-requires-clause-cells g c = c.loop-event.invariant.cells

pub step-reply-requires-clause-room : goal.step-reply-requires-clause-room
step-reply-requires-clause-room g c =
    let fits = c.requires.room c.loop-event.event-index c.event-item.result c.loop-event-test.true in
    subst (λ (e : Event). attr_count e ≤ vec_capacity c.loop-event.room) (sym c.event-item.is)
    (subst (λ (n : ℕ). attr_count (get_or c.args.events.now c.loop-event.event-index c.event-item.result) ≤ n) (sym c.loop-event.invariant.room) fits)

pub loop-event-preserved : goal.loop-event-preserved
loop-event-preserved g c =
    let facts = c.args.plan.now.facts in
    let event = c.event-item.result in
    let reply = c.step-reply.result in
    let front : List Event = take c.loop-event.event-index c.args.events.now in
    let done : List Reply = c.loop-event.replies.items in
    let more : take (c.loop-event.event-index + 1) c.args.events.now ≡ front ++ event ∷ [] =
    take_more c.args.events.now c.loop-event.event-index event c.loop-event-test.true ∙ ap (λ (e : Event). front ++ e ∷ []) (sym c.event-item.is) in
    let pushed : c.push_reserved.new.self.items ≡ done ++ reply ∷ [] = c.push_reserved.ensures.items in
    let long : length done ≡ length front = omega (arith, c.loop-event.invariant.count, length-take-le c.loop-event.event-index c.args.events.now (omega arith)) in
    record {
      count = omega (arith, ap length pushed, length_push done reply);
      cells = c.step-reply.ensures.steps.cells_of c.loop-event.invariant.cells;
      replies = omega (arith, c.push_reserved.ensures.capacity, c.loop-event.invariant.replies);
      room = c.step-reply.ensures.room ∙ c.loop-event.invariant.room;
      legal = λ since h s.
          subst (λ (es : List Event). AllLegal facts since h es c.push_reserved.new.self.items) (sym more)
          (subst (λ (rs : List Reply). AllLegal facts since h (front ++ event ∷ []) rs) (sym pushed)
          (AllLegal_push facts since front done h event reply long (c.loop-event.invariant.legal since h s) (c.step-reply.ensures.steps.legal since (grown h front done) (c.loop-event.invariant.stands since h s))));
      stands = λ since h s.
          subst (λ (es : List Event). CellsStand g.B.Book.stands facts since c.step-reply.new.cells (grown h es c.push_reserved.new.self.items)) (sym more)
          (subst (λ (rs : List Reply). CellsStand g.B.Book.stands facts since c.step-reply.new.cells (grown h (front ++ event ∷ []) rs)) (sym pushed)
          (subst (λ (past : History). CellsStand g.B.Book.stands facts since c.step-reply.new.cells past) (sym (grown_push front done h event reply long))
          (c.step-reply.ensures.steps.follows since (grown h front done) (c.loop-event.invariant.stands since h s))));
    }

pub returns-clause-cells : goal.returns-clause-cells
returns-clause-cells g c = c.loop-event.invariant.cells

pub returns-clause-legal : goal.returns-clause-legal
returns-clause-legal g c = λ since h s.
    let whole : take c.loop-event.event-index c.args.events.now ≡ c.args.events.now = take_all c.loop-event.event-index c.args.events.now (omega arith) in
    subst (λ (es : List Event). AllLegal c.args.plan.now.facts since h es c.loop-event.replies.items) whole (c.loop-event.invariant.legal since h s)

pub returns-clause-stands : goal.returns-clause-stands
returns-clause-stands g c = λ since h s.
    let whole : take c.loop-event.event-index c.args.events.now ≡ c.args.events.now = take_all c.loop-event.event-index c.args.events.now (omega arith) in
    subst (λ (es : List Event). CellsStand g.B.Book.stands c.args.plan.now.facts since c.loop-event.cells (grown h es c.loop-event.replies.items)) whole (c.loop-event.invariant.stands since h s)
