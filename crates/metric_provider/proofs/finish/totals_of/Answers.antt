-- what the parts say of the end
use Rattle.std.proofs.Common.{◌≡◌, ℕ, Bool, length, subst, ap, ◌∙◌, sym, arith}
use Rattle.std.proofs.lemmas.Result.{err_from_is_err_and}
use Rattle.metric_contents.specs.declared.contents.Contents.{Contents}
use Rattle.metric_seat.specs.Settlements.{has_each}
use Rattle.metric_provider.specs.Totals.{AreSettled, number_of, slips_of_seats}
use Rattle.metric_provider.proofs.JournalLaws.{finishes}
use Rattle.metric_provider.proofs.SettleLaws.{finish_refused}
use Rattle.metric_provider.proofs.finish.totals_of.Goals as goal

pub returns-in_ok-slips-in-Ok-clause-totals : goal.returns-in_ok-slips-in-Ok-clause-totals
returns-in_ok-slips-in-Ok-clause-totals g c =
    let plan = c.args.plan.now in
    let seats = c.args.recorders.now in
    let counted : length c.recorders.result.now ≡ length plan.facts.contents.recorders =
    ap length c.recorders.ensures.recorders ∙ ap (λ (x : Contents). length x.recorders) c.catalogue.ensures.catalogue in
    let numbered : length c.instruments.result.now ≡ length plan.facts.instruments =
    ap length c.instruments.ensures.instruments ∙ sym c.catalogue-in-Ok.ensures.one_each in
    record {
      told = c.in-Ok.ensures.totals;
      noted = c.in_ok-slips-in-Ok.ensures
          ∙ ap (λ (n : ℕ). slips_of_seats seats n (length c.instruments.result.now)) counted
          ∙ ap (λ (n : ℕ). slips_of_seats seats (length plan.facts.contents.recorders) n) numbered;
      behind = record {
        lanes = c.args.unlocked.now;
        locked = record { one_each = c.requires; kept = c.in_ok-journals-in-Ok.ensures.kept };
        settled = c.in-Ok.ensures.settled;
        are = c.in_ok-journals-in-Ok.ensures.journals;
      };
      finished = λ each.
          finishes g.B.Book.kept g.B.Book.KEEPS_ENTRIES plan c.args.unlocked.now seats c.in-Ok.instruments.items c.in_ok-journals-in-Ok.journals.items
          c.in_ok-slips-in-Ok.slips.items (length c.recorders.result.now) (length c.instruments.result.now) c.requires each counted numbered
          c.in-Ok.ensures.totals (subst (λ (whole : Bool). AreSettled whole g.B.Book.kept plan.facts.instruments c.args.unlocked.now seats) each c.in-Ok.ensures.settled)
          (c.in-Ok.ensures.journals each) c.in_ok-journals-in-Ok.ensures.journals c.in_ok-slips-in-Ok.ensures;
    }

pub settle-requires : goal.settle-requires
settle-requires g c = c.requires

pub overflow_cast-numbers : goal.overflow_cast-numbers
overflow_cast-numbers g c = record { fits = omega (arith, c.recorders.ensures.few, ap length c.recorders.ensures.recorders) }

pub overflow_cast-count : goal.overflow_cast-count
overflow_cast-count g c = record { fits = omega (arith, c.instruments.ensures.few, ap length c.instruments.ensures.instruments) }

pub returns-in_err-journals-in-Ok-clause-refused : goal.returns-in_err-journals-in-Ok-clause-refused
returns-in_err-journals-in-Ok-clause-refused g c =
    let refused = err_from_is_err_and c.from_residual.result c.from_residual.ensures.1 in
    rw (refused.1, refused.2) tt

pub returns-in_err-slips-in-Ok-clause-refused : goal.returns-in_err-slips-in-Ok-clause-refused
returns-in_err-slips-in-Ok-clause-refused g c =
    let refused = err_from_is_err_and c.from_residual-in_err-slips-in-Ok.result c.from_residual-in_err-slips-in-Ok.ensures.1 in
    rw (refused.1, refused.2) tt

pub returns-in-Err-clause-refused : goal.returns-in-Err-clause-refused
returns-in-Err-clause-refused g c =
    finish_refused (has_each number_of c.args.recorders.now (length c.args.plan.now.facts.contents.recorders)) g.B.Book.kept c.args.plan.now.facts.instruments c.args.unlocked.now c.args.recorders.now c.in-Err.fault c.in-Err.ensures.refused
