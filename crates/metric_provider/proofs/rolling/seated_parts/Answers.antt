-- where no recorder's seat is missing, the provider is finished
use Rattle.std.proofs.Common.{Bool, refl, subst}
use Rattle.metric_provider.specs.Locked.{AreLockedJournals}
use Rattle.metric_provider.proofs.rolling.seated_parts.Goals as goal

pub returns-in_ok-totals-in-Ok-clause-totals : goal.returns-in_ok-totals-in-Ok-clause-totals
returns-in_ok-totals-in-Ok-clause-totals g c = c.in_ok-totals-in-Ok.ensures.totals.finished (c.in-Ok.ensures.whole refl)

pub returns-in_ok-totals-in-Ok-clause-behind : goal.returns-in_ok-totals-in-Ok-clause-behind
returns-in_ok-totals-in-Ok-clause-behind g c =
    let journals = c.in_ok-totals-in-Ok.totals.journals.items in
    subst (λ (whole : Bool). AreLockedJournals whole g.B.Book.stands g.B.Book.kept c.args.plan.now.facts.instruments c.args.recorders.now journals)
    (c.in-Ok.ensures.whole refl) c.in_ok-totals-in-Ok.ensures.totals.behind
