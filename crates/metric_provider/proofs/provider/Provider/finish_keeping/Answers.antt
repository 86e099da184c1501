-- where no recorder's seat is missing, the provider is finished
use Rattle.std.proofs.Common.{Bool, subst}
use Rattle.metric_provider.specs.Locked.{AreLockedJournals}
use Rattle.metric_provider.proofs.SettleLaws.{seated_each}
use Rattle.metric_provider.proofs.provider.Provider.finish_keeping.Goals as goal

pub returns-in-Ok-clause-totals : goal.returns-in-Ok-clause-totals
returns-in-Ok-clause-totals g c = c.in-Ok.ensures.totals.finished (seated_each c.args.self c.args.recorders.items c.in-Ok.ensures.seated)

pub returns-in-Ok-clause-behind : goal.returns-in-Ok-clause-behind
returns-in-Ok-clause-behind g c =
    let journals = c.in-Ok.partly.totals.journals.items in
    subst (λ (whole : Bool). AreLockedJournals whole g.B.Book.stands g.B.Book.kept c.args.self.plan.facts.instruments c.args.recorders.items journals)
    (seated_each c.args.self c.args.recorders.items c.in-Ok.ensures.seated) c.in-Ok.ensures.totals.behind
