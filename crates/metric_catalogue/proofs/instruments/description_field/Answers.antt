-- the description, which is shared
use Rattle.std.proofs.Common.{Ok, sym, ap, ◌∙◌}
use Rattle.metric_catalogue.proofs.instruments.description_field.Goals as goal

pub returns : goal.returns
returns c =
    let read = rw (c.field.ensures, c.holder.ensures) at c.in_ok-description.ensures in
    read ∙ ap Ok (sym c.in_ok-new.ensures)
