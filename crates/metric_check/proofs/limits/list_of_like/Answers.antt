-- a stream has the list of one that is like it
use Rattle.std.proofs.Common.{ap, sym, ◌∙◌}
use Rattle.metric_cert.specs.declared.stream.By.TheVariants as by
use Rattle.metric_check.proofs.Bounded.{listed_like}
use Rattle.metric_check.proofs.limits.list_of_like.Goals as goal

pub returns-then-is_like : goal.returns-then-is_like
returns-then-is_like c =
    listed_like c.args.catalogue.now c.args.stream.now c.args.other.now c.args.entry.now.by c.as_slice.result.now (c.is_like.ensures c.if-is_like.true) c.requires
    (c.in-List.is ∙ ap by.List (sym c.as_slice.ensures))
