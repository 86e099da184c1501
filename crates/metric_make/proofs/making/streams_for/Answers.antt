-- each stream has an identity
use Rattle.std.proofs.Common.{All, sym, subst}
use Rattle.metric_make.specs.Making.{IsNamed}
use Rattle.metric_make.proofs.Named.{all_named}
use Rattle.metric_make.proofs.Pairs.{if_ok_then}
use Rattle.metric_make.proofs.making.streams_for.Goals as goal

pub returns-clause-named : goal.returns-clause-named
returns-clause-named c =
    let contents = c.args.catalogue.now in
    let config = c.args.config.now in
    if_ok_then _ _ c.resolve.result c.resolve.ensures.list
    (λ s is. subst (All (IsNamed contents)) (sym is) (all_named contents config c.instruments-instruments.ensures.sound (λ stream. (c.streams_are_what_views_give.ensures.exact contents config stream).0)))
