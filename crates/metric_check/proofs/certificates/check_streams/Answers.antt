-- the bounds that were checked have the totals, and each stream is of an instrument that is there
use Rattle.std.proofs.Common.{List, get_or, slice_get, ap, sym, ◌∙◌}
use Rattle.std.proofs.lemmas.Option.{slice_get-get_or}
use Rattle.metric_views.specs.declared.stream.Stream.{Stream}
use Rattle.metric_check.proofs.OwnStreams.{known_instrument}
use Rattle.metric_check.proofs.Validity.{totals_known}
use Rattle.metric_check.proofs.certificates.check_streams.Goals as goal

pub check_limits-requires-clause-totals : goal.check_limits-requires-clause-totals
check_limits-requires-clause-totals c = totals_known c.args.catalogue.now c.args.streams.now c.as_slice-bounds.result.now c.in_ok-check_bounds.ensures

pub check_limits-requires-clause-known : goal.check_limits-requires-clause-known
check_limits-requires-clause-known c = λ k d within.
    let streams = c.args.streams.now in
    known_instrument c.args.catalogue.now c.args.config.now k (get_or streams k d)
    (ap (λ (ss : List Stream). slice_get ss k) (sym c.requires) ∙ slice_get-get_or streams k d within)
