use Rattle.std.proofs.Common.{◌≡◌, of_z, to_z, w64}
use Rattle.std.proofs.lemmas.Int.{to_z-of_z}
use Rattle.metric_queries.proofs.Marks.{utf8_mark}
use Rattle.metric_queries.proofs.sample.mark_of.Goals as goal

pub text_of_boundary-requires : goal.text_of_boundary-requires
text_of_boundary-requires c =
    let same : to_z w64 (of_z w64 c.args.boundary) ≡ c.args.boundary = to_z-of_z w64 c.args.boundary c.ranges.boundary in
    rw (c.in_ok-push_boundary.ensures, c.new-out.ensures.items, same) (utf8_mark c.args.boundary c.ranges.boundary.sfits)
