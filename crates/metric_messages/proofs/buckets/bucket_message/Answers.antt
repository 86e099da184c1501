-- the streams are those that the pair gives
use Rattle.std.proofs.Common.{List, slice_get, ap, ◌∙◌}
use Rattle.std.proofs.lemmas.Result.{IfOk-weaker}
use Rattle.metric_views.specs.declared.stream.Stream.{Stream}
use Rattle.metric_messages.specs.Places.{place_of_stream}
use Rattle.metric_messages.proofs.buckets.bucket_message.Goals as goal

pub returns : goal.returns
returns c =
    IfOk-weaker c.placed.result _ _
    (λ told is. is ∙ c.stream_place.ensures ∙ ap (λ (s : List Stream). place_of_stream (slice_get s c.args.number)) (c.as_slice-2.ensures.items ∙ c.in_ok-streams.ensures.list))
    c.placed.ensures
