-- all remarks, one kind after the other
use Rattle.std.proofs.Common.{Bool, ◌≡◌, ℕ, ◌++◌, List, length, map, ap, subst, ◌∙◌, arith}
use Rattle.std.specs.List.{AllZip, flat_map, range_with_len}
use Rattle.std.proofs.lemmas.List.FromFn.{length-map-range_with_len, length-range_with_len}
use Rattle.std.proofs.lemmas.Slice.Zip.{AllZip-long}
use Rattle.metric_views.specs.declared.stream.Stream.{Stream}
use Rattle.metric_resolve.specs.Applying.{all_instruments, all_views}
use Rattle.metric_resolve.specs.Resolved.{streams_of}
use Rattle.metric_resolve.specs.Warnings.{warnings_of}
use Rattle.metric_lint.specs.declared.headroom.Headroom.{Headroom}
use Rattle.metric_lint.specs.declared.remark.Remark.{Remark}
use Rattle.metric_lint.specs.Headrooms.{IsHeadroom}
use Rattle.metric_lint.specs.Remarks.{all_recorder_remarks, instrument_remarks, makes_histogram, remark_of, view_remarks}
use Rattle.metric_lint.specs.Values.{stream_remarks}
use Rattle.metric_lint.specs.Collected.{collected_remarks}
use Rattle.metric_lint.proofs.linting.lint.Goals as goal

pub add_views-requires : goal.add_views-requires
add_views-requires c =
    let made = ap length (c.as_slice.ensures ∙ c.in_ok-histograms.ensures) in
    let long = length-map-range_with_len (makes_histogram c.list-2.result.now) 0 (length c.views.result.now) in
    let same = ap length c.views.ensures.views in
    omega arith

pub add_instruments-requires : goal.add_instruments-requires
add_instruments-requires c =
    let contents = c.args.catalogue.now in
    let zipped = AllZip-long (IsHeadroom contents c.list.result.now) (all_instruments contents) c.in_ok-rooms.rooms c.in_ok-rooms.ensures in
    let long = length-range_with_len 0 (length contents.instruments) in
    let same = ap length c.as_slice-2.ensures in
    omega arith

pub returns : goal.returns
returns c =
    let contents = c.args.catalogue.now in
    let config = c.args.config.now in
    let streams = streams_of contents config in
    let rooms = c.in_ok-rooms.rooms in
    let listed : c.list.result.now ≡ streams = c.list.ensures.list ∙ c.in_ok-streams.ensures.list in
    let again : c.list-2.result.now ≡ streams = c.list-2.ensures.list ∙ c.in_ok-streams.ensures.list in
    let third : c.list-3.result.now ≡ streams = c.list-3.ensures.list ∙ c.in_ok-streams.ensures.list in
    let fourth : c.list-4.result.now ≡ streams = c.list-4.ensures.list ∙ c.in_ok-streams.ensures.list in
    let flags : c.as_slice.result.now ≡ map (makes_histogram streams) (all_views config) =
    c.as_slice.ensures ∙ c.in_ok-histograms.ensures ∙ ap (λ (s : List Stream). map (makes_histogram s) (range_with_len 0 (length c.views.result.now))) again
    ∙ ap (λ (n : ℕ). map (makes_histogram streams) (range_with_len 0 n)) (ap length c.views.ensures.views) in
    let warned : c.in_ok-remarks.remarks ≡ map remark_of (warnings_of contents config) =
    c.in_ok-remarks.ensures ∙ ap (map remark_of) (c.warnings.ensures ∙ c.in_ok-streams.ensures.warnings) in
    record {
      rooms = rooms;
      are_rooms = subst (λ (s : List Stream). AllZip (IsHeadroom contents s) (all_instruments contents) rooms) listed c.in_ok-rooms.ensures;
      are =
          c.in_ok-add_collected.ensures
          ∙ ap (λ (s : List Stream). c.add_recorders.new.remarks ++ collected_remarks contents config s) fourth
          ∙ ap (λ (rs : List Remark). rs ++ collected_remarks contents config streams)
          (c.in_ok-add_recorders.ensures
          ∙ ap (λ (rs : List Remark). rs ++ all_recorder_remarks contents)
          (c.in_ok-add_streams.ensures
          ∙ ap (λ (s : List Stream). c.add_instruments.new.remarks ++ stream_remarks contents s) third
          ∙ ap (λ (rs : List Remark). rs ++ stream_remarks contents streams)
          (c.in_ok-add_instruments.ensures
          ∙ ap (λ (hs : List Headroom). c.add_views.new.remarks ++ flat_map (instrument_remarks contents hs) (all_instruments contents)) c.as_slice-2.ensures
          ∙ ap (λ (rs : List Remark). rs ++ flat_map (instrument_remarks contents rooms) (all_instruments contents))
          (c.in_ok-add_views.ensures
          ∙ ap (λ (fs : List Bool). c.in_ok-remarks.remarks ++ flat_map (view_remarks contents config fs) (all_views config)) flags
          ∙ ap (λ (rs : List Remark). rs ++ flat_map (view_remarks contents config (map (makes_histogram streams) (all_views config))) (all_views config)) warned))));
    }
