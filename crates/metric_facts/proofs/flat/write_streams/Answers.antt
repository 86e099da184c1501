-- one stream more, and its place
use Rattle.std.proofs.Common.{ℕ, Some, cond, find, ap, ◌∙◌}
use Rattle.std.specs.BTreeMap.{get, is_at}
use Rattle.std.specs.Ordering.{nat_cmp}
use Rattle.std.specs.Option.{option_copied}
use Rattle.metric_facts.specs.Flat.{is_of_view}
use Rattle.metric_facts.proofs.WriteLaws.{before, streams_more, places_more}
use Rattle.metric_facts.proofs.flat.write_streams.Goals as goal

pub loop-place-preserved : goal.loop-place-preserved
loop-place-preserved c =
    let streams = c.args.streams.now in
    let place = c.loop-place.place in
    let n = c.index-streams-place.result in
    let own = c.number_of_view-view in
    let places = c.loop-place.places in
    let below = c.loop-place-test.true in
    let is = c.index-streams-place.is in
    let held = c.loop-place.invariant in
    record {
      written =
          streams_more streams place n (option_copied c.last_of.result) c.loop-place.bytes.items c.write_stream.new.bytes.items below is
          (c.last_of.ensures ∙ held.last own.result ∙ ap (λ (view : ℕ). find (is_of_view view) (before streams place)) own.ensures)
          c.in_ok-write_stream.ensures
          ∙ held.written;
      last = λ view.
          places_more streams place n view (get nat_cmp places view) (get nat_cmp c.insert.new.self view) below is (held.last view)
          (c.in_ok-insert.ensures.updates.0 view ∙ ap (λ (number : ℕ). cond (is_at (nat_cmp number) view) (Some place) (get nat_cmp places view)) own.ensures);
    }
