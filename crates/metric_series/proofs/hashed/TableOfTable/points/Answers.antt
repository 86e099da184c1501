-- each key is one of the table's; the points of all keys, then the overflow point
use Rattle.std.proofs.Common.{◌≡◌, Some, map, ap, ◌∙◌, arith}
use Rattle.std.specs.Map.{keys_of}
use Rattle.std.proofs.lemmas.List.{take_all}
use Rattle.metric_history.specs.PointLaws.{ascending_has}
use Rattle.metric_history.specs.Points.{ascending, point}
use Rattle.metric_history.specs.Series.{has}
use Rattle.metric_series.proofs.Reading.{points_are}
use Rattle.metric_series.proofs.hashed.TableOfTable.points.Goals as goal

pub point-requires : goal.point-requires
point-requires g c =
    let sorted : c.deref-key-items.result.now ≡ ascending (keys_of c.args.self.now.series) =
    c.deref-key-items.ensures.value ∙ c.in_ok-keys.ensures ∙ ap (λ t. ascending (keys_of t.series)) c.self.view_is in
    ap (has (keys_of c.args.self.now.series)) c.key-item.is
    ∙ ascending_has (keys_of c.args.self.now.series) c.deref-key-items.result.now c.loop-key.key-index c.key-item.result sorted c.loop-key-test.true

pub returns : goal.returns
returns g c = λ s window stands.
    let sorted : c.deref-key-items.result.now ≡ ascending (keys_of c.args.self.now.series) =
    c.deref-key-items.ensures.value ∙ c.in_ok-keys.ensures ∙ ap (λ t. ascending (keys_of t.series)) c.self.view_is in
    let all = take_all c.loop-key.key-index c.deref-key-items.result.now (omega arith) in
    c.in_ok-push_point-2.ensures
    ∙ points_are g.A.Aggregate c.args.self.now s window stands c.deref-key-items.result.now c.loop-key.points.items c.in_ok-overflow_point.field-0 sorted
    (c.loop-key.invariant s window stands ∙ ap (map (λ key. point s window (Some key))) all)
    (c.in_ok-overflow_point.ensures s window stands)
