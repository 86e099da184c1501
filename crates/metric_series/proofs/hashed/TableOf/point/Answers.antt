-- the series is there, and has the recordings of its set key
use Rattle.std.proofs.Common.{◌≡◌, Some, Option, None, Bor, refl, ap, sym, ◌∙◌}
use Rattle.std.specs.Map.{keys_of, lookup}
use Rattle.std.specs.Option.{option_copied}
use Rattle.std.specs.Prelude.{is_some}
use Rattle.std.specs.Str.{bytes_eq}
use Rattle.std.proofs.lemmas.Result.{IfOk-weaker}
use Rattle.metric_history.specs.Series.{has}
use Rattle.metric_series.specs.Calls.{point_of as point_by}
use Rattle.metric_series.proofs.Adding.{lookup-held}
use Rattle.metric_series.proofs.Reading.{point_is}
use Rattle.metric_series.proofs.hashed.TableOf.point.Goals as goal

is_some-option_copied : {X : Type 0} (o : Option (Bor X)) → is_some (option_copied o) ≡ is_some o
is_some-option_copied None = refl
is_some-option_copied (Some x) = refl

pub unwrap-aggregate-requires : goal.unwrap-aggregate-requires
unwrap-aggregate-requires g c =
    sym (is_some-option_copied c.get.result)
    ∙ ap is_some c.get.ensures.value
    ∙ lookup-held c.args.key.now c.self.inside.series.entries
    ∙ ap (λ t. has (keys_of t.series) c.args.key.now) c.self.view_is
    ∙ c.requires

pub returns : goal.returns
returns g c = IfOk-weaker c.point_of.result _ _
    (λ point read s window stands.
    let at : lookup (bytes_eq c.args.key.now) c.args.self.now.series ≡ Some c.unwrap-aggregate.result.now =
    ap (λ t. lookup (bytes_eq c.args.key.now) t.series) (sym c.self.view_is) ∙ sym c.get.ensures.value ∙ ap option_copied c.unwrap-aggregate.ensures in
    point_is g.A.Aggregate c.args.self.now s window stands c.args.key.now c.unwrap-aggregate.result.now point c.requires at
    (λ added had. read added had ∙ ap (λ set. point_by (g.A.Aggregate.aggregation c.unwrap-aggregate.result.now) (Some set) added) c.set.ensures))
    c.point_of.ensures
