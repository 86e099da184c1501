-- the entries so far, from none on
use Rattle.std.proofs.Common.{◌≡◌, ◌&&◌, ◌∷◌, map, take}
use Rattle.std.specs.Prelude.{[]}
use Rattle.metric_family.specs.Labels.{label_of}
use Rattle.metric_names.specs.Values.{value_text}
use Rattle.metric_queries.specs.ByKeys.{is_text_asked}
use Rattle.metric_queries.proofs.points.mask_of.Given as goal

abbrev pub invariant-loop-value : goal.invariant-loop-value
invariant-loop-value l =
    l.mask ≡ (l.key.optional && is_text_asked l.is_judged (label_of l.key.name) l.asked [])
    ∷ map (λ value. is_text_asked l.is_judged (label_of l.key.name) l.asked (value_text value))
    (take l.value-index l.values)
