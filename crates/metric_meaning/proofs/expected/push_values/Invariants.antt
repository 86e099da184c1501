-- the values so far
use Rattle.std.proofs.Common.{◌≡◌, ◌++◌, map, take}
use Rattle.metric_contents.specs.Attributes.{given_by}
use Rattle.metric_names.specs.declared.value.AttrValue.{AttrValue}
use Rattle.metric_meaning.proofs.expected.push_values.Given as goal

abbrev pub invariant-loop-value : goal.invariant-loop-value
invariant-loop-value l =
    map given_by l.attrs.items
    ≡ map given_by l.initial.attrs.items ++ map (λ (value : AttrValue). (l.key.name, value)) (take l.value-index l.key.values)
