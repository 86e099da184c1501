-- the texts so far
use Rattle.std.proofs.Common.{◌≡◌, ℕ, List, map, take}
use Rattle.std.specs.Prelude.{is_some}
use Rattle.std.specs.BTreeMap.{get_by_text}
use Rattle.metric_names.specs.Values.{value_text}
use Rattle.metric_family.specs.Words.{is_among}
use Rattle.metric_exposure.proofs.renames.texts_in.Given as goal

abbrev pub invariant-loop-value : goal.invariant-loop-value
invariant-loop-value l = (text : List ℕ) → is_some (get_by_text l.texts text) ≡ is_among (map value_text (take l.value-index l.value-items)) text
