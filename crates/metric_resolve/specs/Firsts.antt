-- The first stream of each key, as a map keeps it.
use Rattle.std.specs.Prelude.{ℕ, Option}
use Rattle.std.specs.BTreeMap.{get, BTreeMap}
use Rattle.metric_resolve.specs.declared.stream_key.StreamKey.{StreamKey}
use Rattle.metric_resolve.specs.StreamKeys.{key_order}

-- the number that is kept for a key
abbrev pub first_in : BTreeMap StreamKey ℕ → StreamKey → Option ℕ
first_in firsts key = get key_order firsts key
