-- The names of the kinds of what is told of queries.
use Rattle.std.specs.Prelude.{ℕ, Bool, ◌||◌, List, codes}
use Rattle.std.specs.Str.{bytes_eq}
use Rattle.metric_promql.specs.declared.kind.QueryKind.{QueryKind}
use Rattle.metric_promql.specs.declared.kind.QueryKind.TheVariants.{Unread, BadPattern, UnknownFamily}
use Rattle.metric_promql.specs.declared.kind.QueryKind.TheVariants.{UnknownSuffix, LeftOut, UnknownLabel}
use Rattle.metric_promql.specs.declared.kind.QueryKind.TheVariants.{UnknownValue, UnknownBoundary}
use Rattle.metric_promql.specs.declared.kind.QueryKind.TheVariants.{MatchesNone, MatchesAll, NeverTogether}
use Rattle.metric_promql.specs.declared.kind.QueryKind.TheVariants.{RateOfGauge, NoBuckets}

abbrev pub kind_name : QueryKind → List ℕ
kind_name Unread = codes "unread"
kind_name BadPattern = codes "bad-pattern"
kind_name UnknownFamily = codes "unknown-family"
kind_name UnknownSuffix = codes "unknown-suffix"
kind_name LeftOut = codes "left-out"
kind_name UnknownLabel = codes "unknown-label"
kind_name UnknownValue = codes "unknown-value"
kind_name UnknownBoundary = codes "unknown-boundary"
kind_name MatchesNone = codes "matches-none"
kind_name MatchesAll = codes "matches-all"
kind_name NeverTogether = codes "never-together"
kind_name RateOfGauge = codes "rate-of-gauge"
kind_name NoBuckets = codes "no-buckets"

-- # kind of what is told of queries (profile) [kind_name, is_query_kind]
-- By its name it is allowed or denied.
abbrev pub is_query_kind : List ℕ → Bool
is_query_kind name =
    bytes_eq name (codes "unread") || bytes_eq name (codes "bad-pattern")
    || bytes_eq name (codes "unknown-family") || bytes_eq name (codes "unknown-suffix")
    || bytes_eq name (codes "left-out") || bytes_eq name (codes "unknown-label")
    || bytes_eq name (codes "unknown-value") || bytes_eq name (codes "unknown-boundary")
    || bytes_eq name (codes "matches-none") || bytes_eq name (codes "matches-all")
    || bytes_eq name (codes "never-together") || bytes_eq name (codes "rate-of-gauge")
    || bytes_eq name (codes "no-buckets")
