-- How often an instrument may be recorded before it is no longer safe.
use Rattle.std.specs.Prelude.{◌≡◌, ◌==◌, ℕ, ◌≤◌, ◌+◌, nat_lt, if◌then◌else◌}
use Rattle.std.specs.Prelude.{List, Option, Some, None}
use Rattle.metric_contents.specs.declared.contents.Contents.{Contents}
use Rattle.metric_views.specs.declared.stream.Stream.{Stream}
use Rattle.metric_bounds.specs.Amounts.{total_of}
use Rattle.metric_bounds.specs.Sets.{sets_of}
use Rattle.metric_lint.specs.declared.headroom.Headroom.{Headroom}
use Rattle.metric_lint.specs.declared.limit.Limit.{Limit}
use Rattle.metric_lint.specs.declared.limit.Limit.TheVariants.{Series}
use Rattle.metric_lint.specs.Edges.{IsEdge}
use Rattle.metric_lint.specs.Limits.{OwnFindsAt, TotalFinds}

-- # headroom (profile)
-- The greatest number of recordings of an instrument at which nothing is found, and what is found
-- at one more.
pub record IsHeadroom (contents : Contents) (streams : List Stream) (instrument : ℕ)
    (headroom : Headroom) : Type 0 where
  pub total : headroom.total ≡ total_of contents instrument
  pub safe : TotalFinds contents streams instrument headroom.most None
  pub greatest : (total : ℕ) → TotalFinds contents streams instrument total None
      → total ≤ headroom.most
  pub next : TotalFinds contents streams instrument (headroom.most + 1) (Some headroom.limit)

-- The same of the instrument's own numbers alone.
pub record IsOwnHeadroom (contents : Contents) (streams : List Stream) (instrument : ℕ)
    (headroom : Headroom) : Type 0 where
  pub total : headroom.total ≡ total_of contents instrument
  pub edge : IsEdge (OwnFindsAt contents streams instrument) headroom.most headroom.limit

-- a headroom that is not above a number, which the limit gives, where there is one
abbrev pub tightened : Headroom → Option ℕ → Limit → Headroom
tightened headroom None limit = headroom
tightened headroom (Some most) limit =
    if nat_lt most headroom.most then record headroom { most = most; limit = limit } else headroom

-- the most recordings at which the series of a stream are within its limit, whatever is recorded,
-- or none where each number of them is
abbrev pub most_by_series : Contents → Stream → Option ℕ
most_by_series contents stream =
    if nat_lt stream.limit (sets_of contents stream) then Some stream.limit else None

-- a headroom that is not above what a stream with its number gives, where it is
-- of the instrument of this number
abbrev pub tightened_at : Contents → ℕ → Headroom → ℕ × Stream → Headroom
tightened_at contents instrument headroom stream =
    if stream.1.instrument == instrument
    then tightened headroom (most_by_series contents stream.1) (Series stream.0) else headroom
