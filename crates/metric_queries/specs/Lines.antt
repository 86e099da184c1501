-- The lines that a page can have of a stream, as labels, and what they fulfil.
use Rattle.std.specs.Prelude.{◌≡◌, ℕ, ◌<◌, Bool, true, ◌||◌, List, ◌∷◌, Option, Some, None, codes, slice_get}
use Rattle.std.specs.List.{list_all}
use Rattle.metric_contents.specs.declared.contents.Contents.{Contents}
use Rattle.metric_contents.specs.declared.contents.Instrument.{Instrument}
use Rattle.metric_contents.specs.declared.contents.Meter.{Meter}
use Rattle.metric_combinations.specs.Combinations.{permits}
use Rattle.metric_combinations.specs.Restrictions.{restricted}
use Rattle.metric_bounds.specs.Sets.{sets_of}
use Rattle.metric_views.specs.declared.stream.Stream.{Stream}
use Rattle.metric_family.specs.Labels.{Label, point_labels}
use Rattle.metric_exposure.specs.Laws.{IsFull, text_at}
use Rattle.metric_exposure.specs.Sources.{keys_of, meter_of}
use Rattle.metric_exposition.specs.declared.dialect.Dialect.{Dialect}
use Rattle.metric_queries.specs.Matching.{is_open, kept_labels, name_label}
use Rattle.metric_queries.specs.Samples.{samples_of}
use Rattle.metric_queries.specs.Tests.{takes}
use Rattle.metric_queries.specs.declared.asked.Asked.{Asked}
use Rattle.metric_queries.specs.declared.sample.Sample.{Sample}

-- the labels of a line: its name, the boundary of its bucket, and those of its point
abbrev pub line_labels : Contents → Stream → Meter → List ℕ → List ℕ → Option (List ℕ) → List Label
line_labels contents stream meter name mark set =
    (name_label, name) ∷ (codes "le", mark)
    ∷ point_labels meter (keys_of contents stream) stream.kept set

-- # set that a stream can have (Common, attribute)
-- A full set of the keys of its instrument, one of the allowed combinations where these are listed,
-- of which the stream keeps some keys.
pub record IsSetOf (contents : Contents) (stream : Stream) (set : List ℕ) : Type 0 where
  pub instrument : Instrument
  pub is_own : slice_get contents.instruments stream.instrument ≡ Some instrument
  pub recorded : List ℕ
  pub is_full : IsFull contents stream recorded
  pub is_permitted : permits instrument.allowed recorded ≡ true
  pub is_seen : set ≡ restricted stream.kept recorded

-- what a point can be of: such a set, or the overflow where the stream can have more sets than its
-- limit
abbrev pub CanBeOf : Contents → Stream → Option (List ℕ) → Type 0
CanBeOf contents stream (Some set) = IsSetOf contents stream set
CanBeOf contents stream None = stream.limit < sets_of contents stream

-- # line that a page can have (profile) [IsLine, line_labels, CanBeOf]
-- Of a sample of the stream, with one of its boundaries, and of a point that there can be.
pub record IsLine (dialect : Dialect) (contents : Contents) (stream : Stream) (labels : List Label)
    : Type 0 where
  pub meter : Meter
  pub is_meter : meter_of contents stream ≡ Some meter
  pub sample : Sample
  pub place : ℕ
  pub is_sample : slice_get (samples_of dialect stream) place ≡ Some sample
  pub mark : List ℕ
  pub number : ℕ
  pub is_mark : slice_get sample.marks number ≡ Some mark
  pub set : Option (List ℕ)
  pub can_be : CanBeOf contents stream set
  pub is_labels : labels ≡ line_labels contents stream meter sample.name mark set

-- a line fulfils a matcher: a label that it does not have is like one with an empty text
abbrev pub fulfils : List (List ℕ) → List (List ℕ) → List Label → Asked → Bool
fulfils added labels line asked =
    is_open added labels asked.label || takes asked.test (text_at line asked.label)

-- # selector that can match (PromQL, instant vector selectors) [CanMatch, fulfils]
-- Some line that a page can have of the stream fulfils each of its matchers.
pub record CanMatch (added : List (List ℕ)) (dialect : Dialect) (contents : Contents)
    (stream : Stream) (asked : List Asked) : Type 0 where
  pub line : List Label
  pub is_line : IsLine dialect contents stream line
  pub fulfilled : list_all (fulfils added (kept_labels contents stream) line) asked ≡ true
