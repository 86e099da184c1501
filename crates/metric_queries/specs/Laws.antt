-- What holds of selectors that are told.
use Rattle.std.specs.Prelude.{◌≡◌, ◌≢◌, ℕ, [], false, true, List, Some, length, map, slice_get}
use Rattle.std.specs.List.{AllZip, list_all}
use Rattle.metric_contents.specs.declared.contents.Contents.{Contents}
use Rattle.metric_contents.specs.declared.contents.Instrument.{Instrument}
use Rattle.metric_facts.specs.Facts.{is_full_set, key_facts}
use Rattle.metric_views.specs.declared.stream.Stream.{Stream}
use Rattle.metric_exposure.specs.Laws.{Passes}
use Rattle.metric_exposure.specs.Sources.{keys_of}
use Rattle.metric_exposition.specs.declared.dialect.Dialect.{Dialect}
use Rattle.metric_promql.specs.declared.selector.LabelTest.{LabelTest}
use Rattle.metric_promql.specs.declared.selector.Selector.{Selector}
use Rattle.metric_queries.specs.ByKeys.{IsServed, served_matches}
use Rattle.metric_queries.specs.Lines.{CanMatch}
use Rattle.metric_queries.specs.Remarks.{AreRemarks, IsAsked}
use Rattle.metric_queries.specs.declared.asked.Asked.{Asked}
use Rattle.metric_queries.specs.declared.judging.Remarks.{Remarks}
use Rattle.metric_queries.specs.declared.known.Known.{Known}
use Rattle.metric_queries.specs.declared.served.Served.{Served}

-- # keys are enough (profile)
-- Where a reader's streams pass for pages, a selector that does not match key by key matches no
-- line that a page can have of any set.
abbrev pub KeysAreEnough : Type 0
KeysAreEnough =
    (added : List (List ℕ)) (dialect : Dialect) (contents : Contents) (streams : List Stream)
    (reader number : ℕ) (stream : Stream) (served : Served) (asked : List Asked)
    → Passes contents streams reader number stream
    → IsServed dialect contents stream served
    → served_matches added served asked ≡ false
    → CanMatch added dialect contents stream asked → ⊥

-- The combinations that an instrument lists are full sets of its keys.
abbrev pub AreFullRows : Contents → Stream → Type 0
AreFullRows contents stream =
    (instrument : Instrument) (rows : List (List ℕ))
    → slice_get contents.instruments stream.instrument ≡ Some instrument
    → instrument.allowed ≡ Some rows
    → list_all (is_full_set (map key_facts (keys_of contents stream))) rows ≡ true

-- # sets are found (profile)
-- A selector that matches key by key matches a line that a page can have of some set.
abbrev pub SetsAreFound : Type 0
SetsAreFound =
    (added : List (List ℕ)) (dialect : Dialect) (contents : Contents) (streams : List Stream)
    (reader number : ℕ) (stream : Stream) (served : Served) (asked : List Asked)
    → Passes contents streams reader number stream
    → length stream.kept ≡ length (keys_of contents stream)
    → AreFullRows contents stream
    → IsServed dialect contents stream served
    → served_matches added served asked ≡ true
    → CanMatch added dialect contents stream asked

-- No line that a page can have of the stream fulfils what the matchers ask for.
pub record MatchNone (added : List (List ℕ)) (dialect : Dialect) (contents : Contents)
    (stream : Stream) (matchers : List LabelTest) : Type 0 where
  pub asked : List Asked
  pub are_asked : AllZip IsAsked matchers asked
  pub none : CanMatch added dialect contents stream asked → ⊥

-- # what is told matches nothing (profile)
-- Where a reason is told of a selector, it matches no line that a page can have of any stream of
-- the pages, of any set and in any window, where the streams of their readers pass for pages.
abbrev pub ToldMatchNothing : Type 0
ToldMatchNothing =
    (known : Known) (selector : Selector) (remarks : Remarks) (dialect : Dialect)
    (contents : Contents) (streams : List Stream) (reader number place : ℕ) (stream : Stream)
    (served : Served) → AreRemarks known selector remarks → remarks.reasons.items ≢ []
    → Passes contents streams reader number stream
    → slice_get known.served.now place ≡ Some served
    → IsServed dialect contents stream served
    → MatchNone known.added.now dialect contents stream selector.tests
