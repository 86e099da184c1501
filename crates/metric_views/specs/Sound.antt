-- What holds of every config.
use Rattle.std.specs.Prelude.{◌≡◌, ℕ, ◌<◌, ◌≤◌, false, All, IfSome, List, Some, length, slice_get}
use Rattle.std.specs.Prelude.{take}
use Rattle.metric_catalogue.specs.Sound.{IsFreeText}
use Rattle.metric_contents.specs.declared.contents.Kind.{Kind}
use Rattle.metric_views.specs.declared.config.Criteria.{Criteria}
use Rattle.metric_views.specs.declared.config.Reader.{Reader}
use Rattle.metric_views.specs.declared.config.Settings.{Settings}
use Rattle.metric_views.specs.declared.config.Setup.{Setup}
use Rattle.metric_views.specs.declared.config.View.{View}
use Rattle.metric_views.specs.Choices.{choice_for, is_unfit}
use Rattle.metric_views.specs.Readers.{has_reader}

-- The fact holds of each element of a list, with the elements before it.
abbrev pub EachAt : {Y : Type 0} → (List Y → Y → Type 0) → List Y → Type 0
EachAt {Y} P ys = (k : ℕ) (y : Y) → slice_get ys k ≡ Some y → P (take k ys) y

-- A cardinality limit is 1 to 1,000,000.
abbrev pub IsLimit : ℕ → Type 0
IsLimit limit = (0 < limit) × (limit ≤ 1000000)

-- A reader has a name that no reader before it has, aggregations that fit their kinds, and limits.
pub record IsSoundReader (before : List Reader) (reader : Reader) : Type 0 where
  pub named : 0 < length reader.name
  pub short : IsFreeText reader.name
  pub new : has_reader before reader.name ≡ false
  pub fits : (kind : Kind) → is_unfit kind (choice_for reader.aggregation kind) ≡ false
  pub limited : (kind : Kind) → IsLimit (choice_for reader.limit kind)

-- The texts of criteria are short.
pub record AreSoundCriteria (criteria : Criteria) : Type 0 where
  pub instrument_unit : IfSome criteria.instrument_unit IsFreeText
  pub meter_name : IfSome criteria.meter_name IsFreeText
  pub meter_version : IfSome criteria.meter_version IsFreeText
  pub meter_schema_url : IfSome criteria.meter_schema_url IsFreeText

-- What a view gives its streams has short texts and a limit.
pub record AreSoundSettings (settings : Settings) : Type 0 where
  pub description : IfSome settings.description IsFreeText
  pub keep : IfSome settings.keep (All IsFreeText)
  pub exclude : IfSome settings.exclude (All IsFreeText)
  pub limited : IfSome settings.limit IsLimit

-- A view has sound criteria and settings.
pub record IsSoundView (view : View) : Type 0 where
  pub criteria : AreSoundCriteria view.criteria
  pub settings : AreSoundSettings view.settings

-- # sound config (profile)
-- Reader names are distinct labels, limits are in range, no reader sums gauges, texts are within
-- their lengths.
pub record IsSoundSetup (setup : Setup) : Type 0 where
  pub readers : EachAt IsSoundReader setup.readers
  pub views : All IsSoundView setup.views
