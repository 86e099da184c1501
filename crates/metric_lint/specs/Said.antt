-- What looks like a mistake in what a view says, whatever it selects.
use Rattle.std.specs.Prelude.{◌&&◌, ℕ, Bool, not, is_some, List, [], ◌++◌, Option, Some, None}
use Rattle.std.specs.List.{enumerate_from, flat_map}
use Rattle.metric_views.specs.declared.config.Criteria.{Criteria}
use Rattle.metric_views.specs.declared.config.Settings.{Settings}
use Rattle.metric_views.specs.declared.config.View.{View}
use Rattle.metric_views.specs.Streams.{is_listed}
use Rattle.metric_lint.specs.declared.remark.Remark.{Remark}
use Rattle.metric_lint.specs.declared.remark.Remark.TheVariants as remarks
use Rattle.metric_lint.specs.When.{when}

-- no criterion is given
abbrev pub selects_all : Criteria → Bool
selects_all criteria =
    not (is_some criteria.instrument_name) && not (is_some criteria.instrument_type)
    && not (is_some criteria.instrument_unit) && not (is_some criteria.meter_name)
    && not (is_some criteria.meter_version) && not (is_some criteria.meter_schema_url)

-- no setting is given
abbrev pub changes_nothing : Settings → Bool
changes_nothing settings =
    not (is_some settings.stream_name) && not (is_some settings.description)
    && not (is_some settings.aggregation) && not (is_some settings.boundaries)
    && not (is_some settings.keep) && not (is_some settings.exclude)
    && not (is_some settings.limit)

-- the view has no criterion and no setting
abbrev pub says_nothing : View → Bool
says_nothing view = selects_all view.criteria && changes_nothing view.settings

-- a key with its place stands in another list too
abbrev pub twice_remark : List (List ℕ) → ℕ → ℕ × List ℕ → List Remark
twice_remark exclude view key =
    when (is_listed key.1 exclude) (remarks.KeptAndExcluded view key.0)

abbrev pub twice_remarks : List (List ℕ) → List (List ℕ) → ℕ → List Remark
twice_remarks keep exclude view = flat_map (twice_remark exclude view) (enumerate_from 0 keep)

abbrev pub both_remarks_of : Option (List (List ℕ)) → Option (List (List ℕ)) → ℕ → List Remark
both_remarks_of (Some keep) (Some exclude) view = twice_remarks keep exclude view
both_remarks_of keep exclude view = []

-- each key that a view keeps and excludes
abbrev pub both_remarks : Settings → ℕ → List Remark
both_remarks settings view = both_remarks_of settings.keep settings.exclude view

-- what a view says
abbrev pub said_remarks : View → ℕ → List Remark
said_remarks view number =
    when (says_nothing view) (remarks.SaysNothing number) ++ both_remarks view.settings number
