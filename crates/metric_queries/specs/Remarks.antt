-- What is told of a selector.
use Rattle.std.specs.Prelude.{◌≡◌, ◌≢◌, ℕ, Bool, false, ◌&&◌, List, [], ◌∷◌, codes}
use Rattle.std.specs.List.{AllZip, list_any}
use Rattle.std.specs.Str.{bytes_eq}
use Rattle.metric_promql.specs.declared.selector.LabelTest.{LabelTest}
use Rattle.metric_promql.specs.declared.selector.Selector.{Selector}
use Rattle.metric_queries.specs.ByKeys.{served_matches, takes_at}
use Rattle.metric_queries.specs.Matching.{name_label}
use Rattle.metric_queries.specs.Tests.{IsTestOf}
use Rattle.metric_queries.specs.declared.asked.Asked.{Asked}
use Rattle.metric_queries.specs.declared.judging.Remarks.{Remarks}
use Rattle.metric_queries.specs.declared.known.Known.{Known}

-- It is what a matcher asks for.
pub record IsAsked (matcher : LabelTest) (asked : Asked) : Type 0 where
  pub is_label : asked.label ≡ matcher.label
  pub is_test : IsTestOf matcher.sign matcher.text asked.test

-- the names of the series that a server writes itself, and of what describes a target
abbrev pub server_names : List (List ℕ)
server_names =
    codes "up"
    ∷ codes "target_info"
    ∷ codes "scrape_duration_seconds"
    ∷ codes "scrape_samples_scraped"
    ∷ codes "scrape_samples_post_metric_relabeling"
    ∷ codes "scrape_series_added"
    ∷ codes "ALERTS"
    ∷ codes "ALERTS_FOR_STATE"
    ∷ []

-- a name is asked for that a server writes itself
abbrev pub is_servers : List Asked → Bool
is_servers asked =
    list_any (λ one. bytes_eq one.label name_label) asked
    && list_any (λ name. takes_at name_label name asked) server_names

-- some stream of the pages matches
abbrev pub some_match : Known → List Asked → Bool
some_match known asked = list_any (λ served. served_matches known.added.now served asked) known.served.now

-- # what is told of a selector (profile) [AreRemarks, is_servers]
-- Where a reason is told, no stream of the pages matches. Where none does, a reason is told, unless a
-- variable stands in its name, rules record names that may be its own, or it asks for a name that a
-- server writes itself.
pub record AreRemarks (known : Known) (selector : Selector) (remarks : Remarks) : Type 0 where
  pub asked : List Asked
  pub are_asked : AllZip IsAsked selector.tests asked
  pub is_told : remarks.reasons.items ≢ [] → some_match known asked ≡ false
  pub is_whole : known.recorded.now ≡ [] → selector.is_open ≡ false → is_servers asked ≡ false
      → some_match known asked ≡ false → remarks.reasons.items ≢ []
