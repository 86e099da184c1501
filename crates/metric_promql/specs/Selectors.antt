-- What selectors have.
use Rattle.std.specs.Prelude.{ℕ, Bool, true, false, ◌&&◌, List, Option, codes, find}
use Rattle.std.specs.Option.{option_map}
use Rattle.std.specs.Str.{bytes_eq}
use Rattle.metric_promql.specs.declared.selector.LabelTest.{LabelTest}
use Rattle.metric_promql.specs.declared.selector.Selector.{Selector}
use Rattle.metric_promql.specs.declared.selector.Sign.{Sign}
use Rattle.metric_promql.specs.declared.selector.Sign.TheVariants.{Equal, NotEqual, Like, Unlike}

-- how a matcher is written
abbrev pub sign_text : Sign → List ℕ
sign_text Equal = codes "="
sign_text NotEqual = codes "!="
sign_text Like = codes "=~"
sign_text Unlike = codes "!~"

abbrev pub is_equal : Sign → Bool
is_equal Equal = true
is_equal NotEqual = false
is_equal Like = false
is_equal Unlike = false

-- it says which text the name is
abbrev pub is_name : LabelTest → Bool
is_name test = is_equal test.sign && bytes_eq test.label (codes "__name__")

-- # name of a selector (PromQL, instant vector selectors) [is_name]
-- The text of the first matcher of `__name__` by `=`, as which a name before the braces counts.
abbrev pub name_of : Selector → Option (List ℕ)
name_of selector = option_map (λ (test : LabelTest). test.text) (find is_name selector.tests)
