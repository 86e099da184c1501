-- How a matcher tests the text of a label.
use Rattle.std.specs.Prelude.{◌≡◌, ℕ, Bool, true, not, List, ◌++◌, codes, is_some}
use Rattle.std.specs.Str.{bytes_eq}
use Rattle.regex.specs.Patterns.{find_str}
use Rattle.regex.specs.Strings.{IsReadFromSource, regex_pattern, regex_source}
use Rattle.regex.specs.declared.string.regex.Regex.{Regex}
use Rattle.metric_promql.specs.declared.selector.Sign.{Sign}
use Rattle.metric_promql.specs.declared.selector.Sign.TheVariants as signs
use Rattle.metric_queries.specs.declared.test.Test.{Test}
use Rattle.metric_queries.specs.declared.test.Test.TheVariants.{Any, Is, IsNot, Like, Unlike}

-- # test of a label (PromQL, instant vector selectors)
-- The text is this one, or another; the expression matches it, or does not. What cannot be read takes
-- each text.
abbrev pub takes : Test → List ℕ → Bool
takes (Is wanted) text = bytes_eq text wanted
takes (IsNot wanted) text = not (bytes_eq text wanted)
takes (Like regex) text = is_some (find_str (regex_pattern regex) text 0)
takes (Unlike regex) text = not (is_some (find_str (regex_pattern regex) text 0))
takes Any text = true

-- # anchored expression (PromQL, regular expressions)
-- It has to match all of a text, whose lines it does not tell apart.
abbrev pub anchored : List ℕ → List ℕ
anchored text = codes "^(?s:" ++ (text ++ codes ")$")

-- the expression is read from this text, anchored
abbrev pub IsReadFrom : List ℕ → Regex → Type 0
IsReadFrom text regex = (regex_source regex ≡ anchored text) × IsReadFromSource regex

-- The test is that of a matcher with this sign and this text; only an expression may be unread.
abbrev pub IsTestOf : Sign → List ℕ → Test → Type 0
IsTestOf signs.Equal text (Is wanted) = wanted ≡ text
IsTestOf signs.NotEqual text (IsNot wanted) = wanted ≡ text
IsTestOf signs.Like text (Like regex) = IsReadFrom text regex
IsTestOf signs.Like text Any = Unit {0}
IsTestOf signs.Unlike text (Unlike regex) = IsReadFrom text regex
IsTestOf signs.Unlike text Any = Unit {0}
IsTestOf sign text test = ⊥
