-- What the words of a command line mean.
use Rattle.std.specs.Prelude.{◌==◌, ◌&&◌, ◌||◌, Bool, true, false, not, List, [], Option, Some, None}
use Rattle.std.specs.Prelude.{Result, codes, is_some, if◌then◌else◌, unwrap_or}
use Rattle.std.specs.List.{before_first, list_any}
use Rattle.std.specs.Option.{option_and_then, option_map_or}
use Rattle.std.specs.Result.{result_unwrap_or}
use Rattle.std.specs.Str.{bytes_eq}
use Rattle.clap.specs.Words.{Row, Text, all_of, first_of}
use Rattle.metric_base.specs.Steps.{◌>>=◌, require}
use Rattle.metric_lint.specs.Kinds.{is_kind}
use Rattle.metric_diff.specs.Kinds.{is_change}
use Rattle.metric_contents.specs.declared.attributes.OwnedAttr.{OwnedAttr}
use Rattle.metric_command_lines.specs.Attributes.{resource_in}
use Rattle.metric_command_lines.specs.Languages.{language_of}
use Rattle.metric_command_lines.specs.Numbers.{number_in}
use Rattle.metric_command_lines.specs.declared.language.Language.{Language}
use Rattle.metric_command_lines.specs.declared.wormweekly.fault.Misuse.{Misuse}
use Rattle.metric_command_lines.specs.declared.wormweekly.fault.Misuse.TheVariants.{Deny, Allow, Outlet, Audit, Resource, Input}
use Rattle.metric_command_lines.specs.declared.wormweekly.fault.Misuse.TheVariants as misuses
use Rattle.metric_command_lines.specs.declared.wormweekly.request.Concerns.{Concerns}
use Rattle.metric_command_lines.specs.declared.wormweekly.request.Files.{Files}
use Rattle.metric_command_lines.specs.declared.wormweekly.request.Form.{Form}
use Rattle.metric_command_lines.specs.declared.wormweekly.request.Form.TheVariants.{Replies, OtlpLines, OtlpBytes}
use Rattle.metric_command_lines.specs.declared.wormweekly.request.Form.TheVariants.{Prometheus, OpenMetrics}
use Rattle.metric_command_lines.specs.declared.wormweekly.request.Form.TheVariants.{OpenMetricsCreated}
use Rattle.metric_promql.specs.Kinds.{is_query_kind}
use Rattle.metric_command_lines.specs.Forms.{is_page}
use Rattle.metric_command_lines.specs.Standard.{output_of, reads_twice}
use Rattle.metric_command_lines.specs.declared.wormweekly.request.Options.{Options}
use Rattle.metric_command_lines.specs.declared.wormweekly.request.Request.{Request}
use Rattle.metric_command_lines.specs.declared.wormweekly.request.Task.{Task}
use Rattle.metric_command_lines.specs.declared.wormweekly.request.Task.TheVariants.{Lint, Show, Make, Check}
use Rattle.metric_command_lines.specs.declared.wormweekly.request.Task.TheVariants.{Headroom, Replay, Draw, Diff}
use Rattle.metric_command_lines.specs.declared.wormweekly.request.Task.TheVariants.{Expand, Queries, Report, Bind}

-- the command by its name
abbrev pub task_of : Text → Task
task_of name =
    if bytes_eq name (codes "lint") then Lint
    else if bytes_eq name (codes "show") then Show
    else if bytes_eq name (codes "make") then Make
    else if bytes_eq name (codes "check") then Check
    else if bytes_eq name (codes "headroom") then Headroom
    else if bytes_eq name (codes "replay") then Replay
    else if bytes_eq name (codes "diff") then Diff
    else if bytes_eq name (codes "report") then Report
    else if bytes_eq name (codes "expand") then Expand
    else if bytes_eq name (codes "queries") then Queries
    else if bytes_eq name (codes "bind") then Bind
    else Draw

-- an argument was given this word
abbrev pub has_word : Text → Text → List Row → Bool
has_word id word rows = option_map_or (λ text. bytes_eq text word) (first_of id rows) false

-- the form that a word names
abbrev pub form_of : Text → Option Form
form_of word =
    if bytes_eq word (codes "otlp-json") then Some OtlpLines
    else if bytes_eq word (codes "otlp-bytes") then Some OtlpBytes
    else if bytes_eq word (codes "prometheus") then Some Prometheus
    else if bytes_eq word (codes "openmetrics") then Some OpenMetrics
    else if bytes_eq word (codes "openmetrics-created") then Some OpenMetricsCreated
    else None

-- the form that a replay has; without `--as` it prints the replies
abbrev pub form_in : List Row → Form
form_in rows = unwrap_or (option_and_then form_of (first_of (codes "as") rows)) Replies

-- `--as` was given a word that names no form
abbrev pub forms_else : List Row → Bool
forms_else rows =
    option_map_or (λ word. not (is_some (form_of word))) (first_of (codes "as") rows) false

-- the command is over the lines of pages, whatever is printed
abbrev pub is_over_pages : Task → Bool
is_over_pages Queries = true
is_over_pages task = false

-- the language that code is to be made for
abbrev pub language_in : List Row → Option Language
language_in rows = option_and_then language_of (first_of (codes "language") rows)

-- the command makes code
abbrev pub is_bind : Task → Bool
is_bind Bind = true
is_bind task = false

-- code is to be made, and no language is named
abbrev pub languages_else : Task → List Row → Bool
languages_else task rows = option_map_or (λ language. false) (language_in rows) (is_bind task)

-- a reader is named where no page is printed, nor asked about
abbrev pub reads_else : Task → List Row → Bool
reads_else task rows =
    not (is_over_pages task)
    && (is_some (first_of (codes "reader") rows) && not (is_page (form_in rows)))

-- what is asked about is named, and is no page
abbrev pub asks_for_no_page : Task → List Row → Bool
asks_for_no_page task rows =
    is_over_pages task && (is_some (first_of (codes "as") rows) && not (is_page (form_in rows)))

-- the words of all uses of an option
abbrev pub words_in : Text → List Row → List Text
words_in id rows = unwrap_or (all_of id rows) []

-- a word is a kind of what the command tells: of change, or of remark
abbrev pub is_concern : Task → Text → Bool
is_concern Diff word = is_change word || bytes_eq word (codes "broken-query")
is_concern Queries word = is_query_kind word
is_concern task word = bytes_eq word (codes "exposure") || is_kind word

-- the word for all that may be denied
abbrev pub all_word : Task → Text
all_word Diff = codes "breaking"
all_word task = codes "remarks"

abbrev pub is_denied : Task → Text → Bool
is_denied task word = bytes_eq word (all_word task) || is_concern task word

-- a use of `--deny` names neither a kind nor all
abbrev pub denies_else : Task → List Row → Bool
denies_else task rows = list_any (λ word. not (is_denied task word)) (words_in (codes "deny") rows)

-- a use of `--allow` names no kind
abbrev pub allows_else : Task → List Row → Bool
allows_else task rows =
    list_any (λ word. not (is_concern task word)) (words_in (codes "allow") rows)

abbrev pub concerns_in : List Row → Concerns
concerns_in rows = record {
  allowed = words_in (codes "allow") rows;
  denied = words_in (codes "deny") rows;
  outlets = words_in (codes "for") rows;
  labels = words_in (codes "label") rows;
}

-- the way out that a word of `--for` names, before the reader where there is one
abbrev pub outlet_of : Text → Text
outlet_of word = before_first (λ b. b == 61) word

abbrev pub is_outlet : Text → Bool
is_outlet word =
    bytes_eq (outlet_of word) (codes "prometheus") || bytes_eq (outlet_of word) (codes "otlp")

-- a use of `--for` names no way out
abbrev pub outlets_else : List Row → Bool
outlets_else rows = list_any (λ word. not (is_outlet word)) (words_in (codes "for") rows)

-- the text of an argument that has to be given
abbrev pub text_in : Text → List Row → Text
text_in id rows = unwrap_or (first_of id rows) []

-- Of the two last files of a replay the certificate is the first, where there are two.
abbrev pub certificate_in : List Row → Option Text
certificate_in rows =
    if is_some (first_of (codes "fourth") rows) then first_of (codes "third") rows
    else first_of (codes "certificate") rows

abbrev pub script_in : List Row → Option Text
script_in rows =
    if is_some (first_of (codes "fourth") rows) then first_of (codes "fourth") rows
    else first_of (codes "third") rows

-- an old file: where the other old one alone is named, it is the new one
abbrev pub old_in : Text → Text → Text → List Row → Option Text
old_in id other new rows =
    if not (is_some (first_of id rows)) && is_some (first_of other rows) then Some (text_in new rows)
    else first_of id rows

abbrev pub files_in : List Row → Files
files_in rows = record {
  old_catalogue = old_in (codes "old_catalogue") (codes "old_config") (codes "catalogue") rows;
  old_config = old_in (codes "old_config") (codes "old_catalogue") (codes "config") rows;
  catalogue = text_in (codes "catalogue") rows;
  config = text_in (codes "config") rows;
  certificate = certificate_in rows;
  accepted = first_of (codes "accepted") rows;
  script = script_in rows;
  queries = words_in (codes "queries") rows;
  bound = first_of (codes "bound") rows;
  output = output_of (first_of (codes "output") rows);
}

abbrev pub options_in : List Row → Options
options_in rows = record {
  json = has_word (codes "json") (codes "true") rows;
  audit = has_word (codes "audit") (codes "true") rows;
  form = form_in rows;
  language = language_in rows;
  width = number_in (first_of (codes "width") rows);
  rate = number_in (first_of (codes "rate") rows);
  instances = number_in (first_of (codes "instances") rows);
  lasts = number_in (first_of (codes "lasts") rows);
}

-- the resource that is asked for, or the first misuse of an option
unfoldable pub resource_asked : Task → List Row → Result (List OwnedAttr) Misuse
resource_asked task rows = do
  _ ← require (not (denies_else task rows)) Deny
  _ ← require (not (allows_else task rows)) Allow
  _ ← require (not (outlets_else rows)) Outlet
  _ ← require (not (forms_else rows || asks_for_no_page task rows)) misuses.Form
  _ ← require (not (is_some (first_of (codes "as") rows)
      && has_word (codes "audit") (codes "true") rows)) Audit
  _ ← require (is_some (first_of (codes "as") rows)
      || not (is_some (first_of (codes "resource") rows))) Resource
  _ ← require (not (reads_else task rows)) misuses.Reader
  _ ← require (not (reads_twice (files_in rows))) Input
  _ ← require (not (languages_else task rows)) misuses.Language
  resource_in (words_in (codes "resource") rows)

-- the request of a command by its name, with its arguments
abbrev pub request_in : Text × List Row → Request
request_in named =
    record {
      task = task_of named.0;
      files = files_in named.1;
      options = options_in named.1;
      concerns = concerns_in named.1;
      resource = result_unwrap_or (resource_asked (task_of named.0) named.1) [];
      reader = first_of (codes "reader") named.1;
    }
