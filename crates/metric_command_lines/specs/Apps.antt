-- The commands and options of `wormweekly`, as clap is told of them.
use Rattle.std.specs.Prelude.{ℕ, [], ◌∷◌, Bool, true, false, Some, codes}
use Rattle.clap.specs.Words.{App, Rule, Text, new_app, new_rule, with_rule, with_subcommand}
use Rattle.clap.specs.declared.builder.ArgAction.TheVariants.{Set, SetTrue, Append}
use Rattle.clap.specs.declared.builder.ValueParser.TheVariants.{Unsigned}

-- the path of a file, by its place
abbrev pub file_rule : Text → Bool → Rule
file_rule id required =
    record (new_rule id) { action = Some Set; required = required; value_names = 1 }

-- an option with a text
abbrev pub text_rule : Text → Rule
text_rule id = record (new_rule id) { long = Some id; action = Some Set; value_names = 1 }

-- one that may be given several times
abbrev pub texts_rule : Text → Rule
texts_rule id = record (new_rule id) { long = Some id; action = Some Append; value_names = 1 }

-- a flag, which takes no value and is given once at most
abbrev pub flag_rule : Text → Rule
flag_rule id = record (new_rule id) { long = Some id; action = Some SetTrue }

-- an option with a number in a range
abbrev pub number_rule : Text → ℕ → ℕ → Text → Rule
number_rule id least most default = record (new_rule id) {
  long = Some id;
  action = Some Set;
  value_names = 1;
  parser = Some (Unsigned least most);
  defaults = default ∷ [];
}

-- the widest table, the highest rate and the most processes
abbrev pub most_width : ℕ
most_width = 1000

abbrev pub most_rate : ℕ
most_rate = 1000000000

abbrev pub most_instances : ℕ
most_instances = 1000000

-- the longest time that recordings are to last, in seconds
abbrev pub most_seconds : ℕ
most_seconds = 1000000000

-- a command over a catalogue and a config
abbrev pub pair_app : Text → App
pair_app name =
    with_rule (with_rule (new_app name) (file_rule (codes "catalogue") true))
    (file_rule (codes "config") true)

-- with the option of its output
abbrev pub output_rule : Rule
output_rule = record (text_rule (codes "output")) { short = Some 111 }

-- with those of a table
abbrev pub table_app : Text → App
table_app name =
    with_rule (with_rule (pair_app name) (flag_rule (codes "json")))
    (number_rule (codes "width") 0 most_width (codes "0"))

abbrev pub lint_app : App
lint_app =
    with_rule
    (with_rule
    (with_rule (with_rule (pair_app (codes "lint")) (flag_rule (codes "json")))
    (texts_rule (codes "deny")))
    (texts_rule (codes "allow")))
    (texts_rule (codes "for"))

abbrev pub show_app : App
show_app = table_app (codes "show")

abbrev pub make_app : App
make_app = with_rule (with_rule (pair_app (codes "make")) output_rule) (flag_rule (codes "json"))

abbrev pub check_app : App
check_app =
    with_rule (with_rule (pair_app (codes "check")) (file_rule (codes "certificate") true))
    (flag_rule (codes "json"))

abbrev pub headroom_app : App
headroom_app =
    with_rule
    (with_rule
    (with_rule (table_app (codes "headroom"))
    (number_rule (codes "rate") 1 most_rate (codes "10000")))
    (number_rule (codes "instances") 1 most_instances (codes "1")))
    (number_rule (codes "lasts") 0 most_seconds (codes "0"))

abbrev pub replay_app : App
replay_app = with_rule
    (with_rule
    (with_rule
    (with_rule
    (with_rule
    (with_rule (with_rule (pair_app (codes "replay")) (file_rule (codes "third") true))
    (file_rule (codes "fourth") false))
    (flag_rule (codes "audit")))
    (text_rule (codes "as")))
    (texts_rule (codes "resource")))
    (text_rule (codes "reader")))
    (flag_rule (codes "json"))

-- a command over two old files, and over these and two new ones
abbrev pub old_app : App
old_app =
    with_rule (with_rule (new_app (codes "diff")) (file_rule (codes "old_catalogue") true))
    (file_rule (codes "old_config") true)

abbrev pub compared_app : App
compared_app =
    with_rule (with_rule old_app (file_rule (codes "catalogue") true))
    (file_rule (codes "config") true)

-- the same with what counts of the changes
abbrev pub denied_app : App
denied_app =
    with_rule
    (with_rule
    (with_rule (with_rule compared_app (text_rule (codes "certificate")))
    (text_rule (codes "accepted")))
    (texts_rule (codes "deny")))
    (texts_rule (codes "allow"))

-- a command that may be asked about queries, and the labels that a server adds
abbrev pub queried_app : App → App
queried_app app = with_rule (with_rule app (texts_rule (codes "queries"))) (texts_rule (codes "label"))

abbrev pub diff_app : App
diff_app = queried_app (with_rule denied_app (flag_rule (codes "json")))

-- the option of a file of an old pair
abbrev pub old_rule : Text → Text → Rule
old_rule id long = record (text_rule id) { long = Some long }

-- a command over a catalogue and a config, with its output and the old files that it compares with
abbrev pub changed_app : Text → App
changed_app name =
    with_rule
    (with_rule
    (with_rule (with_rule (pair_app name) output_rule) (flag_rule (codes "json")))
    (old_rule (codes "old_catalogue") (codes "old-catalogue")))
    (old_rule (codes "old_config") (codes "old-config"))

abbrev pub draw_app : App
draw_app = changed_app (codes "draw")

abbrev pub report_app : App
report_app =
    queried_app
    (with_rule
    (with_rule
    (with_rule
    (with_rule (changed_app (codes "report")) (texts_rule (codes "allow")))
    (texts_rule (codes "for")))
    (number_rule (codes "rate") 1 most_rate (codes "10000")))
    (number_rule (codes "instances") 1 most_instances (codes "1")))

-- a command over a catalogue alone
abbrev pub single_app : App
single_app = with_rule (new_app (codes "expand")) (file_rule (codes "catalogue") true)

abbrev pub expand_app : App
expand_app = with_rule single_app output_rule

-- paths of files behind all others, one at least
abbrev pub files_rule : Text → Rule
files_rule id = record (new_rule id) { action = Some Append; required = true; value_names = 1 }

-- a command whose remarks have kinds, and one over queries
abbrev pub concerned_app : App
concerned_app =
    with_rule
    (with_rule (with_rule (pair_app (codes "queries")) (flag_rule (codes "json")))
    (texts_rule (codes "deny")))
    (texts_rule (codes "allow"))

abbrev pub queries_app : App
queries_app =
    with_rule
    (with_rule
    (with_rule (with_rule concerned_app (text_rule (codes "as"))) (text_rule (codes "reader")))
    (texts_rule (codes "label")))
    (files_rule (codes "queries"))

-- a command over a catalogue, which may be without a config, with the language of its code and the
-- file that is compared
abbrev pub bound_app : App
bound_app =
    with_rule (with_rule (new_app (codes "bind")) (file_rule (codes "catalogue") true))
    (file_rule (codes "config") false)

abbrev pub bind_app : App
bind_app =
    with_rule
    (with_rule (with_rule bound_app (old_rule (codes "language") (codes "for")))
    (old_rule (codes "bound") (codes "check")))
    output_rule

-- the program, with its version and without a command
abbrev pub bare_app : App
bare_app =
    let app = new_app (codes "wormweekly") in
    record app { top = record app.top { has_version = true } }

-- the program with its first commands, and with all
abbrev pub first_app : App
first_app =
    with_subcommand
    (with_subcommand (with_subcommand bare_app lint_app.top) show_app.top) headroom_app.top

abbrev pub second_app : App
second_app = with_subcommand (with_subcommand first_app make_app.top) check_app.top

-- # what the words of a command line ask for (profile) [program_app, request_in]
-- What the words of a command line ask for.
abbrev pub program_app : App
program_app =
    with_subcommand
    (with_subcommand
    (with_subcommand
    (with_subcommand
    (with_subcommand (with_subcommand (with_subcommand second_app replay_app.top) draw_app.top)
    diff_app.top)
    report_app.top)
    expand_app.top)
    queries_app.top)
    bind_app.top
