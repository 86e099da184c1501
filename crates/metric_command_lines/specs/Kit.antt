-- The program's commands and flags, as clap is told of them.
use Rattle.std.specs.Prelude.{ℕ, true, Some, codes}
use Rattle.clap.specs.Words.{App, Rule, new_app, new_rule, with_rule, with_subcommand}
use Rattle.clap.specs.declared.builder.ArgAction.TheVariants.{Set, SetTrue}
use Rattle.clap.specs.declared.builder.ValueParser.TheVariants.{Unsigned}

-- how often `threads` records at most, by each recorder on each instrument
abbrev pub most_each : ℕ
most_each = 1000000

-- the flag `--trial`, which takes no value and is given once at most
abbrev pub trial_flag : Rule
trial_flag =
    record (new_rule (codes "trial")) { long = Some (codes "trial"); action = Some SetTrue }

-- the flag `--audit`, the same
abbrev pub audit_flag : Rule
audit_flag =
    record (new_rule (codes "audit")) { long = Some (codes "audit"); action = Some SetTrue }

-- the option `--each`, which has to be given, once, with a number in its range
abbrev pub each_option : Rule
each_option = record (new_rule (codes "each")) {
  long = Some (codes "each");
  action = Some Set;
  parser = Some (Unsigned 0 most_each);
  required = true;
}

abbrev pub make_app : App
make_app = new_app (codes "make")

abbrev pub check_app : App
check_app = new_app (codes "check")

abbrev pub show_app : App
show_app = new_app (codes "show")

abbrev pub replay_app : App
replay_app = with_rule (with_rule (new_app (codes "replay")) trial_flag) audit_flag

abbrev pub threads_app : App
threads_app = with_rule (new_app (codes "threads")) each_option

-- the program, with a subcommand for each command that has no flags
abbrev pub plain_app : App
plain_app =
    with_subcommand (with_subcommand
    (with_subcommand (new_app (codes "metric_kit")) make_app.top) check_app.top) show_app.top

-- the program, with a subcommand for each command
abbrev pub kit_app : App
kit_app = with_subcommand (with_subcommand plain_app replay_app.top) threads_app.top
