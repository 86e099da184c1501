-- What the words of a command line mean.
use Rattle.std.specs.Prelude.{◌≡◌, ◌≢◌, Bool, true, false, List, [], Option, Some, None, codes}
use Rattle.std.specs.Prelude.{if◌then◌else◌}
use Rattle.std.specs.Option.{option_map_or}
use Rattle.std.specs.Str.{bytes_eq}
use Rattle.metric_command_lines.specs.Numbers.{number_in}
use Rattle.clap.specs.Words.{Row, Text, fault_of, first_of, subcommand_of, takes}
use Rattle.metric_command_lines.specs.Kit.{kit_app}
use Rattle.metric_command_lines.specs.declared.kit.line.Line.{Line}
use Rattle.metric_command_lines.specs.declared.kit.line.Line.TheVariants.{Make, Check, Show, Replay, Threads}

-- whether a flag was given: clap keeps the text "true" of it then
abbrev pub has_flag : Text → List Row → Bool
has_flag flag rows = option_map_or (λ text. bytes_eq text (codes "true")) (first_of flag rows) false

-- the command by its name, with its flags; no name means a trial
abbrev pub line_in : Option (Text × List Row) → Line
line_in None = Replay true false
line_in (Some (name, rows)) =
    if bytes_eq name (codes "make") then Make
    else if bytes_eq name (codes "check") then Check
    else if bytes_eq name (codes "show") then Show
    else if bytes_eq name (codes "threads") then Threads (number_in (first_of (codes "each") rows))
    else Replay (has_flag (codes "trial") rows) (has_flag (codes "audit") rows)

-- clap has a fault of some kind to tell
abbrev pub IsRefused : List Text → Type 0
IsRefused words = fault_of kit_app words ≢ []

-- clap takes the words, and they mean this line
abbrev pub Means : List Text → Line → Type 0
Means words line = (takes kit_app words ≡ true) × (line_in (subcommand_of kit_app words) ≡ line)
