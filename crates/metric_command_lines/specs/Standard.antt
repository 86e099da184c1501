-- Standard input and standard output, where files are named.
use Rattle.std.specs.Prelude.{Bool, false, ℕ, List, [], ◌∷◌, Option, Some, None, codes, count_by, nat_lt, sum, ◌+◌}
use Rattle.std.specs.Prelude.{if◌then◌else◌, map}
use Rattle.std.specs.Option.{option_and_then, option_map_or}
use Rattle.std.specs.Str.{bytes_eq}
use Rattle.clap.specs.Words.{Text}
use Rattle.metric_command_lines.specs.declared.wormweekly.request.Files.{Files}

-- # standard input and output as files (profile) [is_standard, output_of, reads_twice]
-- The path `-` is no file, but standard input where it is read, and standard output where it is
-- written.
abbrev pub is_standard : Text → Bool
is_standard path = bytes_eq path (codes "-")

-- the file to write to, which standard output is not
abbrev pub output_of : Option Text → Option Text
output_of path = option_and_then (λ p. if is_standard p then None else Some p) path

-- the paths of the files that a command reads, but for those of queries
abbrev pub inputs_of : Files → List (Option Text)
inputs_of files =
    files.old_catalogue ∷ files.old_config ∷ Some files.catalogue ∷ Some files.config
    ∷ files.certificate ∷ files.accepted ∷ files.script ∷ files.bound ∷ []

-- 1 for standard input, else 0
abbrev pub times_of : Option Text → ℕ
times_of path = if option_map_or is_standard path false then 1 else 0

-- standard input, which can be read once, is named more often
abbrev pub reads_twice : Files → Bool
reads_twice files =
    nat_lt 1 (sum (map times_of (inputs_of files)) + count_by is_standard files.queries)
