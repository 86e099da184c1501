-- The languages that code is made for.
use Rattle.std.specs.Prelude.{Option, Some, None, codes, if◌then◌else◌}
use Rattle.std.specs.Str.{bytes_eq}
use Rattle.clap.specs.Words.{Text}
use Rattle.metric_command_lines.specs.declared.language.Language.{Language}
use Rattle.metric_command_lines.specs.declared.language.Language.TheVariants as languages

-- the language that a word names
abbrev pub language_of : Text → Option Language
language_of word =
    if bytes_eq word (codes "rust") then Some languages.Rust
    else if bytes_eq word (codes "go") then Some languages.Go
    else if bytes_eq word (codes "python") then Some languages.Python
    else if bytes_eq word (codes "c") then Some languages.C
    else if bytes_eq word (codes "rattle") then Some languages.Rattle
    else None
