use Rattle.std.proofs.Common.{◌∙◌, ap, sym, Option, option_map, codes}
use Rattle.std.specs.Borrow.{Bor}
use Rattle.std.specs.Option.{option_and_then}
use Rattle.clap.proofs.WalkLemmas.{first_value-rows}
use Rattle.clap.specs.Words.{Text, found_of}
use Rattle.metric_command_lines.specs.Languages.{language_of}
use Rattle.metric_command_lines.proofs.wormweekly.reading.language_in.Goals as goal

pub returns-in-Some : goal.returns-in-Some
returns-in-Some c =
    c.named.ensures
    ∙ ap (λ (read : Option (Bor Text)). option_and_then language_of (option_map (λ s. s.now) read)) (sym c.in-Some.is)
    ∙ ap (λ (read : Option Text). option_and_then language_of read)
    (c.get_str.ensures ∙ first_value-rows (found_of c.args.arguments.now) (codes "language"))

pub returns-in-None : goal.returns-in-None
returns-in-None c =
    ap (λ (read : Option (Bor Text)). option_and_then language_of (option_map (λ s. s.now) read)) (sym c.in-None.is)
    ∙ ap (λ (read : Option Text). option_and_then language_of read)
    (c.get_str.ensures ∙ first_value-rows (found_of c.args.arguments.now) (codes "language"))
