use Rattle.std.proofs.Common.{◌∙◌, ap, sym, Option, option_map}
use Rattle.std.specs.Borrow.{Bor}
use Rattle.clap.proofs.WalkLemmas.{first_value-rows}
use Rattle.clap.specs.Words.{Text, found_of}
use Rattle.metric_command_lines.specs.Numbers.{number_in}
use Rattle.metric_command_lines.proofs.numbers.number_of.Goals as goal

pub returns-in-Some : goal.returns-in-Some
returns-in-Some c =
    c.number_from.ensures
    ∙ ap (λ (read : Option (Bor Text)). number_in (option_map (λ s. s.now) read)) (sym c.in-Some.is)
    ∙ ap number_in (c.get_str.ensures ∙ first_value-rows (found_of c.args.arguments.now) c.args.option.now)

pub returns-in-None : goal.returns-in-None
returns-in-None c =
    ap (λ (read : Option (Bor Text)). number_in (option_map (λ s. s.now) read)) (sym c.in-None.is)
    ∙ ap number_in (c.get_str.ensures ∙ first_value-rows (found_of c.args.arguments.now) c.args.option.now)
