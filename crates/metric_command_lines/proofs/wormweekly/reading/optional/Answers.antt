use Rattle.std.proofs.Common.{◌∙◌, ap, sym, Option, Some, option_map}
use Rattle.std.specs.Borrow.{Bor}
use Rattle.clap.proofs.WalkLemmas.{first_value-rows}
use Rattle.clap.specs.Words.{Text, found_of}
use Rattle.metric_command_lines.proofs.wormweekly.reading.optional.Goals as goal

pub returns-in_ok-new-in-Some : goal.returns-in_ok-new-in-Some
returns-in_ok-new-in-Some c =
    ap (λ (text : Text). Some text) c.in_ok-new-in-Some.ensures
    ∙ ap (λ (read : Option (Bor Text)). option_map (λ s. s.now) read) (sym c.in-Some.is)
    ∙ c.get_str.ensures ∙ first_value-rows (found_of c.args.arguments.now) c.args.id.now

pub returns-in-None : goal.returns-in-None
returns-in-None c =
    ap (λ (read : Option (Bor Text)). option_map (λ s. s.now) read) (sym c.in-None.is)
    ∙ c.get_str.ensures ∙ first_value-rows (found_of c.args.arguments.now) c.args.id.now
