use Rattle.std.proofs.Common.{◌∙◌, ap, sym, Option, option_map, codes}
use Rattle.std.proofs.lemmas.Result.{IfOk-weaker}
use Rattle.std.specs.Borrow.{Bor}
use Rattle.clap.proofs.WalkLemmas.{first_value-rows}
use Rattle.clap.specs.Words.{Text, found_of}
use Rattle.metric_command_lines.proofs.Choices.{none_chosen, some_chosen}
use Rattle.metric_command_lines.proofs.wormweekly.reading.script_of.Goals as goal

pub returns-in-Some : goal.returns-in-Some
returns-in-Some c =
    let read = sym (first_value-rows (found_of c.args.arguments.now) (codes "fourth")) ∙ sym c.get_str.ensures in
    let given = read ∙ ap (λ (read : Option (Bor Text)). option_map (λ s. s.now) read) c.in-Some.is in
    IfOk-weaker c.optional.result _ _ (λ path is. is ∙ some_chosen _ _ _ _ given) c.optional.ensures

pub returns-in-None : goal.returns-in-None
returns-in-None c =
    let read = sym (first_value-rows (found_of c.args.arguments.now) (codes "fourth")) ∙ sym c.get_str.ensures in
    let given = read ∙ ap (λ (read : Option (Bor Text)). option_map (λ s. s.now) read) c.in-None.is in
    IfOk-weaker c.optional-in-None.result _ _ (λ path is. is ∙ none_chosen _ _ _ given) c.optional-in-None.ensures
