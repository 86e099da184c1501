use Rattle.std.proofs.Common.{◌∙◌, ap, sym, [], Option, option_map}
use Rattle.std.proofs.lemmas.Result.{IfOk-weaker}
use Rattle.std.specs.Borrow.{Bor}
use Rattle.std.specs.Prelude.{unwrap_or}
use Rattle.clap.proofs.WalkLemmas.{first_value-rows}
use Rattle.clap.specs.Words.{Text, found_of}
use Rattle.metric_command_lines.proofs.wormweekly.reading.text_of.Goals as goal

pub returns-in-Some : goal.returns-in-Some
returns-in-Some c =
    let read = c.get_str.ensures ∙ first_value-rows (found_of c.args.arguments.now) c.args.id.now in
    let is = ap (λ (read : Option (Bor Text)). unwrap_or (option_map (λ s. s.now) read) []) (sym c.in-Some.is) in
    IfOk-weaker c.new.result _ _ (λ text given. given ∙ is ∙ ap (λ (read : Option Text). unwrap_or read []) read) c.new.ensures

pub returns-in-None : goal.returns-in-None
returns-in-None c =
    let read = c.get_str.ensures ∙ first_value-rows (found_of c.args.arguments.now) c.args.id.now in
    let is = ap (λ (read : Option (Bor Text)). unwrap_or (option_map (λ s. s.now) read) []) (sym c.in-None.is) in
    IfOk-weaker c.new-in-None.result _ _ (λ text given. given ∙ is ∙ ap (λ (read : Option Text). unwrap_or read []) read) c.new-in-None.ensures
