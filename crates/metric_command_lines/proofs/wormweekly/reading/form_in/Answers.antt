use Rattle.std.proofs.Common.{◌∙◌, ap, sym, Option, option_map, codes}
use Rattle.std.specs.Borrow.{Bor}
use Rattle.std.specs.Option.{option_and_then}
use Rattle.std.specs.Prelude.{unwrap_or}
use Rattle.clap.proofs.WalkLemmas.{first_value-rows}
use Rattle.clap.specs.Words.{Text, found_of}
use Rattle.metric_command_lines.specs.Requests.{form_of}
use Rattle.metric_command_lines.specs.declared.wormweekly.request.Form.{Form}
use Rattle.metric_command_lines.specs.declared.wormweekly.request.Form.TheVariants.{Replies}
use Rattle.metric_command_lines.proofs.wormweekly.reading.form_in.Goals as goal

pub returns-in-Some : goal.returns-in-Some
returns-in-Some c =
    c.unwrap_or.ensures
    ∙ ap (λ (form : Option Form). unwrap_or form Replies) c.form_of.ensures
    ∙ ap (λ (read : Option (Bor Text)). unwrap_or (option_and_then form_of (option_map (λ s. s.now) read)) Replies) (sym c.in-Some.is)
    ∙ ap (λ (read : Option Text). unwrap_or (option_and_then form_of read) Replies)
    (c.get_str.ensures ∙ first_value-rows (found_of c.args.arguments.now) (codes "as"))

pub returns-in-None : goal.returns-in-None
returns-in-None c =
    ap (λ (read : Option (Bor Text)). unwrap_or (option_and_then form_of (option_map (λ s. s.now) read)) Replies) (sym c.in-None.is)
    ∙ ap (λ (read : Option Text). unwrap_or (option_and_then form_of read) Replies)
    (c.get_str.ensures ∙ first_value-rows (found_of c.args.arguments.now) (codes "as"))
