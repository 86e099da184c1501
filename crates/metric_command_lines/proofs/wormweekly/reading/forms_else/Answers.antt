use Rattle.std.proofs.Common.{◌∙◌, ap, sym, false, not, Option, option_map, codes}
use Rattle.std.specs.Borrow.{Bor}
use Rattle.std.specs.Option.{option_map_or}
use Rattle.std.specs.Prelude.{is_some}
use Rattle.clap.proofs.WalkLemmas.{first_value-rows}
use Rattle.clap.specs.Words.{Text, found_of}
use Rattle.metric_command_lines.specs.Requests.{form_of}
use Rattle.metric_command_lines.specs.declared.wormweekly.request.Form.{Form}
use Rattle.metric_command_lines.proofs.Readings.{none_is_not_some}
use Rattle.metric_command_lines.proofs.wormweekly.reading.forms_else.Goals as goal

pub returns-in-Some : goal.returns-in-Some
returns-in-Some c =
    none_is_not_some _ _ c.is_none.ensures
    ∙ ap (λ (form : Option Form). not (is_some form)) c.form_of.ensures
    ∙ ap (λ (read : Option (Bor Text)). option_map_or (λ word. not (is_some (form_of word))) (option_map (λ s. s.now) read) false) (sym c.in-Some.is)
    ∙ ap (λ (read : Option Text). option_map_or (λ word. not (is_some (form_of word))) read false)
    (c.get_str.ensures ∙ first_value-rows (found_of c.args.arguments.now) (codes "as"))

pub returns-in-None : goal.returns-in-None
returns-in-None c =
    ap (λ (read : Option (Bor Text)). option_map_or (λ word. not (is_some (form_of word))) (option_map (λ s. s.now) read) false) (sym c.in-None.is)
    ∙ ap (λ (read : Option Text). option_map_or (λ word. not (is_some (form_of word))) read false)
    (c.get_str.ensures ∙ first_value-rows (found_of c.args.arguments.now) (codes "as"))
