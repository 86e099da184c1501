use Rattle.std.proofs.Common.{◌∙◌, ap, not, sym, [], false, List, Option, codes, map, option_map}
use Rattle.std.specs.Borrow.{Bor}
use Rattle.std.specs.List.{list_any}
use Rattle.std.specs.Prelude.{unwrap_or}
use Rattle.clap.proofs.WalkLemmas.{raw_values-rows}
use Rattle.clap.specs.Words.{Text, found_of}
use Rattle.metric_command_lines.specs.Requests.{is_denied}
use Rattle.metric_command_lines.proofs.Words.{any_lent}
use Rattle.metric_command_lines.proofs.wormweekly.reading.denies_else.Goals as goal

pub returns-in-Some : goal.returns-in-Some
returns-in-Some c =
    c.has_other_than_denied.ensures
    ∙ any_lent (λ word. not (is_denied c.args.task word)) c.in-Some.words.now
    ∙ ap (λ (read : Option (Bor (List (Bor Text)))). list_any (λ word. not (is_denied c.args.task word)) (unwrap_or (option_map (λ s. map (λ v. v.now) s.now) read) [])) (sym c.in-Some.is)
    ∙ ap (λ (read : Option (List Text)). list_any (λ word. not (is_denied c.args.task word)) (unwrap_or read [])) (c.get_strs.ensures ∙ raw_values-rows (found_of c.args.arguments.now) (codes "deny"))

pub returns-in-None : goal.returns-in-None
returns-in-None c =
    ap (λ (read : Option (Bor (List (Bor Text)))). list_any (λ word. not (is_denied c.args.task word)) (unwrap_or (option_map (λ s. map (λ v. v.now) s.now) read) [])) (sym c.in-None.is)
    ∙ ap (λ (read : Option (List Text)). list_any (λ word. not (is_denied c.args.task word)) (unwrap_or read [])) (c.get_strs.ensures ∙ raw_values-rows (found_of c.args.arguments.now) (codes "deny"))
