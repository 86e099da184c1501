use Rattle.std.proofs.Common.{◌≡◌, ◌∙◌, ap, subst, sym, [], List, Option, map, option_map}
use Rattle.std.specs.Borrow.{Bor}
use Rattle.std.specs.Prelude.{IfOk, unwrap_or}
use Rattle.clap.proofs.WalkLemmas.{raw_values-rows}
use Rattle.clap.specs.Words.{Text, found_of}
use Rattle.metric_command_lines.proofs.wormweekly.reading.words_in.Goals as goal

pub returns-in-Some : goal.returns-in-Some
returns-in-Some c =
    let read = ap (λ (read : Option (Bor (List (Bor Text)))). unwrap_or (option_map (λ s. map (λ v. v.now) s.now) read) []) (sym c.in-Some.is)
    ∙ ap (λ (read : Option (List Text)). unwrap_or read []) (c.get_strs.ensures ∙ raw_values-rows (found_of c.args.arguments.now) c.args.id.now) in
    subst (λ (words : List Text). IfOk c.owned.result (λ r. r ≡ words)) read c.owned.ensures

pub returns-in-None : goal.returns-in-None
returns-in-None c =
    let read = ap (λ (read : Option (Bor (List (Bor Text)))). unwrap_or (option_map (λ s. map (λ v. v.now) s.now) read) []) (sym c.in-None.is)
    ∙ ap (λ (read : Option (List Text)). unwrap_or read []) (c.get_strs.ensures ∙ raw_values-rows (found_of c.args.arguments.now) c.args.id.now) in
    subst (λ (words : List Text). IfOk c.owned-in-None.result (λ r. r ≡ words)) read c.owned-in-None.ensures
