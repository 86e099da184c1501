use Rattle.std.proofs.Common.{◌≡◌, ◌∙◌, ap, subst, sym, [], List, Ok, Option, codes, map, option_map}
use Rattle.std.specs.Borrow.{Bor}
use Rattle.std.specs.Prelude.{IfErr, IfOk, unwrap_or}
use Rattle.clap.proofs.WalkLemmas.{raw_values-rows}
use Rattle.clap.specs.Words.{Text, found_of}
use Rattle.metric_command_lines.specs.Attributes.{resource_in}
use Rattle.metric_command_lines.specs.RequestFaults.{IsMisuse}
use Rattle.metric_command_lines.proofs.wormweekly.reading.resource_given.Goals as goal

pub returns-in-Some-clause-given : goal.returns-in-Some-clause-given
returns-in-Some-clause-given c =
    let read = ap (λ (read : Option (Bor (List (Bor Text)))). unwrap_or (option_map (λ s. map (λ v. v.now) s.now) read) []) (sym c.in-Some.is)
    ∙ ap (λ (read : Option (List Text)). unwrap_or read []) (c.get_strs.ensures ∙ raw_values-rows (found_of c.args.arguments.now) (codes "resource")) in
    subst (λ (words : List Text). IfOk c.resource_of.result (λ r. resource_in words ≡ Ok r)) read c.resource_of.ensures.given

pub returns-in-Some-clause-refused : goal.returns-in-Some-clause-refused
returns-in-Some-clause-refused c =
    let read = ap (λ (read : Option (Bor (List (Bor Text)))). unwrap_or (option_map (λ s. map (λ v. v.now) s.now) read) []) (sym c.in-Some.is)
    ∙ ap (λ (read : Option (List Text)). unwrap_or read []) (c.get_strs.ensures ∙ raw_values-rows (found_of c.args.arguments.now) (codes "resource")) in
    subst (λ (words : List Text). IfErr c.resource_of.result (λ fault. IsMisuse fault (resource_in words))) read c.resource_of.ensures.refused

pub returns-in-None-clause-given : goal.returns-in-None-clause-given
returns-in-None-clause-given c =
    let read = ap (λ (read : Option (Bor (List (Bor Text)))). unwrap_or (option_map (λ s. map (λ v. v.now) s.now) read) []) (sym c.in-None.is)
    ∙ ap (λ (read : Option (List Text)). unwrap_or read []) (c.get_strs.ensures ∙ raw_values-rows (found_of c.args.arguments.now) (codes "resource")) in
    subst (λ (words : List Text). IfOk c.resource_of-in-None.result (λ r. resource_in words ≡ Ok r)) read c.resource_of-in-None.ensures.given

pub returns-in-None-clause-refused : goal.returns-in-None-clause-refused
returns-in-None-clause-refused c =
    let read = ap (λ (read : Option (Bor (List (Bor Text)))). unwrap_or (option_map (λ s. map (λ v. v.now) s.now) read) []) (sym c.in-None.is)
    ∙ ap (λ (read : Option (List Text)). unwrap_or read []) (c.get_strs.ensures ∙ raw_values-rows (found_of c.args.arguments.now) (codes "resource")) in
    subst (λ (words : List Text). IfErr c.resource_of-in-None.result (λ fault. IsMisuse fault (resource_in words))) read c.resource_of-in-None.ensures.refused
