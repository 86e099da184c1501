-- The command that is parsed is the one of the definitions, so what clap finds and refuses is what they say.
use Rattle.std.proofs.Common.{◌≡◌, ◌∙◌, ap, sym, List, map, Option, subst}
use Rattle.std.specs.Prelude.{IfOk, IsSomeAnd, OnOk}
use Rattle.clap.specs.Words.{App, HasKind, Row, Text, fault_of, is_simple, is_simple_and_free, subcommand_of, takes}
use Rattle.metric_command_lines.specs.RequestFaults.{IsAllowed}
use Rattle.metric_command_lines.specs.Requests.{request_in}
use Rattle.metric_command_lines.proofs.RequestFaultLemmas.{on_ok, own, refused, taken, taken_is_own}
use Rattle.metric_command_lines.proofs.wormweekly.reading.request_of.Goals as goal

pub returns-in-Ok : goal.returns-in-Ok
returns-in-Ok c =
    let words : List Text = map (λ w. w.now) c.args.words.now in
    let parsed = c.in_ok-command.ensures in
    let found = (c.in-Ok.ensures.matches (ap is_simple parsed)).1 ∙ ap (λ (app : App). subcommand_of app words) parsed in
    let none = ap (λ (app : App). fault_of app words) (sym parsed) ∙ c.in-Ok.ensures.kinds (ap is_simple_and_free parsed) in
    let P : Option (Text × List Row) → Type 0 = λ named. IfOk c.request_from.result (λ request. IsSomeAnd named (λ n. request ≡ request_in n)) in
    let Q : Option (Text × List Row) → Type 0 = λ named. OnOk c.request_from.result (IsAllowed named) in
    record {
      answers = subst P found c.request_from.ensures.answers;
      accepted = on_ok c.request_from.result none;
      allowed = subst Q found c.request_from.ensures.allowed;
      refused = taken words _ c.request_from.result none found c.request_from.ensures.refused;
      taken = λ takes_them. taken_is_own _ c.request_from.result c.request_from.ensures.refused;
    }

pub returns-in-Err : goal.returns-in-Err
returns-in-Err c =
    let words : List Text = map (λ w. w.now) c.args.words.now in
    let parsed = c.in_ok-command.ensures in
    let has = c.in-Err.ensures.kinds (ap is_simple_and_free parsed) in
    let has_too = subst (λ (app : App). HasKind (fault_of app words) c.in-Err.error) parsed has in
    record {
      answers = tt;
      accepted = tt;
      allowed = tt;
      refused = refused words _ _ has_too c.fault_of.ensures;
      taken = λ takes_them.
          own _ _ (c.in-Err.ensures.passes (ap (λ (app : App). takes app words) parsed ∙ takes_them)) c.fault_of.ensures;
    }
