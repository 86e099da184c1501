-- what is found is the only one of its text
use Rattle.std.proofs.Common.{◌≡◌, ◌∙◌, ap, sym}
use Rattle.metric_diff.specs.Programs.{AnswersCompared, AnswersFound, asked_text, asked_texts, only_by}
use Rattle.metric_diff.proofs.ProgramLaws.{found_is, none_is, on_made, only_is}
use Rattle.metric_diff.proofs.programs.found_for.Goals as goal

pub returns-in-Some : goal.returns-in-Some
returns-in-Some c =
    let old = c.args.old.now in
    let new = c.args.new.now in
    let own = c.args.instrument.now in
    let text : c.as_str.result.now ≡ asked_text old own = c.as_str.ensures ∙ c.in_ok-text.ensures in
    let only = only_is (asked_texts new) c.args.asked.now (asked_text old own) c.in-Some.place c.requires.asked
    (ap (only_by c.args.asked.now) (sym text) ∙ sym c.only_place.ensures ∙ c.in-Some.is) in
    on_made c.compared.result (AnswersCompared old new own c.in-Some.place) (AnswersFound old new own)
    (found_is old new own c.in-Some.place only) c.compared.ensures

pub returns : goal.returns
returns c =
    let old = c.args.old.now in
    let own = c.args.instrument.now in
    let text : c.as_str.result.now ≡ asked_text old own = c.as_str.ensures ∙ c.in_ok-text.ensures in
    none_is old c.args.new.now own c.args.asked.now c.requires.asked
    (ap (only_by c.args.asked.now) (sym text) ∙ sym c.only_place.ensures ∙ c.in-None.is)
