-- programs go on with each instrument, and a recorder is gone
use Rattle.std.proofs.Common.{◌≢◌, ◌∙◌, ℕ, List, ap, sym}
use Rattle.std.proofs.lemmas.Bool.{true≢false}
use Rattle.metric_contents.specs.declared.contents.Recorder.{Recorder}
use Rattle.metric_diff.specs.Programs.{first_gone}
use Rattle.metric_diff.specs.declared.programs.Programs.TheVariants.{OtherInstrument}
use Rattle.metric_diff.proofs.ProgramLaws.{all_go}
use Rattle.metric_diff.proofs.programs.programs_of.Goals as goal
use Rattle.metric_diff.proofs.programs.programs_of.Goals.{in-OtherInstrument, in_default}

pub returns-in-Some : goal.returns-in-Some
returns-in-Some c =
    let none : (number : ℕ) (words : List ℕ) → c.in_ok-programs.programs ≢ OtherInstrument number words =
    λ number words e. elim c.match-matches.branch [
      | in-OtherInstrument w ↦ true≢false (sym w.matches-is ∙ c.if-matches.false)
      | in_default w ↦ w.in_default.not-OtherInstrument number words e
    ] in (
      all_go c.args.old.now c.args.new.now c.in_ok-programs.programs c.in_ok-programs.ensures none,
      ap (λ (olds : List Recorder). first_gone olds c.args.new.now.recorders) (sym c.recorders.ensures.recorders)
          ∙ ap (first_gone c.recorders.result.now) (sym c.recorders-2.ensures.recorders)
          ∙ sym c.in_ok-old.ensures ∙ c.in-Some.is,
    )
