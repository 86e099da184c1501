-- What a provider answers a close.
use Rattle.std.specs.Prelude.{◌≡◌, Option, Some, None, Result, Ok, Err}
use Rattle.metric_contents.specs.declared.refusal.Refusal.{Refusal}
use Rattle.metric_contents.specs.declared.refusal.Refusal.TheVariants.{UnknownInstrument, Closed}
use Rattle.metric_facts.specs.declared.facts.Facts.{Facts}

-- `UnknownInstrument` exactly where there are no facts of the instrument, else nothing but `Closed`
abbrev pub AnswersClosing : Option Facts → Result (Unit {0}) Refusal → Type 0
AnswersClosing None (Ok done) = ⊥
AnswersClosing None (Err refusal) = refusal ≡ UnknownInstrument
AnswersClosing (Some own) (Ok done) = Unit {0}
AnswersClosing (Some own) (Err refusal) = refusal ≡ Closed

-- # end handed on (profile)
-- The end of an instrument that the plan has was handed on to what holds it.
abbrev pub HandsClosing : {H : Type 0} → (H → H → Result (Unit {0}) Refusal → Type 0)
    → Option Facts → H → H → Result (Unit {0}) Refusal → Type 0
HandsClosing {H} closes None old new result = new ≡ old
HandsClosing {H} closes (Some own) old new result = closes old new result
