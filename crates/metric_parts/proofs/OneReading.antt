-- An input has its parts in one way only, and lines have one first fault unless they are an input.
use Rattle.std.proofs.Common.{◌≡◌, ℕ, ◌+◌, sym, ap, ◌∙◌}
use Rattle.metric_base.specs.FrontLaws.{one_break, no_break}
use Rattle.metric_base.specs.StepLaws.{ok_is}
use Rattle.metric_parts.specs.declared.needs.Needs.{Needs}
use Rattle.metric_parts.specs.Input.{Contents, IsInput, IsSomeInput, IsFirstFault}
use Rattle.metric_parts.specs.Reading.{contents_in}
use Rattle.metric_parts.proofs.Languages.{Lines}
use Rattle.metric_parts.proofs.Inputs.{contents_only}

pub same_parts : (needs : Needs) (lines : Lines) (a b : Contents) → IsInput needs lines a → IsInput needs lines b → a ≡ b
same_parts needs lines a b p q = ok_is a b (contents_in needs lines) (contents_only needs lines a p) (contents_only needs lines b q)

pub same_fault : (needs : Needs) (lines : Lines) (m n : ℕ) → IsFirstFault needs lines m → IsFirstFault needs lines n → m ≡ n
same_fault needs lines m n p q =
    p.numbered ∙ ap (λ place. place + 1) (one_break (IsSomeInput needs) lines p.place q.place p.breaks_off q.breaks_off) ∙ sym q.numbered

pub no_input : (needs : Needs) (lines : Lines) (parts : Contents) (n : ℕ) → IsInput needs lines parts → IsFirstFault needs lines n → ⊥
no_input needs lines parts n input fault =
    no_break (IsSomeInput needs) lines fault.place (record { parts = parts; is_input = input }) fault.breaks_off
