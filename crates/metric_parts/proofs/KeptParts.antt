-- A part that is needed is read.
use Rattle.std.proofs.Common.{◌≡◌, ℕ, Bool, true, false, List, Option, None, Some, refl, ap, ◌∙◌}
use Rattle.std.specs.Prelude.{if◌then◌else◌, is_some, option_map, IsTrue, IsSome}
use Rattle.metric_parts.specs.declared.needs.Needs.{Needs}
use Rattle.metric_parts.specs.declared.parts.Parts.{Parts}
use Rattle.metric_parts.specs.Input.{Contents, IsInput}
use Rattle.metric_parts.specs.Texts.{joined}
use Rattle.metric_parts.specs.Kept.{read_of, script_of}

there : {X Y : Type 0} (needed : Bool) (f : X → Y) (part : Option X) → (needed ≡ true → is_some part ≡ true) → needed ≡ true
    → is_some (if needed then option_map f part else None) ≡ true
there true f (Some x) has n = refl
there true f None has n = has refl
there false f part has n = absurd cc

pub certificate_there : (needs : Needs) (lines : List (List ℕ)) (parts : Contents) (read : Parts) → IsInput needs lines parts
    → read ≡ read_of needs parts → IsTrue needs.certificate → IsSome read.certificate
certificate_there needs lines parts read input e n =
    ap (λ r. is_some r.certificate) e ∙ there needs.certificate joined parts.certificate input.has_certificate n

pub script_there : (needs : Needs) (lines : List (List ℕ)) (parts : Contents) (read : Parts) → IsInput needs lines parts
    → read ≡ read_of needs parts → IsTrue needs.script → IsSome read.script
script_there needs lines parts read input e n = ap (λ r. is_some r.script) e ∙ there needs.script (script_of parts) parts.script input.has_script n
