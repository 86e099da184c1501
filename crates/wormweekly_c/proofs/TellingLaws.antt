-- What is told of a fault of a certificate.
use Rattle.std.proofs.Common.{◌≡◌, ℕ, List, Option, Result, Ok, Err}
use Rattle.std.specs.Prelude.{IfOk, codes}
use Rattle.metric_lint.specs.declared.position.Position.{Position}
use Rattle.wormweekly_c.specs.Telling.{Tells, told_at}

-- a call that did not fail
pub if_ok_then : {X E : Type 0} (P Q : X → Type 0) (r : Result X E) → IfOk r P → ((x : X) → P x → Q x) → IfOk r Q
if_ok_then P Q (Ok x) p next = next x p
if_ok_then P Q (Err e) p next = p

pub in_certificate : (file words : List ℕ) (position : Option Position) (text : List ℕ) → file ≡ codes "certificate" → text ≡ told_at file position words
    → Tells (λ file position. file ≡ codes "certificate") text
in_certificate file words position text same is = record { file = file; position = position; stands = same; words = words; is = is }
