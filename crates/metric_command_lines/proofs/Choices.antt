-- Which of two files is the certificate.
use Rattle.std.proofs.Common.{◌≡◌, Option, Some, None, refl}
use Rattle.std.specs.Prelude.{is_some, if◌then◌else◌}

pub some_chosen : {A : Type 0} (last : Option A) (value : A) (first other : Option A) → last ≡ Some value
    → first ≡ (if is_some last then first else other)
some_chosen last value first other e = rw e refl

pub none_chosen : {A : Type 0} (last : Option A) (first other : Option A) → last ≡ None
    → other ≡ (if is_some last then first else other)
none_chosen last first other e = rw e refl
