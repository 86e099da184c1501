-- Where no handle is lacked there is room for each.
use Rattle.std.proofs.Common.{◌≡◌, ◌≤◌, ℕ, Bool, true, false, ◌||◌, refl, arith}
use Rattle.std.specs.Prelude.{nat_lt}
use Rattle.std.proofs.lemmas.Bool.{or_parts}
use Rattle.std.proofs.lemmas.Bool.Decides.{nat_tests}
use Rattle.wormweekly_c.specs.Opening.{lacks_handles}
use Rattle.wormweekly_c.specs.declared.opening.Counts.{Counts}

enough : (there due : ℕ) → nat_lt there due ≡ false → due ≤ there
enough there due none = grind (arith, nat_tests)

pub has_room : (counts : Counts) (instruments recorders readers : ℕ) → lacks_handles counts instruments recorders readers ≡ false
    → (counts.instruments ≤ instruments) × (counts.recorders ≤ recorders) × (counts.readers ≤ readers)
has_room counts instruments recorders readers none =
    let some = nat_lt instruments counts.instruments || nat_lt recorders counts.recorders in
    let all = or_parts some (nat_lt readers counts.readers) none in
    let first = or_parts (nat_lt instruments counts.instruments) (nat_lt recorders counts.recorders) all.0 in
    (enough instruments counts.instruments first.0, enough recorders counts.recorders first.1, enough readers counts.readers all.1)
