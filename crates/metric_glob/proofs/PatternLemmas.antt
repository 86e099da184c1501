-- The texts that are read as patterns are exactly the patterns.
use Rattle.std.proofs.Common.{◌≡◌, ℕ, ◌≤◌, true, List, length, None, Ok, refl, subst, arith}
use Rattle.std.specs.Prelude.{nat_le}
use Rattle.std.proofs.lemmas.Bool.Decides.{nat_tests}
use Rattle.metric_base.specs.StepLaws.{require_ok, require_none_ok, ok_is}
use Rattle.metric_names.specs.Names.{first_other}
use Rattle.metric_names.specs.NameLaws.{none_other, all_none}
use Rattle.metric_names.specs.Units.{is_printable}
use Rattle.metric_glob.specs.Patterns.{IsPattern, pattern_of}
use Rattle.metric_glob.specs.declared.pattern.PatternFault.TheVariants.{Empty, BadCharacter, TooLong}

-- what is read as a pattern is one
pub pattern_of-IsPattern : (text pattern : List ℕ) → pattern_of text ≡ Ok pattern → IsPattern pattern
pattern_of-IsPattern text pattern e =
    let (some, e1) = require_ok (nat_le 1 (length text)) Empty _ pattern e in
    let (none, e2) = require_none_ok (first_other is_printable text) BadCharacter _ pattern e1 in
    let (short, e3) = require_ok (nat_le (length text) 255) TooLong _ pattern e2 in
    let not_empty : 1 ≤ length text = grind (arith, nat_tests) in
    let not_long : length text ≤ 255 = grind (arith, nat_tests) in
    subst IsPattern (ok_is text pattern (Ok text) refl e3) (not_empty, none_other is_printable 0 text none, not_long)

-- each pattern is read as itself
pub IsPattern-pattern_of : (text : List ℕ) → IsPattern text → pattern_of text ≡ Ok text
IsPattern-pattern_of text h =
    let some : nat_le 1 (length text) ≡ true = grind (arith, nat_tests) in
    let none : first_other is_printable text ≡ None = all_none is_printable 0 text h.1 in
    let short : nat_le (length text) 255 ≡ true = grind (arith, nat_tests) in
    rw (some, none, short) refl
