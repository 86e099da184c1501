-- What is read as a name or a unit is one.
use Rattle.std.proofs.Common.{◌≡◌, ℕ, ◌+◌, ◌≤◌, Bool, true, false, cond, List, [], ◌∷◌, length}
use Rattle.std.proofs.Common.{Option, Some, None, Ok, refl, subst, arith}
use Rattle.std.specs.Prelude.{nat_le, ◌&&◌, not}
use Rattle.std.specs.Char.{is_ascii_alphabetic}
use Rattle.std.specs.List.{list_all, position_from}
use Rattle.std.proofs.lemmas.Bool.Decides.{nat_tests}
use Rattle.metric_base.specs.StepLaws.{require_ok, require_none_ok, ok_is}
use Rattle.metric_names.specs.Names.{is_name_character, IsName, first_other, name_of}
use Rattle.metric_names.specs.Units.{is_printable, IsUnit, unit_of}
use Rattle.metric_names.specs.declared.name.NameFault.TheVariants.{FirstLetter, BadCharacter}
use Rattle.metric_names.specs.declared.name.NameFault.TheVariants.{TooLong}
use Rattle.metric_names.specs.declared.unit.UnitFault.TheVariants as unit_faults

-- one place of the search below, by whether its character passes
none_here : (passes : Bool) (at : ℕ) (later : Option ℕ) (rest : Bool) → (later ≡ None → rest ≡ true)
    → cond (not passes) (Some at) later ≡ None → (passes && rest) ≡ true
none_here true at later rest h e = h e
none_here false at later rest h e = absurd cc

all_here : (passes : Bool) (at : ℕ) (later : Option ℕ) (rest : Bool) → (rest ≡ true → later ≡ None)
    → (passes && rest) ≡ true → cond (not passes) (Some at) later ≡ None
all_here true at later rest h e = h e
all_here false at later rest h e = absurd cc

-- where no place fails, all pass
pub none_other : (passes : ℕ → Bool) (i : ℕ) (text : List ℕ)
    → position_from (λ c. not (passes c)) i text ≡ None → list_all passes text ≡ true
none_other passes i [] e = refl
none_other passes i (c ∷ text) e = none_here (passes c) i _ _ (none_other passes (i + 1) text) e

-- where all pass, no place fails
pub all_none : (passes : ℕ → Bool) (i : ℕ) (text : List ℕ) → list_all passes text ≡ true
    → position_from (λ c. not (passes c)) i text ≡ None
all_none passes i [] e = refl
all_none passes i (c ∷ text) e = all_here (passes c) i _ _ (all_none passes (i + 1) text) e

-- what is read as a unit is one
pub unit_of-IsUnit : (text unit : List ℕ) → unit_of text ≡ Ok unit → IsUnit unit
unit_of-IsUnit text unit e =
    let (none, e1) =
    require_none_ok (first_other is_printable text) unit_faults.BadCharacter _ unit e in
    let (short, e2) = require_ok (nat_le (length text) 63) unit_faults.TooLong _ unit e1 in
    subst IsUnit (ok_is text unit (Ok text) refl e2)
    (none_other is_printable 0 text none, grind (arith, nat_tests))

-- what is read as a name is one
pub name_of-IsName : (text name : List ℕ) → name_of text ≡ Ok name → IsName name
name_of-IsName [] name e = absurd cc
name_of-IsName (first ∷ rest) name e =
    let (letter, e1) = require_ok (is_ascii_alphabetic first) FirstLetter _ name e in
    let (none, e2) =
    require_none_ok (first_other is_name_character (first ∷ rest)) BadCharacter _ name e1 in
    let (short, e3) = require_ok (nat_le (length (first ∷ rest)) 255) TooLong _ name e2 in
    let all = none_other is_name_character 0 (first ∷ rest) none in
    let long : length rest ≤ 254 = grind (arith, nat_tests) in
    subst IsName (ok_is (first ∷ rest) name (Ok (first ∷ rest)) refl e3)
    (letter, rest_pass (is_name_character first) _ all, long)
  where
    rest_pass : (a b : Bool) → (a && b) ≡ true → b ≡ true
    rest_pass true b h = h
    rest_pass false b h = absurd cc
