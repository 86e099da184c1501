-- Each name and each unit is read as itself.
use Rattle.std.proofs.Common.{◌≡◌, ℕ, true, List, [], ◌∷◌, length, None, Ok, refl, arith}
use Rattle.std.specs.Prelude.{nat_le}
use Rattle.std.specs.Char.{is_ascii_alphabetic}
use Rattle.std.specs.List.{list_all}
use Rattle.std.proofs.lemmas.Bool.Decides.{nat_tests}
use Rattle.metric_names.specs.Names.{is_name_character, IsName, first_other, name_of}
use Rattle.metric_names.specs.Units.{is_printable, IsUnit, unit_of}
use Rattle.metric_names.specs.NameLaws.{all_none}

-- each unit is read as itself
pub IsUnit-unit_of : (text : List ℕ) → IsUnit text → unit_of text ≡ Ok text
IsUnit-unit_of text h =
    let none : first_other is_printable text ≡ None = all_none is_printable 0 text h.0 in
    let short : nat_le (length text) 63 ≡ true = grind (arith, nat_tests) in
    rw (none, short) refl

-- a letter is a name character
pub letter_passes : (c : ℕ) → is_ascii_alphabetic c ≡ true → is_name_character c ≡ true
letter_passes c h = grind (arith, nat_tests)

-- each name is read as itself
pub IsName-name_of : (text : List ℕ) → IsName text → name_of text ≡ Ok text
IsName-name_of [] h = absurd h
IsName-name_of (first ∷ rest) h =
    let letter : is_ascii_alphabetic first ≡ true = h.0 in
    let passes = letter_passes first letter in
    let all : list_all is_name_character (first ∷ rest) ≡ true = rw passes h.1 in
    let none : first_other is_name_character (first ∷ rest) ≡ None = all_none is_name_character 0 (first ∷ rest) all in
    let short : nat_le (length (first ∷ rest)) 255 ≡ true = grind (arith, nat_tests) in
    rw (letter, none, short) refl
