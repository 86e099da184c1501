-- The grammar of Prometheus' names and labels.
use Rattle.std.specs.Prelude.{◌≡◌, ℕ, Bool, ◌||◌, ◌==◌, List, [], ◌∷◌, true}
use Rattle.std.specs.Char.{is_ascii_alphabetic, is_ascii_alphanumeric}
use Rattle.std.specs.List.{list_all}

-- a letter or `_`, and what may follow it
abbrev pub is_label_start : ℕ → Bool
is_label_start c = is_ascii_alphabetic c || c == 95

abbrev pub is_label_character : ℕ → Bool
is_label_character c = is_ascii_alphanumeric c || c == 95

-- # grammar (Prometheus data model) [IsName, IsLabel]
-- What Prometheus takes for a name and for a label.
abbrev pub IsName : List ℕ → Type 0
IsName [] = ⊥
IsName (c ∷ text) =
    ((is_label_start c || c == 58) ≡ true)
    × (list_all (λ d. is_label_character d || d == 58) text ≡ true)

-- a label: it does not begin with two `_`, which is reserved
abbrev pub IsReserved : List ℕ → Type 0
IsReserved (c ∷ d ∷ text) = (c ≡ 95) × (d ≡ 95)
IsReserved (c ∷ []) = ⊥
IsReserved [] = ⊥

abbrev pub IsLabel : List ℕ → Type 0
IsLabel [] = ⊥
IsLabel (c ∷ text) =
    (is_label_start c ≡ true) × (list_all is_label_character text ≡ true)
    × (IsReserved (c ∷ text) → ⊥)
