-- Fields in a row.
use Rattle.std.proofs.Common.{◌≡◌, ℕ, List, [], ◌∷◌, ◌++◌, refl, length, append_assoc, append-nil}
use Rattle.std.specs.List.{concat}
use Rattle.metric_wire.specs.Wire.{block, block_head, mark, varint}

-- a block that begins in one list, and whose bytes are the other
pub head_and_data : (a b c points : List ℕ) (field : ℕ)
    → concat (a ∷ b ∷ c ∷ block_head field (length points) ∷ []) ++ points ≡ concat (a ∷ b ∷ c ∷ block field points ∷ [])
unfolding block block_head
head_and_data a b c points field =
    let begun : List ℕ = mark field 2 ++ varint (length points) in
    rw (
      append-nil begun,
      append_assoc a (b ++ (c ++ begun)) points,
      append_assoc b (c ++ begun) points,
      append_assoc c begun points,
      append_assoc (mark field 2) (varint (length points)) points,
      append-nil (mark field 2 ++ (varint (length points) ++ points)),
    ) refl

-- those of a histogram's point, where the first two are written at once
pub in_a_row : (out a b c d e f g h i : List ℕ)
    → (((((((out ++ (a ++ b)) ++ c) ++ d) ++ e) ++ f) ++ g) ++ h) ++ i
    ≡ out ++ concat (a ∷ b ∷ c ∷ d ∷ e ∷ f ∷ g ∷ h ∷ i ∷ [])
in_a_row out a b c d e f g h i =
    rw (
      append_assoc ((((((out ++ (a ++ b)) ++ c) ++ d) ++ e) ++ f) ++ g) h i,
      append_assoc (((((out ++ (a ++ b)) ++ c) ++ d) ++ e) ++ f) g (h ++ i),
      append_assoc ((((out ++ (a ++ b)) ++ c) ++ d) ++ e) f (g ++ (h ++ i)),
      append_assoc (((out ++ (a ++ b)) ++ c) ++ d) e (f ++ (g ++ (h ++ i))),
      append_assoc ((out ++ (a ++ b)) ++ c) d (e ++ (f ++ (g ++ (h ++ i)))),
      append_assoc (out ++ (a ++ b)) c (d ++ (e ++ (f ++ (g ++ (h ++ i))))),
      append_assoc out (a ++ b) (c ++ (d ++ (e ++ (f ++ (g ++ (h ++ i)))))),
      append_assoc a b (c ++ (d ++ (e ++ (f ++ (g ++ (h ++ i)))))),
      append-nil i,
    ) refl
