-- What the words of a short text stand for.
use Rattle.std.specs.Prelude.{ℕ, ◌-◌, nat_le, if◌then◌else◌, List, [], ◌∷◌, ◌++◌, take}
use Rattle.std.specs.Int.{to_le_bytes, w16, w32, w64}
use Rattle.metric_contents.specs.declared.packed.Packed.{Packed}

-- the text whose first and whose last bytes the words have, which may overlap
unfoldable pub text_of : Packed → List ℕ
text_of p =
    if nat_le 8 p.len then take (p.len - 8) (to_le_bytes w64 p.first) ++ to_le_bytes w64 p.last
    else if nat_le 4 p.len then take (p.len - 4) (to_le_bytes w32 p.first) ++ to_le_bytes w32 p.last
    else if nat_le 2 p.len then take (p.len - 2) (to_le_bytes w16 p.first) ++ to_le_bytes w16 p.last
    else take p.len (p.first ∷ [])
