-- Texts as HTML shows them.
use Rattle.std.specs.Prelude.{ℕ, nat_lt, ◌==◌, ◌||◌, List, ◌∷◌, [], codes, if◌then◌else◌}
use Rattle.std.specs.List.{flat_map}

-- a byte of a text: what HTML would read is a reference, and what moves a cursor is a question mark
abbrev pub html_byte : ℕ → List ℕ
html_byte b =
    if b == 38 then codes "&amp;" else (
    if b == 60 then codes "&lt;" else (
    if b == 62 then codes "&gt;" else (
    if b == 34 then codes "&quot;" else (
    if b == 39 then codes "&#39;" else (
    if nat_lt b 32 || (b == 127) then 63 ∷ [] else b ∷ [])))))

-- # a text in a page (HTML) [html_text]
-- No byte of it is one that HTML reads as a tag, an attribute's end or a reference.
unfoldable pub html_text : List ℕ → List ℕ
html_text text = flat_map html_byte text
