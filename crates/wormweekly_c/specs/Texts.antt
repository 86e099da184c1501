-- Texts and lists that go out into a buffer of the host.
use Rattle.std.specs.Prelude.{◌≡◌, ◌⊎◌, ◌<◌, ◌++◌, ℕ, List, drop, length, take}

-- the first places have what was made, and those after them what they had
abbrev pub AreFirst : {T : Type 0} → List T → List T → List T → Type 0
AreFirst made before after = after ≡ made ++ drop (length made) before

-- # told text (profile) [AnswersAll, AnswersText]
-- A text or a list in the first places of a buffer whose others stay, or the answer that there is
-- no room for it; of a text the length in either case.
abbrev pub AnswersAll : {T : Type 0} → List T → List T → List T → ℕ → Type 0
AnswersAll all before after code =
    ((code ≡ 0) × AreFirst all before after) ⊎ ((code ≡ 102) × (length before < length all))

-- the same of a text, whose length is written in either case
abbrev pub AnswersText : List ℕ → List ℕ → List ℕ → ℕ → ℕ → Type 0
AnswersText text before after count code = (count ≡ length text) × AnswersAll text before after code

-- a text stands in a buffer as far as there is room, with its whole length beside it
abbrev pub IsFront : List ℕ → List ℕ → List ℕ → ℕ → Type 0
IsFront text before after count =
    (count ≡ length text) × AreFirst (take (length before) text) before after
