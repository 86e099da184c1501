-- The parts of an input, one after the other: the parts, or the lines from the faulty one on.
use Rattle.std.specs.Prelude.{ℕ, Bool, if◌then◌else◌, List, [], ◌∷◌, take, drop, Option, None, Some}
use Rattle.std.specs.Prelude.{Result, Ok, Err, map, codes}
use Rattle.std.specs.List.{prefix_len}
use Rattle.std.specs.Str.{bytes_eq}
use Rattle.std.specs.Borrow.{Bor}
use Rattle.metric_base.specs.Steps.{◌>>=◌}
use Rattle.metric_parts.specs.declared.needs.Needs.{Needs}
use Rattle.metric_parts.specs.Input.{Contents, is_content}

-- the lines that references point to
abbrev pub texts : List (Bor (List ℕ)) → List (List ℕ)
texts lines = map (λ line. line.now) lines

-- what a function on such references gives, as lists of lines
abbrev pub seen : {X Y : Type 0} → (X → Y) → Result X (Bor (List (Bor (List ℕ))))
    → Result Y (List (List ℕ))
seen view (Ok x) = Ok (view x)
seen view (Err rest) = Err (texts rest.now)

-- how many contents stand before the first line that is none
abbrev pub contents_len : List (List ℕ) → ℕ
contents_len lines = prefix_len is_content lines

-- the part under this header and the lines after it
abbrev pub part_in : List ℕ → List (List ℕ) → Result (List (List ℕ) × List (List ℕ)) (List (List ℕ))
part_in header [] = Err []
part_in header (line ∷ lines) =
    if bytes_eq line header then Ok
    (take (contents_len lines) lines, drop (contents_len lines) lines) else Err (line ∷ lines)

-- the same of a part that may be missing where it is not needed
abbrev pub part_unless : Bool → List (List ℕ)
    → Result (List (List ℕ) × List (List ℕ)) (List (List ℕ))
    → Result (Option (List (List ℕ)) × List (List ℕ)) (List (List ℕ))
part_unless needed lines (Ok part) = Ok (Some part.0, part.1)
part_unless needed lines (Err rest) = if needed then Err rest else Ok (None, lines)

abbrev pub optional_part_in : Bool → List ℕ → List (List ℕ)
    → Result (Option (List (List ℕ)) × List (List ℕ)) (List (List ℕ))
optional_part_in needed header lines = part_unless needed lines (part_in header lines)

-- these parts, if no line is left
abbrev pub ending_in : Contents → List (List ℕ) → Result Contents (List (List ℕ))
ending_in parts [] = Ok parts
ending_in parts (line ∷ lines) = Err (line ∷ lines)

unfoldable pub contents_in : Needs → List (List ℕ) → Result Contents (List (List ℕ))
contents_in needs lines =
    part_in (codes "%% catalogue") lines >>= λ a.
    (part_in (codes "%% config") a.1 >>= λ b.
    (optional_part_in needs.certificate (codes "%% certificate") b.1 >>= λ c.
    (optional_part_in needs.script (codes "%% script") c.1 >>= λ d.
    ending_in (record { catalogue = a.0; config = b.0; certificate = c.0; script = d.0 }) d.1)))
