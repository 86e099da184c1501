-- What stands at a place of a text: a name, a table, an entry of a list, or a key that is not
-- known.
use Rattle.std.specs.Prelude.{ℕ, ◌+◌, ◌-◌, ◌==◌, Bool, true, false, not, ◌&&◌, ◌||◌}
use Rattle.std.specs.Prelude.{if◌then◌else◌, List, [], ◌∷◌, codes, drop, length, nat_eq, nat_le}
use Rattle.std.specs.Prelude.{nat_lt, slice_get, take, unwrap_or}
use Rattle.std.specs.Char.{is_ascii_alphanumeric}
use Rattle.std.specs.List.{list_any, position_from, starts_with}
use Rattle.std.specs.Str.{bytes_eq}
use Rattle.metric_lint.specs.Positions.{begins}

-- a name, which is not empty, stands first
abbrev pub has_word : List ℕ → List ℕ → Bool
has_word word rest = nat_lt 0 (length word) && starts_with nat_eq rest word

-- a quotation mark
abbrev pub is_quote : ℕ → Bool
is_quote byte = byte == 34 || byte == 39

-- a blank, or a carriage return
abbrev pub is_space : ℕ → Bool
is_space byte = byte == 32 || byte == 9 || byte == 13

-- a line feed, or the bracket of a list
abbrev pub opens : ℕ → Bool
opens byte = byte == 10 || byte == 91

-- three bytes that begin a table in a list, or a text or a list at the front of a line or of a
-- list, or a text in several lines
abbrev pub is_odd : ℕ → ℕ → ℕ → Bool
is_odd before last byte =
    ((opens last || last == 44) && byte == 123)
    || (is_quote byte
    && (last == 10 || (opens before && last == 91) || (before == byte && last == byte)))

-- such bytes stand in a text, but for blanks, after these two
abbrev pub has_odd : ℕ → ℕ → List ℕ → Bool
has_odd before last [] = false
has_odd before last (byte ∷ bytes) =
    if is_space byte then has_odd before last bytes
    else is_odd before last byte || has_odd last byte bytes

-- the count after a line that may begin here
abbrev pub counted : List ℕ → List ℕ → ℕ → List ℕ → ℕ
counted outer header count line =
    if nat_lt 0 (length outer) && begins outer line then 0
    else if begins header line then count + 1
    else count

-- how many lines begin with a header, since the last that begins with the outer header; whether a
-- line begins here
abbrev pub headers : List ℕ → List ℕ → ℕ → Bool → List ℕ → ℕ
headers outer header count fresh [] = count
headers outer header count fresh (byte ∷ bytes) =
    headers outer header (if fresh then counted outer header count (byte ∷ bytes) else count)
    (byte == 10) bytes

-- # plain text (profile)
-- A text in which each line that looks like a header is one, and no meter has groups by headers.
abbrev pub is_plain : List ℕ → Bool
is_plain text = not (has_odd 10 10 text) && headers [] (codes "[[meter.group]]") 0 true text == 0

-- a header stands first
abbrev pub is_header : List ℕ → List ℕ → Bool
is_header header rest = has_word (codes "[") rest && begins header rest

-- A place is in the table of a header and a number, or is where that begins: so many such headers
-- stand before it.
abbrev pub is_nth : List ℕ → List ℕ → ℕ → List ℕ → List ℕ → Bool
is_nth outer header number before rest =
    let count = headers outer header 0 true before in
    if is_header header rest then count == number
    else nat_lt number count && (count - number == 1)

-- a table stands first: its header, or where the text is not plain, its brace
abbrev pub is_table : List ℕ → Bool → List ℕ → Bool
is_table header plain rest =
    is_header header rest || (not plain && has_word (codes "{") rest)

-- how many commas there are
abbrev pub commas : List ℕ → ℕ
commas [] = 0
commas (byte ∷ bytes) = if byte == 44 then commas bytes + 1 else commas bytes

-- After the first place at which the list's name stands there are as many commas as entries before
-- this one, or more.
abbrev pub is_listed : List ℕ → ℕ → List ℕ → Bool
is_listed name number [] = false
is_listed name number (byte ∷ bytes) =
    if has_word name (byte ∷ bytes) then nat_le number (commas (byte ∷ bytes))
    else is_listed name number bytes

-- the byte before a place; before the first, a line feed
abbrev pub last_of : List ℕ → ℕ
last_of before = unwrap_or (slice_get before (length before - 1)) 10

-- a byte of a name without quotes
abbrev pub is_bare : ℕ → Bool
is_bare byte = is_ascii_alphanumeric byte || byte == 45 || byte == 95

-- a byte that ends a name after this one
abbrev pub ends_name : ℕ → ℕ → Bool
ends_name last byte = if is_quote last then byte == last else not (is_bare byte)

-- where the name ends that stands first, after this byte
abbrev pub end_of : ℕ → List ℕ → ℕ
end_of last rest = unwrap_or (position_from (ends_name last) 0 rest) (length rest)

abbrev pub is_among : List (List ℕ) → List ℕ → Bool
is_among names name = list_any (λ known. bytes_eq known name) names

-- what follows a name that names a field or a table
abbrev pub is_named : List ℕ → Bool
is_named after = begins (codes "=") after || begins (codes ".") after || begins (codes "]") after

-- A name stands first that is none of these, and names a field or a table.
abbrev pub is_other : List (List ℕ) → List ℕ → List ℕ → Bool
is_other names before rest =
    let end = end_of (last_of before) rest in
    not (is_bare (last_of before)) && not (is_among names (take end rest))
    && is_named (drop end rest)
