-- What a unit is called in a name.
use Rattle.std.specs.Prelude.{ℕ, Bool, ◌||◌, ◌==◌, List, [], ◌∷◌, ◌++◌, Option, Some, None, codes}
use Rattle.std.specs.Prelude.{filter, if◌then◌else◌, reverse}
use Rattle.std.specs.List.{after_first, before_first, list_any}
use Rattle.std.specs.Option.{unwrap_or}
use Rattle.std.specs.Str.{bytes_eq}
use Rattle.metric_family.specs.Words.{is_some, joined, words}

-- units of time
abbrev pub time_named : List ℕ → Option (List ℕ)
time_named unit =
    if bytes_eq unit (codes "d") then Some (codes "days") else
    if bytes_eq unit (codes "h") then Some (codes "hours") else
    if bytes_eq unit (codes "min") then Some (codes "minutes") else
    if bytes_eq unit (codes "s") then Some (codes "seconds") else
    if bytes_eq unit (codes "ms") then Some (codes "milliseconds") else
    if bytes_eq unit (codes "us") then Some (codes "microseconds") else
    if bytes_eq unit (codes "ns") then Some (codes "nanoseconds") else
    None

-- numbers of bytes
abbrev pub size_named : List ℕ → Option (List ℕ)
size_named unit =
    if bytes_eq unit (codes "By") then Some (codes "bytes") else
    if bytes_eq unit (codes "KiBy") then Some (codes "kibibytes") else
    if bytes_eq unit (codes "MiBy") then Some (codes "mebibytes") else
    if bytes_eq unit (codes "GiBy") then Some (codes "gibibytes") else
    if bytes_eq unit (codes "TiBy") then Some (codes "tibibytes") else
    if bytes_eq unit (codes "KBy") then Some (codes "kilobytes") else
    if bytes_eq unit (codes "MBy") then Some (codes "megabytes") else
    if bytes_eq unit (codes "GBy") then Some (codes "gigabytes") else
    if bytes_eq unit (codes "TBy") then Some (codes "terabytes") else
    None

-- other quantities; what has no dimension is called nothing
abbrev pub quantity_named : List ℕ → Option (List ℕ)
quantity_named unit =
    if bytes_eq unit (codes "m") then Some (codes "meters") else
    if bytes_eq unit (codes "V") then Some (codes "volts") else
    if bytes_eq unit (codes "A") then Some (codes "amperes") else
    if bytes_eq unit (codes "J") then Some (codes "joules") else
    if bytes_eq unit (codes "W") then Some (codes "watts") else
    if bytes_eq unit (codes "g") then Some (codes "grams") else
    if bytes_eq unit (codes "Cel") then Some (codes "celsius") else
    if bytes_eq unit (codes "Hz") then Some (codes "hertz") else
    if bytes_eq unit (codes "1") then Some [] else
    if bytes_eq unit (codes "%") then Some (codes "percent") else
    None

-- one unit of time, after a slash
abbrev pub one_named : List ℕ → Option (List ℕ)
one_named unit =
    if bytes_eq unit (codes "s") then Some (codes "second") else
    if bytes_eq unit (codes "m") then Some (codes "minute") else
    if bytes_eq unit (codes "h") then Some (codes "hour") else
    if bytes_eq unit (codes "d") then Some (codes "day") else
    if bytes_eq unit (codes "w") then Some (codes "week") else
    if bytes_eq unit (codes "mo") then Some (codes "month") else
    if bytes_eq unit (codes "y") then Some (codes "year") else
    None

-- the first that is there
abbrev pub or_then : Option (List ℕ) → Option (List ℕ) → Option (List ℕ)
or_then None other = other
or_then (Some name) other = Some name

-- what a unit before the slash is called, and one after it: a unit that has no name here is called
-- what it is
unfoldable pub unit_name : List ℕ → List ℕ
unit_name unit =
    unwrap_or (or_then (time_named unit) (or_then (size_named unit) (quantity_named unit))) unit

unfoldable pub per_name : List ℕ → List ℕ
per_name unit = unwrap_or (one_named unit) unit

-- without spaces at its front, and at both ends
abbrev pub led : List ℕ → List ℕ
led [] = []
led (c ∷ text) = if c == 32 then led text else c ∷ text

unfoldable pub trimmed : List ℕ → List ℕ
trimmed text = reverse (led (reverse (led text)))

abbrev pub is_brace : ℕ → Bool
is_brace c = c == 123 || c == 125

-- the words of one side of a unit, with `_` between: none where it has a brace, since it is then a
-- remark
unfoldable pub side : (List ℕ → List ℕ) → List ℕ → List ℕ
side named text = if list_any is_brace text then [] else joined (words (named (trimmed text)))

abbrev pub is_slash : ℕ → Bool
is_slash c = c == 47

-- # parts of a unit (Prometheus, naming by the Collector) [main_words, per_words, unit_parts]
-- What the side of a unit before its slash and the side after it are called, by words.
unfoldable pub main_words : List ℕ → List ℕ
main_words unit = side unit_name (before_first is_slash unit)

abbrev pub after_per : List ℕ → List ℕ
after_per [] = []
after_per (c ∷ side) = codes "per_" ++ c ∷ side

unfoldable pub per_words : List ℕ → List ℕ
per_words unit = after_per (side per_name (after_first is_slash unit))

-- what a unit adds to a name, without what is empty
unfoldable pub unit_parts : List ℕ → List (List ℕ)
unit_parts unit = filter is_some (main_words unit ∷ per_words unit ∷ [])
