-- Where a table stands in a text: by the lines that begin with its header.
use Rattle.std.specs.Prelude.{ℕ, ◌+◌, ◌==◌, Bool, true, false, not, ◌&&◌, ◌||◌, if◌then◌else◌, List}
use Rattle.std.specs.Prelude.{[], ◌∷◌, codes, filter, length, Option, Some, None, slice_get}
use Rattle.std.specs.Prelude.{unwrap_or}
use Rattle.std.specs.List.{enumerate_from, list_any, position_from}
use Rattle.std.specs.Option.{option_map}
use Rattle.metric_text.specs.Lines.{lines_of}
use Rattle.metric_catalogue.specs.declared.fault.CataloguePlace.{CataloguePlace}
use Rattle.metric_catalogue.specs.declared.fault.CataloguePlace.TheVariants as catalogue
use Rattle.metric_views.specs.declared.fault.ConfigPlace.{ConfigPlace}
use Rattle.metric_views.specs.declared.fault.ConfigPlace.TheVariants as config
use Rattle.metric_lint.specs.declared.position.Position.{Position}

-- the top table, or a table by its header, by how a list of such tables in
-- one line begins, and by its number
pub data Place : Type 0 where
  Top : Place
  Nth : List ℕ → List ℕ → ℕ → Place

abbrev pub catalogue_place : CataloguePlace → Place
catalogue_place catalogue.Top = Top
catalogue_place (catalogue.Meter number) = Nth (codes "[[meter]]") (codes "meter=[") number
catalogue_place (catalogue.Instrument number) =
    Nth (codes "[[meter.instrument]]") (codes "instrument=[") number
catalogue_place (catalogue.Key number key) =
    Nth (codes "[[meter.instrument]]") (codes "instrument=[") number
catalogue_place (catalogue.SharedKey number) = Nth (codes "[[key]]") (codes "key=[{") number
catalogue_place (catalogue.Recorder number) = Nth (codes "[[recorder]]") (codes "recorder=[") number
catalogue_place (catalogue.Budget number budget) =
    Nth (codes "[[recorder]]") (codes "recorder=[") number

abbrev pub config_place : ConfigPlace → Place
config_place config.Top = Top
config_place (config.Reader number) = Nth (codes "[[reader]]") (codes "reader=[") number
config_place (config.View number) = Nth (codes "[[view]]") (codes "view=[") number

-- a space or a tab
abbrev pub is_blank : ℕ → Bool
is_blank byte = byte == 32 || byte == 9

-- a blank or a quote, which does not tell headers apart
abbrev pub skips : ℕ → Bool
skips byte = is_blank byte || byte == 34 || byte == 39

abbrev pub begins_with : List ℕ → List ℕ → Bool
begins_with [] bytes = true
begins_with (wanted ∷ first) [] = false
begins_with (wanted ∷ first) (byte ∷ bytes) = wanted == byte && begins_with first bytes

-- a line, without its blanks and quotes, begins with these bytes
abbrev pub begins : List ℕ → List ℕ → Bool
begins first line = begins_with first (filter (λ byte. not (skips byte)) line)

-- the lines that begin with a header, with their numbers
abbrev pub headed : List ℕ → List (List ℕ) → List (ℕ × List ℕ)
headed header lines = filter (λ line. begins header line.1) (enumerate_from 1 lines)

-- how many blanks a line begins with
abbrev pub indent_of : List ℕ → ℕ
indent_of line = unwrap_or (position_from (λ byte. not (is_blank byte)) 0 line) (length line)

-- where a line with its number begins, but for its blanks
abbrev pub position_of : Option (ℕ × List ℕ) → Option Position
position_of line =
    option_map (λ numbered. record { line = numbered.0; column = indent_of numbered.1 + 1 }) line

-- the header of a number, unless a line begins a list of such tables
abbrev pub located_in : List ℕ → List ℕ → ℕ → List (List ℕ) → Option Position
located_in header list number lines =
    if list_any (begins list) lines then None
    else position_of (slice_get (headed header lines) number)

-- # where a table stands (profile)
-- The line of a number, of those that begin with the table's header but for blanks and quotes.
abbrev pub located : List ℕ → Place → Option Position
located text Top = Some (record { line = 1; column = 1 })
located text (Nth header list number) = located_in header list number (lines_of text)
