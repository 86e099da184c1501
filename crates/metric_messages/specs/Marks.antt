-- Where the field of a fault stands in its text.
use Rattle.std.specs.Prelude.{◌≡◌, ℕ, ◌+◌, ◌==◌, ◌&&◌, ◌||◌, Bool, true, false, if◌then◌else◌, not}
use Rattle.std.specs.Prelude.{List, [], ◌∷◌, codes, drop, nat_le, take, IfSome, Option, Some, None}
use Rattle.metric_contents.specs.declared.contents.Kind.{Kind}
use Rattle.metric_contents.specs.declared.contents.Kind.TheVariants as kinds
use Rattle.metric_catalogue.specs.declared.fault.CatalogueDefect.{CatalogueDefect}
use Rattle.metric_catalogue.specs.declared.fault.CatalogueDefect.TheVariants as catalogue
use Rattle.metric_catalogue.specs.declared.fault.CatalogueFault.{CatalogueFault}
use Rattle.metric_catalogue.specs.declared.fault.CatalogueFault.TheVariants as of_catalogue
use Rattle.metric_catalogue.specs.declared.fault.CatalogueSpot.{CatalogueSpot}
use Rattle.metric_catalogue.specs.declared.fault.CatalogueField.{CatalogueField}
use Rattle.metric_catalogue.specs.declared.fault.CatalogueField.TheVariants as catalogue_fields
use Rattle.metric_catalogue.specs.FieldWords.{field_name as catalogue_field}
use Rattle.metric_catalogue.specs.FieldWords.{names_at as catalogue_names}
use Rattle.metric_cert.specs.declared.fault.CertFault.{CertFault}
use Rattle.metric_cert.specs.declared.fault.CertFault.TheVariants as of_certificate
use Rattle.metric_cert.specs.declared.fault.CertList.{CertList}
use Rattle.metric_cert.specs.declared.fault.CertPlace.TheVariants as places
use Rattle.metric_cert.specs.Places.{list_name}
use Rattle.metric_views.specs.declared.fault.ConfigField.{ConfigField}
use Rattle.metric_views.specs.declared.fault.ConfigField.TheVariants as fields
use Rattle.metric_views.specs.declared.fault.ConfigPlace.{ConfigPlace}
use Rattle.metric_views.specs.declared.fault.ConfigSpot.{ConfigSpot}
use Rattle.metric_views.specs.declared.fault.ViewDefect.{ViewDefect}
use Rattle.metric_views.specs.declared.fault.ViewDefect.TheVariants as config
use Rattle.metric_views.specs.declared.fault.ViewFault.{ViewFault}
use Rattle.metric_views.specs.declared.fault.ViewFault.TheVariants as of_config
use Rattle.metric_views.specs.FieldWords.{field_name as config_field}
use Rattle.metric_views.specs.FieldWords.{names_at as config_names}
use Rattle.metric_views.specs.Readers.{kind_names}
use Rattle.metric_lint.specs.declared.position.Position.{Position}
use Rattle.metric_messages.specs.Standing.{has_word, headers, is_header, is_listed, is_nth, is_other}
use Rattle.metric_messages.specs.Standing.{is_plain}
use Rattle.metric_messages.specs.Tables.{catalogue_table, config_table, header_of, in_catalogue}
use Rattle.metric_messages.specs.Tables.{in_config}
use Rattle.metric_messages.specs.declared.spot.Spot.{Spot}
use Rattle.metric_messages.specs.declared.spot.Spot.TheVariants as spots
use Rattle.metric_messages.specs.declared.spot.TableFault.{TableFault}
use Rattle.metric_messages.specs.declared.spot.TableFault.TheVariants as tables

-- a byte that goes on with a character
abbrev pub goes_on : ℕ → Bool
goes_on byte = nat_le 128 byte && nat_le byte 191

-- the place after one more byte: a line feed begins a line, and a character has one place in it
abbrev pub after : Position → ℕ → Position
after place byte =
    if byte == 10 then record { line = place.line + 1; column = 1 }
    else if goes_on byte then place
    else record { line = place.line; column = place.column + 1 }

-- the place after more bytes
abbrev pub after_all : Position → List ℕ → Position
after_all place [] = place
after_all place (byte ∷ bytes) = after_all (after place byte) bytes

-- where a text begins
abbrev pub start : Position
start = record { line = 1; column = 1 }

-- # where a fault stands (profile) [Marks, StandsInCatalogue, StandsInConfig, StandsInCertificate]
-- At a place of the text at which its field, its entry or its table stands: the part before the
-- place and the part from it on pass this test.
pub record Marks (text : List ℕ) (passes : List ℕ → List ℕ → Bool) (position : Position)
    : Type 0 where
  pub before : ℕ
  pub found : passes (take before text) (drop before text) ≡ true
  pub placed : position ≡ after_all start (take before text)

-- any place of a text
abbrev pub anywhere : List ℕ → List ℕ → Bool
anywhere before rest = true

-- the entry of this number of a field's list: behind its name, or of groups by its header
abbrev pub entry_marks : CatalogueField → ℕ → List ℕ → List ℕ → Bool
entry_marks catalogue_fields.Group entry before rest =
    is_header (codes "[[meter.group]]") rest || is_listed (codes "group") entry before
entry_marks field entry before rest = is_listed (catalogue_field field) entry before

-- the name of a field, or the entry of this number
abbrev pub field_marks : Option ℕ → CatalogueField → List ℕ → List ℕ → Bool
field_marks None field before rest = has_word (catalogue_field field) rest
field_marks (Some entry) field before rest = entry_marks field entry before rest

-- the entry of a spot, where its field is a list: budgets by name are a table
abbrev pub entry_of : CatalogueField → Option ℕ → Option ℕ
entry_of catalogue_fields.Budget entry = None
entry_of _ entry = entry

abbrev pub entry_in : CatalogueSpot → Option ℕ
entry_in spot = entry_of spot.field spot.entry

-- Of a field that is missing: its table, or the field itself where that is an empty list.
abbrev pub missing_marks : Option ℕ → CatalogueSpot → Bool → List ℕ → List ℕ → Bool
missing_marks None spot plain before rest =
    catalogue_table spot.place plain before rest || has_word (catalogue_field spot.field) rest
missing_marks (Some entry) spot plain before rest = entry_marks spot.field entry before rest

-- Of one that is not known: a name that is none of its table's.
abbrev pub unknown_marks : Option ℕ → CatalogueSpot → List ℕ → List ℕ → Bool
unknown_marks None spot before rest = is_other (catalogue_names 1 spot.place) before rest
unknown_marks (Some entry) spot before rest = entry_marks spot.field entry before rest

-- Of any other: the field, or its entry; of each of a table in a list of its own, that entry.
abbrev pub marks_in_catalogue : CatalogueDefect → CatalogueSpot → Bool → List ℕ → List ℕ → Bool
marks_in_catalogue catalogue.MissingField spot plain before rest =
    missing_marks spot.entry spot plain before rest
marks_in_catalogue catalogue.UnknownField spot plain before rest =
    unknown_marks spot.entry spot before rest
marks_in_catalogue _ spot plain before rest =
    field_marks (entry_in spot) spot.field before rest

-- the same, and where the text is plain, in the table of its number
abbrev pub catalogue_marks : CatalogueDefect → CatalogueSpot → List ℕ → List ℕ → List ℕ → Bool
catalogue_marks defect spot text before rest =
    marks_in_catalogue defect spot (is_plain text) before rest
    && (not (is_plain text) || in_catalogue spot.place before rest)

-- the name of a kind of instrument
abbrev pub kind_name : Kind → List ℕ
kind_name kinds.Counter = codes "counter"
kind_name kinds.UpDownCounter = codes "up_down_counter"
kind_name kinds.Histogram = codes "histogram"
kind_name kinds.Gauge = codes "gauge"

-- the name of a field, or of the kind that it makes a choice for
abbrev pub chosen : Option Kind → List ℕ → List ℕ
chosen None name = name
chosen (Some kind) name = kind_name kind

-- the names that a table has, or that a field has which makes choices
abbrev pub known_names : ConfigField → ConfigPlace → List (List ℕ)
known_names fields.Unknown place = config_names place
known_names _ place = kind_names

-- the same of a config
abbrev pub marks_in_config : ViewDefect → ConfigSpot → Bool → List ℕ → List ℕ → Bool
marks_in_config config.MissingField spot plain before rest =
    config_table spot.place plain before rest || has_word (config_field spot.field) rest
marks_in_config config.UnknownField spot plain before rest =
    is_other (known_names spot.field spot.place) before rest
marks_in_config _ spot plain before rest =
    has_word (chosen spot.kind (config_field spot.field)) rest

abbrev pub config_marks : ViewDefect → ConfigSpot → List ℕ → List ℕ → List ℕ → Bool
config_marks defect spot text before rest =
    marks_in_config defect spot (is_plain text) before rest
    && (not (is_plain text) || in_config spot.place before rest)

-- An element of a list of a certificate: where a line is the header of such tables, the one of its
-- number in a plain text, and a header in any; else what stands behind the list's name.
abbrev pub certificate_marks : CertList → ℕ → List ℕ → List ℕ → List ℕ → Bool
certificate_marks list number text before rest =
    if headers [] (header_of list) 0 true text == 0 then is_listed (list_name list) number before
    else is_header (header_of list) rest
    && (not (is_plain text) || is_nth [] (header_of list) number before rest)

-- what stands where a fault does
abbrev pub marks_of : List ℕ → Spot → List ℕ → List ℕ → Bool
marks_of text spots.Text before rest = true
marks_of text (spots.Table (tables.Catalogue defect spot)) before rest =
    catalogue_marks defect spot text before rest
marks_of text (spots.Table (tables.Config defect spot)) before rest =
    config_marks defect spot text before rest
marks_of text (spots.Entry list number) before rest =
    certificate_marks list number text before rest
marks_of text (spots.Nowhere words) before rest = false

-- the position of a spot, where there is one
abbrev pub IsMarked : List ℕ → Spot → Option Position → Type 0
IsMarked text spot position = IfSome position (Marks text (marks_of text spot))

abbrev pub StandsInCatalogue : List ℕ → CatalogueFault → Option Position → Type 0
StandsInCatalogue text of_catalogue.NotToml position = IfSome position (Marks text anywhere)
StandsInCatalogue text (of_catalogue.At defect spot) position =
    IfSome position (Marks text (catalogue_marks defect spot text))
StandsInCatalogue text of_catalogue.Memory position = position ≡ None

abbrev pub StandsInConfig : List ℕ → ViewFault → Option Position → Type 0
StandsInConfig text of_config.NotToml position = IfSome position (Marks text anywhere)
StandsInConfig text (of_config.At defect spot) position =
    IfSome position (Marks text (config_marks defect spot text))
StandsInConfig text of_config.Memory position = position ≡ None

abbrev pub StandsInCertificate : List ℕ → CertFault → Option Position → Type 0
StandsInCertificate text of_certificate.NotToml position = IfSome position (Marks text anywhere)
StandsInCertificate text (of_certificate.Shape places.Top) position = position ≡ None
StandsInCertificate text (of_certificate.Shape (places.Entry list number)) position =
    IfSome position (Marks text (certificate_marks list number text))
StandsInCertificate text of_certificate.Memory position = position ≡ None
