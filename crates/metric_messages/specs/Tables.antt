-- Where the tables of a catalogue, a config and a certificate stand in their texts.
use Rattle.std.specs.Prelude.{ℕ, ◌==◌, Bool, true, ◌&&◌, ◌||◌, List, [], codes, length}
use Rattle.metric_catalogue.specs.declared.fault.CataloguePlace.{CataloguePlace}
use Rattle.metric_catalogue.specs.declared.fault.CataloguePlace.TheVariants as catalogue
use Rattle.metric_cert.specs.declared.fault.CertList.{CertList}
use Rattle.metric_cert.specs.declared.fault.CertList.TheVariants as lists
use Rattle.metric_views.specs.declared.fault.ConfigPlace.{ConfigPlace}
use Rattle.metric_views.specs.declared.fault.ConfigPlace.TheVariants as config
use Rattle.metric_messages.specs.Standing.{is_nth, is_table}

-- the top table begins with the text
abbrev pub is_top : List ℕ → Bool
is_top before = length before == 0

-- the table of an instrument, of a meter or of a group
abbrev pub instrument_table : Bool → List ℕ → Bool
instrument_table plain rest =
    is_table (codes "[[meter.instrument]]") plain rest
    || is_table (codes "[[meter.group.instrument]]") plain rest

-- the table of a key, of such an instrument or of a group
abbrev pub key_table : Bool → List ℕ → Bool
key_table plain rest =
    is_table (codes "[[meter.instrument.key]]") plain rest
    || (is_table (codes "[[meter.group.key]]") plain rest
    || is_table (codes "[[meter.group.instrument.key]]") plain rest)

-- the table of a place begins here
abbrev pub catalogue_table : CataloguePlace → Bool → List ℕ → List ℕ → Bool
catalogue_table catalogue.Top plain before rest = is_top before
catalogue_table (catalogue.Meter number) plain before rest =
    is_table (codes "[[meter]]") plain rest
catalogue_table (catalogue.Instrument number) plain before rest = instrument_table plain rest
catalogue_table (catalogue.Key number key) plain before rest = key_table plain rest
catalogue_table (catalogue.SharedKey number) plain before rest =
    is_table (codes "[[key]]") plain rest
catalogue_table (catalogue.Recorder number) plain before rest =
    is_table (codes "[[recorder]]") plain rest
catalogue_table (catalogue.Budget number budget) plain before rest =
    is_table (codes "[[recorder.budget]]") plain rest

-- it is the table of its number, or within that; a key is counted in its instrument, and a budget
-- in its recorder
abbrev pub in_catalogue : CataloguePlace → List ℕ → List ℕ → Bool
in_catalogue catalogue.Top before rest = true
in_catalogue (catalogue.Meter number) before rest =
    is_nth [] (codes "[[meter]]") number before rest
in_catalogue (catalogue.Instrument number) before rest =
    is_nth [] (codes "[[meter.instrument]]") number before rest
in_catalogue (catalogue.Key number key) before rest =
    is_nth [] (codes "[[meter.instrument]]") number before rest
    && is_nth (codes "[[meter.instrument]]") (codes "[[meter.instrument.key]]") key before rest
in_catalogue (catalogue.SharedKey number) before rest =
    is_nth [] (codes "[[key]]") number before rest
in_catalogue (catalogue.Recorder number) before rest =
    is_nth [] (codes "[[recorder]]") number before rest
in_catalogue (catalogue.Budget number budget) before rest =
    is_nth [] (codes "[[recorder]]") number before rest
    && is_nth (codes "[[recorder]]") (codes "[[recorder.budget]]") budget before rest

-- the same of a config
abbrev pub config_table : ConfigPlace → Bool → List ℕ → List ℕ → Bool
config_table config.Top plain before rest = is_top before
config_table (config.Reader number) plain before rest = is_table (codes "[[reader]]") plain rest
config_table (config.View number) plain before rest = is_table (codes "[[view]]") plain rest

abbrev pub in_config : ConfigPlace → List ℕ → List ℕ → Bool
in_config config.Top before rest = true
in_config (config.Reader number) before rest =
    is_nth [] (codes "[[reader]]") number before rest
in_config (config.View number) before rest = is_nth [] (codes "[[view]]") number before rest

-- the header of a list of a certificate
abbrev pub header_of : CertList → List ℕ
header_of lists.Reason = codes "[[reason]]"
header_of lists.Stream = codes "[[stream]]"
header_of lists.Bound = codes "[[bound]]"
header_of lists.Order = codes "[[order]]"
