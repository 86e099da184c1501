-- What plans are told apart by: a number of 64 bits, of all that a catalogue and a config say.
use Rattle.std.specs.Prelude.{ℕ}
use Rattle.metric_contents.specs.declared.contents.Budget.{Budget}
use Rattle.metric_contents.specs.declared.contents.Contents.{Contents}
use Rattle.metric_contents.specs.declared.contents.Instrument.{Instrument}
use Rattle.metric_contents.specs.declared.contents.Key.{Key}
use Rattle.metric_contents.specs.declared.contents.Meter.{Meter}
use Rattle.metric_contents.specs.declared.contents.Recorder.{Recorder}
use Rattle.metric_names.specs.declared.value.AttrValue.{AttrValue}
use Rattle.metric_names.specs.declared.value.AttrValue.TheVariants.{Text, Whole, Flag}
use Rattle.metric_views.specs.declared.config.Config.{Config}
use Rattle.metric_plan.specs.ConfigFingerprints.{kind_mixed, reader_mixed, view_mixed}
use Rattle.metric_plan.specs.Mixing.{mixed, mixed_flag, mixed_list, mixed_option, mixed_signed}
use Rattle.metric_plan.specs.Mixing.{mixed_text}

abbrev pub meter_mixed : ℕ → Meter → ℕ
meter_mixed print meter =
    mixed_text (mixed_text (mixed_text print meter.name) meter.version) meter.schema_url

abbrev pub value_mixed : ℕ → AttrValue → ℕ
value_mixed print (Text text) = mixed_text (mixed print 0) text
value_mixed print (Whole number) = mixed_signed (mixed print 1) number
value_mixed print (Flag flag) = mixed_flag (mixed print 2) flag

abbrev pub key_mixed : ℕ → Key → ℕ
key_mixed print key =
    mixed_list value_mixed (mixed_flag (mixed_text print key.name) key.optional) key.values

-- what the streams of an instrument take of it
abbrev pub described_mixed : ℕ → Instrument → ℕ
described_mixed print of =
    let name = mixed_text (mixed print of.meter) of.name in
    let unit = mixed_text (kind_mixed name of.kind) of.unit in
    mixed_option (mixed_list mixed_signed) (mixed_text unit of.description) of.advice

abbrev pub instrument_mixed : ℕ → Instrument → ℕ
instrument_mixed print of =
    let range = mixed_signed (mixed_signed (described_mixed print of) of.lo) of.hi in
    let keys = mixed_list key_mixed range of.keys in
    mixed (mixed_option (mixed_list (mixed_list mixed)) keys of.allowed) of.spare

abbrev pub budget_mixed : ℕ → Budget → ℕ
budget_mixed print budget = mixed (mixed print budget.instrument) budget.amount

abbrev pub recorder_mixed : ℕ → Recorder → ℕ
recorder_mixed print recorder =
    mixed_list budget_mixed (mixed_text print recorder.name) recorder.budgets

abbrev pub contents_mixed : ℕ → Contents → ℕ
contents_mixed print contents =
    let meters = mixed_list meter_mixed print contents.meters in
    let instruments = mixed_list instrument_mixed meters contents.instruments in
    mixed_list recorder_mixed instruments contents.recorders

abbrev pub config_mixed : ℕ → Config → ℕ
config_mixed print config =
    mixed_list view_mixed (mixed_list reader_mixed print config.readers) config.views

-- # fingerprint of a plan (profile)
-- FNV-1a of 64 bits over all that the catalogue and the config say, a step for each number and each
-- byte of a text.
unfoldable pub fingerprint_of : Contents → Config → ℕ
fingerprint_of contents config = config_mixed (contents_mixed 0xCBF29CE484222325 contents) config
