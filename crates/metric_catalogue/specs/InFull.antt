-- What a catalogue in full counts for.
use Rattle.std.specs.Prelude.{ℕ, Bool, ◌+◌, length, nat_le, sum_by}
use Rattle.metric_names.specs.declared.value.AttrValue.{AttrValue}
use Rattle.metric_names.specs.declared.value.AttrValue.TheVariants.{Text, Whole, Flag}
use Rattle.metric_contents.specs.declared.contents.Contents.{Contents}
use Rattle.metric_contents.specs.declared.contents.Instrument.{Instrument}
use Rattle.metric_contents.specs.declared.contents.Key.{Key}

-- the bytes of a text, and of each value 16
abbrev pub value_weight : AttrValue → ℕ
value_weight (Text text) = length text + 16
value_weight (Whole number) = 16
value_weight (Flag flag) = 16

abbrev pub key_weight : Key → ℕ
key_weight key = sum_by value_weight key.values

abbrev pub instrument_weight : Instrument → ℕ
instrument_weight instrument = sum_by key_weight instrument.keys

-- # size of a catalogue in full (profile)
-- The values of all keys, each time that an instrument has one, come to at most 8 MiB.
abbrev pub fits_in_full : Contents → Bool
fits_in_full contents = nat_le (sum_by instrument_weight contents.instruments) 8388608
