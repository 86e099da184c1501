-- What the run of an instrument depends on.
use Rattle.std.specs.Prelude.{◌≡◌, ℕ, ℤ, Ok, ◌+◌, Bool, true, false, ◌&&◌, List, [], ◌∷◌, ◌++◌}
use Rattle.std.specs.Prelude.{length, map, slice_index_or, nat_le, int_le, ◌==◌, if◌then◌else◌}
use Rattle.std.specs.List.{list_all}
use Rattle.metric_combinations.specs.Combinations.{permits}
use Rattle.metric_contents.specs.Budgets.{amount_of}
use Rattle.metric_contents.specs.Encoding.{Given, allowed_set}
use Rattle.metric_contents.specs.declared.contents.Contents.{Contents}
use Rattle.metric_contents.specs.declared.contents.Instrument.{Instrument}
use Rattle.metric_contents.specs.declared.contents.Key.{Key}
use Rattle.metric_contents.specs.declared.contents.Kind.{Kind}
use Rattle.metric_contents.specs.declared.contents.Recorder.{Recorder}
use Rattle.metric_views.specs.Choices.{choice_for}
use Rattle.metric_views.specs.declared.choices.Temporality.{Temporality}
use Rattle.metric_views.specs.declared.choices.Temporality.TheVariants.{Delta, Cumulative}
use Rattle.metric_views.specs.declared.config.Reader.{Reader}
use Rattle.metric_views.specs.declared.stream.Stream.{Stream}
use Rattle.metric_facts.specs.declared.facts.FactsFields.{FactsFields as Facts}
use Rattle.metric_facts.specs.declared.facts.KeyFacts.{KeyFacts}
use Rattle.metric_facts.specs.declared.facts.NumberedStream.{NumberedStream}

-- the facts of all instruments, with the catalogue that declares their attributes
pub record RunFacts : Type 0 where
  pub contents : Contents
  pub instruments : List Facts

-- whether a reader is delta for the instrument
abbrev pub is_delta : Facts → ℕ → Bool
is_delta facts reader = slice_index_or facts.delta reader false

-- whether a value is in the instrument's range
abbrev pub in_bounds : Facts → ℤ → Bool
in_bounds facts value = int_le facts.lo value && int_le value facts.hi

abbrev pub is_of_reader : ℕ → NumberedStream → Bool
is_of_reader reader s = s.stream.reader == reader

-- whether an entry of a set key names a value of the key, or is 0 where the key may be absent
abbrev pub is_entry : KeyFacts → ℕ → Bool
is_entry key entry = if entry == 0 then key.optional else nat_le entry key.values

-- # full set (Common, attribute)
-- For each declared key a declared value, or none where the key is optional.
abbrev pub is_full_set : List KeyFacts → List ℕ → Bool
is_full_set [] set = list_all (λ entry. entry == 0) set
is_full_set (key ∷ keys) [] = false
is_full_set (key ∷ keys) (entry ∷ set) = is_entry key entry && is_full_set keys set

-- # allowed set (profile)
-- A full set, and one of the combinations where the instrument lists them.
abbrev pub is_allowed_set : Facts → List ℕ → Bool
is_allowed_set facts set = is_full_set facts.keys set && permits facts.allowed set

abbrev pub key_facts : Key → KeyFacts
key_facts key = record { values = length key.values; optional = key.optional }

abbrev pub is_delta_temporality : Temporality → Bool
is_delta_temporality Delta = true
is_delta_temporality Cumulative = false

-- whether a reader is delta for a kind
abbrev pub is_delta_reader : Kind → Reader → Bool
is_delta_reader kind reader = is_delta_temporality (choice_for reader.temporality kind)

-- whether the stream of a number is by product: a flag for each stream, in order,
-- and where there is none it is not
abbrev pub is_by_product : List Bool → ℕ → Bool
is_by_product flags number = slice_index_or flags number false

-- a stream with its number, and whether it is by product, where it is of the instrument
abbrev pub numbered : ℕ → ℕ → Bool → Stream → List NumberedStream
numbered instrument number by_product s =
    if s.instrument == instrument
    then record { number = number; by_product = by_product; stream = s } ∷ [] else []

-- those of the instrument's streams, the first of which has this number
abbrev pub numbered_from : List Bool → ℕ → ℕ → List Stream → List NumberedStream
numbered_from flags instrument number [] = []
numbered_from flags instrument number (s ∷ streams) =
    numbered instrument number (is_by_product flags number) s
    ++ numbered_from flags instrument (number + 1) streams

-- the facts of the instrument of a number, in a plan of this fingerprint. A stream's number is its
-- place among all.
abbrev pub facts_of : ℕ → Bool → List Bool → List Recorder → List Reader → List Stream → ℕ
    → Instrument → Facts
facts_of plan certified flags recorders readers streams number instrument = record {
  plan = plan;
  certified = certified;
  instrument = number;
  keys = map key_facts instrument.keys;
  allowed = instrument.allowed;
  lo = instrument.lo;
  hi = instrument.hi;
  budgets = map (λ (recorder : Recorder). amount_of recorder number) recorders;
  spare = instrument.spare;
  delta = map (is_delta_reader instrument.kind) readers;
  streams = numbered_from flags number 0 streams;
}

-- those of each instrument, the first of which has this number
abbrev pub facts_from : ℕ → Bool → List Bool → List Recorder → List Reader → List Stream → ℕ
    → List Instrument → List Facts
facts_from plan certified flags recorders readers streams number [] = []
facts_from plan certified flags recorders readers streams number (instrument ∷ instruments) =
    facts_of plan certified flags recorders readers streams number instrument
    ∷ facts_from plan certified flags recorders readers streams (number + 1) instruments

-- facts, the first of which are of the instrument of a number, with one stream more
abbrev pub with_stream : ℕ → ℕ → Bool → Stream → List Facts → List Facts
with_stream first number by_product s [] = []
with_stream first number by_product s (own ∷ all) =
    record own { streams = own.streams ++ numbered first number by_product s }
    ∷ with_stream (first + 1) number by_product s all

-- what attributes are encoded to is a full set of the instrument, and one of its
-- combinations where these are listed
abbrev pub EncodesAllowedSets : Type 0
EncodesAllowedSets =
    (instrument : Instrument) (attrs : List Given) (set : List ℕ)
    → allowed_set instrument attrs ≡ Ok set
    → (is_full_set (map key_facts instrument.keys) set && permits instrument.allowed set) ≡ true

-- # facts of an instrument (profile) [Facts]
-- What its run depends on: the fingerprint of the plan, the number of values of each key and
-- whether it is optional, the allowed combinations where they are listed, range, budgets, spare,
-- delta flags, numbered streams.
