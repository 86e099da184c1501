-- What holds of every catalogue.
use Rattle.std.specs.Prelude.{◌≡◌, ◌≢◌, ℕ, ℤ, pos, ◌⊎◌, ◌<◌, ◌^◌, ◌≤◌, ◌≤ℤ◌, All, AllPairs, IfSome}
use Rattle.std.specs.Prelude.{IsTrue, List, None, codes, length, true}
use Rattle.std.specs.Str.{chars}
use Rattle.metric_base.specs.Boundaries.{is_rising}
use Rattle.metric_names.specs.Names.{IsName, IsSameName}
use Rattle.metric_names.specs.Units.{IsUnit}
use Rattle.metric_names.specs.declared.value.AttrValue.{AttrValue}
use Rattle.metric_names.specs.declared.value.AttrValue.TheVariants.{Text, Whole, Flag}
use Rattle.metric_contents.specs.declared.contents.Budget.{Budget}
use Rattle.metric_contents.specs.declared.contents.Contents.{Contents}
use Rattle.metric_contents.specs.declared.contents.Instrument.{Instrument}
use Rattle.metric_contents.specs.declared.contents.Key.{Key}
use Rattle.metric_contents.specs.declared.contents.Meter.{Meter}
use Rattle.metric_contents.specs.declared.contents.Recorder.{Recorder}
use Rattle.metric_contents.specs.KeySets.{is_key_set}
use Rattle.metric_contents.specs.Kinds.{is_monotonic}

-- # sound list (profile)
-- At most so many elements, a fact of each, and any two apart.
pub record IsSoundList {X : Type 0} (most : ℕ) (P : X → Type 0) (AreApart : X → X → Type 0)
    (xs : List X) : Type 0 where
  pub few : length xs ≤ most
  pub each : All P xs
  pub apart : AllPairs AreApart xs

-- A free text has at most 1,023 characters.
abbrev pub IsFreeText : List ℕ → Type 0
IsFreeText text = length (chars text) ≤ 1023

-- A label is a free text that is not empty.
pub record IsLabel (text : List ℕ) : Type 0 where
  pub some : 0 < length text
  pub free : IsFreeText text

-- A value that is a text is a free text.
abbrev pub IsSoundValue : AttrValue → Type 0
IsSoundValue (Text text) = IsFreeText text
IsSoundValue (Whole number) = Unit {0}
IsSoundValue (Flag flag) = Unit {0}

-- A meter has free texts.
pub record IsSoundMeter (meter : Meter) : Type 0 where
  pub name : IsFreeText meter.name
  pub version : IsFreeText meter.version
  pub schema_url : IsFreeText meter.schema_url

-- A key has a label that is not the overflow attribute's, and 1 to 1,000 distinct values.
pub record IsSoundKey (key : Key) : Type 0 where
  pub name : IsLabel key.name
  pub not_reserved : key.name ≢ codes "otel.metric.overflow"
  pub some : 0 < length key.values
  pub values : IsSoundList 1000 IsSoundValue (λ value other. value ≢ other) key.values

-- Boundaries are at most 128 numbers that rise strictly.
pub record AreBoundaries (boundaries : List ℤ) : Type 0 where
  pub few : length boundaries ≤ 128
  pub rising : is_rising boundaries ≡ true

-- A row of allowed combinations is a full set of the keys, and as long as a set key.
pub record IsSoundRow (keys : List Key) (row : List ℕ) : Type 0 where
  pub full : is_key_set keys row ≡ true
  pub long : length row ≡ 8

-- Allowed combinations are at most 4,096 distinct rows.
abbrev pub AreSoundRows : List Key → List (List ℕ) → Type 0
AreSoundRows keys rows = IsSoundList 4096 (IsSoundRow keys) (λ row other. row ≢ other) rows

-- An instrument is of one of so many meters. Its range is not empty, and has no
-- negative value where sums only rise. It has at most 8 keys of distinct names. Its
-- spare budget is at most 2^63 - 1.
pub record IsSoundInstrument (meters : ℕ) (instrument : Instrument) : Type 0 where
  pub known : instrument.meter < meters
  pub name : IsName instrument.name
  pub unit : IsUnit instrument.unit
  pub description : IsFreeText instrument.description
  pub ordered : instrument.lo ≤ℤ instrument.hi
  pub not_negative : IsTrue (is_monotonic instrument.kind) → pos 0 ≤ℤ instrument.lo
  pub advice : IfSome instrument.advice AreBoundaries
  pub keys : IsSoundList 8 IsSoundKey (λ key other. key.name ≢ other.name) instrument.keys
  pub allowed : IfSome instrument.allowed (AreSoundRows instrument.keys)
  pub spare : instrument.spare < 2 ^ 63

-- Two instruments of one meter have names that differ without case.
abbrev pub AreInstrumentsApart : Instrument → Instrument → Type 0
AreInstrumentsApart instrument other =
    instrument.meter ≡ other.meter → ¬ IsSameName instrument.name other.name

-- A budget is for one of so many instruments, and is at most 2^63 - 1.
pub record IsSoundBudget (instruments : ℕ) (budget : Budget) : Type 0 where
  pub known : budget.instrument < instruments
  pub limited : budget.amount < 2 ^ 63

-- A recorder has a label, and at most 512 budgets for distinct instruments.
pub record IsSoundRecorder (instruments : ℕ) (recorder : Recorder) : Type 0 where
  pub name : IsLabel recorder.name
  pub budgets : IsSoundList 512 (IsSoundBudget instruments)
      (λ budget other. budget.instrument ≢ other.instrument) recorder.budgets

-- # sound catalogue (profile)
-- Every limit of the format holds, of counts and of lengths; ranges are not empty and fit their
-- kinds, boundaries rise, what has to be distinct is, rows are sets of their keys, budgets are for
-- known instruments and below 2^63, as is each spare; in format 1 no instrument lists combinations
-- or has a spare.
pub record IsSound (c : Contents) : Type 0 where
  pub format : (c.format ≡ 1) ⊎ (c.format ≡ 2)
  pub plain : c.format ≡ 1
      → All (λ instrument. (instrument.allowed ≡ None) × (instrument.spare ≡ 0)) c.instruments
  pub meters : IsSoundList 64 IsSoundMeter (λ meter other. meter ≢ other) c.meters
  pub instruments : IsSoundList 512
      (IsSoundInstrument (length c.meters)) AreInstrumentsApart c.instruments
  pub recorders : IsSoundList 64 (IsSoundRecorder (length c.instruments))
      (λ recorder other. recorder.name ≢ other.name) c.recorders
