-- Set keys that a host writes itself, and the attributes that they name.
use Rattle.std.specs.Prelude.{◌≡◌, ◌∷◌, ◌++◌, ℕ, ℤ, zero, suc, List, [], Ok, Option, Some, None}
use Rattle.std.specs.Prelude.{length, slice_get, true}
use Rattle.metric_names.specs.declared.value.AttrValue.{AttrValue}
use Rattle.metric_catalogue.specs.Sound.{IsSound}
use Rattle.metric_contents.specs.declared.contents.Contents.{Contents}
use Rattle.metric_contents.specs.declared.contents.Instrument.{Instrument}
use Rattle.metric_contents.specs.declared.contents.Key.{Key}
use Rattle.metric_contents.specs.Encoding.{Given, encode_of, permitted, set_of}
use Rattle.metric_contents.specs.KeySets.{is_key_set}
use Rattle.metric_hosted.specs.declared.planned.HostedRecorder.{HostedRecorder}
use Rattle.metric_hosted.specs.Hosts.{HostedValue, number_of}
use Rattle.metric_plan.specs.Plans.{IsPlan}
use Rattle.wormweekly_c.specs.Recordings.{admission, admission_key}

-- the attribute of a name with a value, where there is one
abbrev pub valued : List ℕ → Option AttrValue → List Given
valued name None = []
valued name (Some value) = (name, value) ∷ []

-- that of an entry of a key: one plus the place of its value, or 0 where it has none
abbrev pub named_at : List ℕ → List AttrValue → ℕ → List Given
named_at name values zero = []
named_at name values (suc place) = valued name (slice_get values place)

-- the attributes of the entries of a set key
abbrev pub named_by : List Key → List ℕ → List Given
named_by [] set = []
named_by (key ∷ keys) [] = []
named_by (key ∷ keys) (entry ∷ set) = named_at key.name key.values entry ++ named_by keys set

-- The attributes of its entries name the set key, and are refused exactly where it is not allowed.
pub record IsNamed (contents : Contents) (number : ℕ) (instrument : Instrument) (set : List ℕ)
    : Type 0 where
  pub named : set_of instrument.keys (named_by instrument.keys set) ≡ Ok set
  pub encoded : encode_of contents.instruments number (named_by instrument.keys set)
      ≡ permitted instrument.allowed set

-- # set keys that a host writes (profile) [RanksNameSets, RanksAreTold, KeysAreTheirTexts]
-- Each full set of an instrument's keys is what the attributes of its entries name.
abbrev pub RanksNameSets : Type 0
RanksNameSets =
    (contents : Contents) (number : ℕ) (instrument : Instrument) (set : List ℕ) → IsSound contents
    → slice_get contents.instruments number ≡ Some instrument → length set ≡ 8
    → is_key_set instrument.keys set ≡ true → IsNamed contents number instrument set

-- Set keys that differ name attributes that differ.
abbrev pub RanksAreTold : Type 0
RanksAreTold =
    (contents : Contents) (number : ℕ) (instrument : Instrument) (set other : List ℕ)
    → IsSound contents → slice_get contents.instruments number ≡ Some instrument
    → length set ≡ 8 → length other ≡ 8
    → is_key_set instrument.keys set ≡ true → is_key_set instrument.keys other ≡ true
    → named_by instrument.keys set ≡ named_by instrument.keys other → set ≡ other

-- A recording of such a set key is admitted, and so answered and kept, as the one with the
-- attributes that its entries name.
abbrev pub KeysAreTheirTexts : Type 0
KeysAreTheirTexts =
    (own : HostedRecorder) (h : HostedValue) (instrument : Instrument) (set : List ℕ) (value : ℤ)
    → IsPlan own.plan → IsSound own.plan.facts.contents
    → slice_get own.plan.facts.contents.instruments (number_of h) ≡ Some instrument
    → length set ≡ 8 → is_key_set instrument.keys set ≡ true
    → admission h own (named_by instrument.keys set) value ≡ admission_key h own set value
