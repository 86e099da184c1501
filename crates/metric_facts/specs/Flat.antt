-- Facts as one list of bytes. What the list says of each field is found by reading it from the
-- front, so that equal lists are of equal facts.
use Rattle.std.specs.Prelude.{ℕ, zero, suc, ◌+◌, ◌/◌, ◌%◌, ℤ, pos, Bool, true, false, if◌then◌else◌}
use Rattle.std.specs.Prelude.{nat_lt, int_lt, unsigned_abs, List, [], ◌∷◌, ◌++◌, length, take, drop}
use Rattle.std.specs.Prelude.{Option, Some, None, ◌&&◌, ◌==◌, find}
use Rattle.std.specs.Cmp.Lexicographic.{pointwise}
use Rattle.std.specs.List.{list_all}
use Rattle.std.specs.Ordering.{int_eq}
use Rattle.std.specs.Str.{bytes_eq}
use Rattle.metric_contents.specs.declared.contents.Kind.{Kind}
use Rattle.metric_contents.specs.declared.contents.Kind.TheVariants.{Counter, UpDownCounter}
use Rattle.metric_contents.specs.declared.contents.Kind.TheVariants.{Histogram, Gauge}
use Rattle.metric_views.specs.declared.stream.Stream.{Stream}
use Rattle.metric_views.specs.declared.stream.StreamAggregation.{StreamAggregation}
use Rattle.metric_views.specs.declared.stream.StreamAggregation.TheVariants as aggregations
use Rattle.metric_facts.specs.declared.facts.FactsFields.{FactsFields}
use Rattle.metric_facts.specs.declared.facts.KeyFacts.{KeyFacts}
use Rattle.metric_facts.specs.declared.facts.NumberedStream.{NumberedStream}
use Rattle.metric_facts.specs.declared.flat.StreamDetails.{StreamDetails}
use Rattle.metric_facts.specs.Facts.{is_delta_temporality}

-- a number in groups of seven bits, the lowest first; 128 more says that another follows. The first
-- argument is as large as the number.
abbrev pub groups : ℕ → ℕ → List ℕ
groups zero number = number ∷ []
groups (suc more) number =
    if nat_lt number 128 then number ∷ [] else (number % 128 + 128) ∷ groups more (number / 128)

abbrev pub flat_number : ℕ → List ℕ
flat_number number = groups number number

abbrev pub flag_number : Bool → ℕ
flag_number true = 1
flag_number false = 0

abbrev pub flat_flag : Bool → List ℕ
flat_flag flag = flag_number flag ∷ []

-- whether a number is negative, and how far it is from 0
abbrev pub flat_signed : ℤ → List ℕ
flat_signed number = flat_flag (int_lt number (pos 0)) ++ flat_number (unsigned_abs number)

-- each value, one after the other
abbrev pub flat_each : {X : Type 0} → (X → List ℕ) → List X → List ℕ
flat_each flat [] = []
flat_each flat (x ∷ xs) = flat x ++ flat_each flat xs

-- how many values there are, and each
abbrev pub flat_list : {X : Type 0} → (X → List ℕ) → List X → List ℕ
flat_list flat xs = flat_number (length xs) ++ flat_each flat xs

abbrev pub flat_text : List ℕ → List ℕ
flat_text text = flat_number (length text) ++ text

abbrev pub flat_key : KeyFacts → List ℕ
flat_key key = flat_number key.values ++ flat_flag key.optional

-- the number of a view after 1, or 0 for the default
abbrev pub view_number : Option ℕ → ℕ
view_number None = 0
view_number (Some view) = view + 1

abbrev pub kind_number : Kind → ℕ
kind_number Counter = 0
kind_number UpDownCounter = 1
kind_number Histogram = 2
kind_number Gauge = 3

abbrev pub aggregation_number : StreamAggregation → ℕ
aggregation_number aggregations.Sum = 0
aggregation_number aggregations.LastValue = 1
aggregation_number (aggregations.Histogram boundaries) = 2

-- the boundaries of a histogram
abbrev pub boundaries_of : StreamAggregation → List ℤ
boundaries_of aggregations.Sum = []
boundaries_of aggregations.LastValue = []
boundaries_of (aggregations.Histogram boundaries) = boundaries

-- the texts and boundaries of a stream, which streams of one view mostly share
pub record Details : Type 0 where
  pub name : List ℕ
  pub description : List ℕ
  pub unit : List ℕ
  pub boundaries : List ℤ

abbrev pub details_of : Stream → Details
details_of s = record {
  name = s.name;
  description = s.description;
  unit = s.unit;
  boundaries = boundaries_of s.aggregation;
}

abbrev pub details_seen : StreamDetails → Details
details_seen d = record {
  name = d.name.now;
  description = d.description.now;
  unit = d.unit.now;
  boundaries = d.boundaries.now;
}

abbrev pub is_same_details : Details → Details → Bool
is_same_details a b =
    bytes_eq a.name b.name && bytes_eq a.description b.description && bytes_eq a.unit b.unit
    && pointwise int_eq a.boundaries b.boundaries

abbrev pub flat_details : Details → List ℕ
flat_details d =
    flat_text d.name ++ flat_text d.description ++ flat_text d.unit
    ++ flat_list flat_signed d.boundaries

-- whether details are those of an earlier stream
abbrev pub repeats : Option NumberedStream → Details → Bool
repeats None d = false
repeats (Some earlier) d = is_same_details (details_of earlier.stream) d

-- details, or that they are those of an earlier stream
abbrev pub flat_details_after : Option NumberedStream → Details → List ℕ
flat_details_after earlier d = if repeats earlier d then 0 ∷ [] else 1 ∷ flat_details d

-- of which reader and instrument a stream is, of which view, and of which kind
abbrev pub flat_source : Stream → List ℕ
flat_source s =
    flat_number s.reader ++ flat_number s.instrument ++ flat_number (view_number s.view)
    ++ kind_number s.kind ∷ []

-- how the points of a stream are made, and of which series
abbrev pub flat_points : Stream → List ℕ
flat_points s =
    aggregation_number s.aggregation ∷ [] ++ flat_list flat_flag s.kept ++ flat_number s.limit
    ++ flat_flag (is_delta_temporality s.temporality)

-- what a stream has beside its details
abbrev pub flat_settings : Stream → List ℕ
flat_settings s = flat_source s ++ flat_points s

-- whether a stream is of the view of this number, as `view_number` counts
abbrev pub is_of_view : ℕ → NumberedStream → Bool
is_of_view view numbered = view_number numbered.stream.view == view

-- a stream after an earlier one
abbrev pub flat_stream : Option NumberedStream → NumberedStream → List ℕ
flat_stream earlier numbered =
    flat_number numbered.number ++ flat_flag numbered.by_product ++ flat_settings numbered.stream
    ++ flat_details_after earlier (details_of numbered.stream)

-- the last stream of the same view, where the last of all stands first
abbrev pub last_of_view : List NumberedStream → NumberedStream → Option NumberedStream
last_of_view earlier numbered = find (is_of_view (view_number numbered.stream.view)) earlier

-- streams, each after the last earlier one of its view; the last of all the earlier ones stands
-- first
abbrev pub flat_streams : List NumberedStream → List NumberedStream → List ℕ
flat_streams earlier [] = []
flat_streams earlier (numbered ∷ streams) =
    flat_stream (last_of_view earlier numbered) numbered
    ++ flat_streams (numbered ∷ earlier) streams

-- what an instrument has beside its streams and its combinations
abbrev pub flat_instrument : FactsFields → List ℕ
flat_instrument facts =
    flat_number facts.plan ++ flat_flag facts.certified ++ flat_number facts.instrument
    ++ flat_list flat_key facts.keys ++ flat_signed facts.lo ++ flat_signed facts.hi
    ++ flat_list flat_number facts.budgets ++ flat_number facts.spare
    ++ flat_list flat_flag facts.delta

-- whether a set key has eight entries, of which those after so many keys are 0
abbrev pub is_of_keys : ℕ → List ℕ → Bool
is_of_keys keys row = length row == 8 && list_all (λ entry. entry == 0) (drop keys row)

-- its entries of the keys, without what is known to come after them
abbrev pub flat_row : ℕ → List ℕ → List ℕ
flat_row keys row = flat_each flat_number (take keys row)

-- rows of set keys, shortly where each is of so many keys
abbrev pub flat_rows : ℕ → List (List ℕ) → List ℕ
flat_rows keys rows =
    if list_all (is_of_keys keys) rows then 0 ∷ flat_list (flat_row keys) rows
    else 1 ∷ flat_list (flat_list flat_number) rows

-- the allowed combinations of so many keys, where these are listed
abbrev pub flat_allowed : ℕ → Option (List (List ℕ)) → List ℕ
flat_allowed keys None = 0 ∷ []
flat_allowed keys (Some rows) = 1 ∷ flat_rows keys rows

-- # bytes of facts (profile)
-- Each field one after the other, so that it can be read from the front: numbers in groups of seven
-- bits, lists after their length. A stream's texts and boundaries are spelled only where they are
-- not those of the last earlier stream of its view. Of a listed combination stand the entries of
-- the declared keys, where in each of them nothing follows these.
abbrev pub flat_facts : FactsFields → List ℕ
flat_facts facts =
    flat_instrument facts ++ (flat_number (length facts.streams) ++ flat_streams [] facts.streams)
    ++ flat_allowed (length facts.keys) facts.allowed

-- # same facts (profile)
-- The same fields, as the bytes tell.
abbrev pub facts_eq : FactsFields → FactsFields → Bool
facts_eq a b = bytes_eq (flat_facts a) (flat_facts b)
