-- Whether programs that were made of an old catalogue go on with a new one.
use Rattle.std.specs.Prelude.{◌≡◌, ◌≢◌, ◌<◌, ℕ, Bool, not, is_some, List, [], ◌++◌, codes, map}
use Rattle.std.specs.Prelude.{length, Option, Some, None, slice_get}
use Rattle.std.specs.BTreeMap.{get_by_text}
use Rattle.std.specs.List.{enumerate_from, position_from}
use Rattle.std.specs.Option.{option_map_or}
use Rattle.metric_contents.specs.declared.contents.Contents.{Contents}
use Rattle.metric_contents.specs.declared.contents.Instrument.{Instrument}
use Rattle.metric_contents.specs.declared.contents.Meter.{Meter}
use Rattle.metric_contents.specs.declared.contents.Recorder.{Recorder}
use Rattle.metric_meaning.specs.Made.{shape_of}
use Rattle.metric_meaning.specs.Meanings.{Means}
use Rattle.metric_diff.specs.Changes.{repeated}
use Rattle.metric_diff.specs.Known.{place_of}
use Rattle.metric_diff.specs.declared.asked.Asked.{Asked}
use Rattle.metric_diff.specs.declared.programs.Found.{Found}
use Rattle.metric_diff.specs.declared.programs.Found.TheVariants.{At, Differs}
use Rattle.metric_diff.specs.declared.programs.Programs.{Programs}
use Rattle.metric_diff.specs.declared.programs.Programs.TheVariants.{GoOn, GoOnButInC}
use Rattle.metric_diff.specs.declared.programs.Programs.TheVariants.{OtherInstrument, NoRecorder}

-- the name of an instrument's meter
abbrev pub meter_of : Contents → Instrument → List ℕ
meter_of contents own =
    option_map_or (λ (meter : Meter). meter.name) (slice_get contents.meters own.meter) []

-- what a program asks for an instrument by: its name and, behind a blank, that of its meter. A name
-- has no blank.
abbrev pub asked_text : Contents → Instrument → List ℕ
asked_text contents own = own.name ++ (codes " " ++ meter_of contents own)

abbrev pub asked_texts : Contents → List (List ℕ)
asked_texts contents = map (asked_text contents) contents.instruments

-- A text stands at this place, and at no other one.
pub record IsOnly (texts : List (List ℕ)) (text : List ℕ) (place : ℕ) : Type 0 where
  pub at : slice_get texts place ≡ Some text
  pub only : (other : ℕ) → slice_get texts other ≡ Some text → other ≡ place

-- the new instrument at a place means what the old one is
abbrev pub MeansAt : Contents → Contents → Instrument → ℕ → Type 0
MeansAt old new own place = Means new place (shape_of (meter_of old own) own)

-- A program that was made for an old instrument goes on with the new one at a place: no other one
-- has its name and a meter of that name, and it means what the old one is.
pub record GoesTo (old new : Contents) (own : Instrument) (place : ℕ) : Type 0 where
  pub found : IsOnly (asked_texts new) (asked_text old own) place
  pub means : MeansAt old new own place

-- It goes on with one.
pub record Goes (old new : Contents) (own : Instrument) : Type 0 where
  pub place : ℕ
  pub goes : GoesTo old new own place

-- each old instrument before a number, which programs go on with
abbrev pub GoBefore : Contents → Contents → ℕ → Type 0
GoBefore old new before =
    (number : ℕ) (own : Instrument) → number < before
    → slice_get old.instruments number ≡ Some own → Goes old new own

-- the same, with the instrument of the same number
abbrev pub StayBefore : Contents → Contents → ℕ → Type 0
StayBefore old new before =
    (number : ℕ) (own : Instrument) → number < before
    → slice_get old.instruments number ≡ Some own → GoesTo old new own number

-- Some old instrument has another number.
pub record Moves (old new : Contents) : Type 0 where
  pub number : ℕ
  pub own : Instrument
  pub is : slice_get old.instruments number ≡ Some own
  pub place : ℕ
  pub goes : GoesTo old new own place
  pub other : place ≢ number

-- Programs go on with each old instrument before this one, and not with this one.
pub record IsFirstOther (old new : Contents) (number : ℕ) : Type 0 where
  pub before : GoBefore old new number
  pub own : Instrument
  pub is : slice_get old.instruments number ≡ Some own
  pub differs : Goes old new own → ⊥

-- no recorder has the name of this one
abbrev pub is_gone : (List ℕ → Option ℕ) → Recorder → Bool
is_gone find recorder = not (is_some (find recorder.name))

-- the first old recorder of whose name there is no new one
abbrev pub first_gone : List Recorder → List Recorder → Option ℕ
first_gone olds news =
    position_from (is_gone (place_of (map (λ (recorder : Recorder). recorder.name) news))) 0 olds

-- what is said of the instruments alone
abbrev pub AnswersWalk : Contents → Contents → Programs → Type 0
AnswersWalk old new GoOn = StayBefore old new (length old.instruments)
AnswersWalk old new GoOnButInC = GoBefore old new (length old.instruments) × Moves old new
AnswersWalk old new (OtherInstrument number words) = IsFirstOther old new number
AnswersWalk old new (NoRecorder number) = ⊥

-- # programs that go on (profile) [AnswersPrograms, GoesTo, asked_text]
-- Each old instrument is the only one of its name and its meter's in the new catalogue, and means
-- what it was; each old recorder's name is there. In C each instrument has its old number, too. Else
-- the first old instrument that differs, or else the first old recorder that is gone.
abbrev pub AnswersPrograms : Contents → Contents → Programs → Type 0
AnswersPrograms old new GoOn =
    StayBefore old new (length old.instruments)
    × (first_gone old.recorders new.recorders ≡ None)
AnswersPrograms old new GoOnButInC =
    (GoBefore old new (length old.instruments) × Moves old new)
    × (first_gone old.recorders new.recorders ≡ None)
AnswersPrograms old new (OtherInstrument number words) = IsFirstOther old new number
AnswersPrograms old new (NoRecorder number) =
    GoBefore old new (length old.instruments)
    × (first_gone old.recorders new.recorders ≡ Some number)

-- what a program finds for an old instrument
abbrev pub AnswersFound : Contents → Contents → Instrument → Found → Type 0
AnswersFound old new own (At place) = GoesTo old new own place
AnswersFound old new own (Differs words) = Goes old new own → ⊥

-- the same of the new instrument at a place
abbrev pub AnswersCompared : Contents → Contents → Instrument → ℕ → Found → Type 0
AnswersCompared old new own place (At found) = (found ≡ place) × MeansAt old new own place
AnswersCompared old new own place (Differs words) = MeansAt old new own place → ⊥

-- the texts that an earlier one is, too, and nothing for each other one
abbrev pub texts_again : List (List ℕ) → List (List ℕ)
texts_again texts = map (repeated (place_of texts)) (enumerate_from 0 texts)

-- Each text is found at its first place, and among those that stand again.
pub record IsAsked (texts : List (List ℕ)) (asked : Asked) : Type 0 where
  pub first : (text : List ℕ) → get_by_text asked.places text ≡ place_of texts text
  pub again : (text : List ℕ) → get_by_text asked.again text ≡ place_of (texts_again texts) text

-- the second, where there is no first
abbrev pub unless : Option ℕ → Option ℕ → Option ℕ
unless None other = other
unless (Some place) other = None

-- the place of a text, where no other one has it
abbrev pub only_by : Asked → List ℕ → Option ℕ
only_by asked text = unless (get_by_text asked.again text) (get_by_text asked.places text)
