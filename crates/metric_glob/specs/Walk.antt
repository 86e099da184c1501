-- The walk of two cursors, and what it knows at each step.
use Rattle.std.specs.Prelude.{◌≡◌, ◌^◌, [], ◌∷◌, ◌++◌, ℕ, ◌+◌, ◌-◌, ◌*◌, ◌<◌, ◌≤◌, ◌||◌, Bool, true}
use Rattle.std.specs.Prelude.{false, List, length, drop, slice_index, Option, None, Some, ⊤}
use Rattle.metric_glob.specs.Matching.{takes_any, any_suffix, is_match, IsStarAt, StandsAt}
use Rattle.metric_glob.specs.Reasons.{is_spelled}
use Rattle.metric_glob.specs.declared.walk.Star.{Star}
use Rattle.metric_glob.specs.declared.walk.Walk.{Walk}
use Rattle.metric_glob.specs.declared.walk.Step.{Step}
use Rattle.metric_glob.specs.declared.walk.Step.TheVariants.{Opened, Took, Again}

-- whether what is left of the pattern matches what is left of the text
abbrev pub rest_matches : List ℕ → List ℕ → ℕ → ℕ → Bool
rest_matches pattern text place at = is_match (drop place pattern) (drop at text)

-- whether a longer piece for the last `*` gives a match
abbrev pub later_matches : List ℕ → List ℕ → Option Star → Bool
later_matches pattern text None = false
later_matches pattern text (Some star) =
    any_suffix (is_match (drop star.after pattern)) (drop (star.end + 1) text)

-- since the last `*` each character stood for one
pub record IsSince (pattern : List ℕ) (place at : ℕ) (star : Star) : Type 0 where
  pub begins : star.start ≤ star.end
  pub ends : star.end ≤ at
  pub passed : star.after ≤ place
  pub together : at + star.after ≡ place + star.end
  pub ones : (i : ℕ) → star.after ≤ i → i < place → takes_any (slice_index pattern i) ≡ false

abbrev pub IsSinceStar : List ℕ → ℕ → ℕ → Option Star → Type 0
IsSinceStar pattern place at None = ⊤
IsSinceStar pattern place at (Some star) = IsSince pattern place at star

-- The text matches exactly where it does from here on, or with a longer piece for the last `*`.
pub record IsWalk (pattern text : List ℕ) (walk : Walk) : Type 0 where
  pub in_pattern : walk.place ≤ length pattern
  pub in_text : walk.at ≤ length text
  pub since : IsSinceStar pattern walk.place walk.at walk.star
  pub whole : is_match pattern text
      ≡ (rest_matches pattern text walk.place walk.at || later_matches pattern text walk.star)

-- Each step does one of these, or there is none to make.
abbrev pub Moves : List ℕ → List ℕ → Walk → Walk → Option Step → Type 0
Moves pattern text old new (Some Opened) =
    IsStarAt pattern old.place × (new ≡ record {
      place = old.place + 1;
      at = old.at;
      star = Some (record { after = old.place + 1; start = old.at; end = old.at });
    })
Moves pattern text old new (Some Took) =
    StandsAt pattern old.place (slice_index text old.at)
    × (new ≡ record { place = old.place + 1; at = old.at + 1; star = old.star })
Moves pattern text old new (Some Again) =
    (rest_matches pattern text old.place old.at ≡ false)
    × ((star : Star) × (old.star ≡ Some star) × (new ≡ record {
      place = star.after;
      at = star.end
          + 1;
      star = Some (record { after = star.after; start = star.start; end = star.end + 1 });
    }))
Moves pattern text old new None =
    (rest_matches pattern text old.place old.at ≡ false) × (old.star ≡ None) × (new ≡ old)

-- how far the last `*` and its piece have come
abbrev pub star_rank : Option Star → ℕ
star_rank None = 0
star_rank (Some star) = star.after + star.end

-- the work that is left, which each step makes less
abbrev pub work_left : List ℕ → List ℕ → Walk → ℕ
work_left pattern text walk =
    (length pattern + length text - star_rank walk.star) * (length pattern + 1)
    + (length pattern - walk.place)

-- what a `*` takes, once its piece is settled
abbrev pub settled : Option Star → List ℕ
settled None = []
settled (Some star) = (star.end - star.start) ∷ []

-- what a step settles: a `*` that is met settles the one before
abbrev pub noted : Step → Option Star → List ℕ
noted Opened last = settled last
noted Took last = []
noted Again last = []

-- the piece of a `*` is short enough for its number
abbrev pub IsShortStar : Option Star → Type 0
IsShortStar None = ⊤
IsShortStar (Some star) = (star.start ≤ star.end) × (star.end < 2 ^ 16)

-- Each `*` that stands from a place on takes nothing. They are all that is left, where the
-- empty text matches what is left.
pub record TakesNothing (pattern : List ℕ) (start : ℕ) (old new : List ℕ) (ended : Bool)
    : Type 0 where
  pub zeros : List ℕ
  pub added : new ≡ old ++ zeros
  pub ends : ended ≡ is_match (drop start pattern) []
  pub spelled : ended ≡ true → is_spelled (drop start pattern) zeros [] ≡ true

-- whatever takes spell what is left with a longer piece for the last `*` complete the takes so far
abbrev pub CompletesLater : List ℕ → List ℕ → Option Star → List ℕ → Type 0
CompletesLater pattern text None takes = ⊤
CompletesLater pattern text (Some star) takes =
    (k : ℕ) (others : List ℕ) → star.end < k → k ≤ length text
    → is_spelled (drop star.after pattern) others (drop k text) ≡ true
    → is_spelled pattern (takes ++ (k - star.start) ∷ others) text ≡ true

-- Whatever takes spell what is left complete the takes so far.
pub record AreTakesSoFar (pattern text : List ℕ) (walk : Walk) (takes : List ℕ) : Type 0 where
  pub now : (others : List ℕ) → is_spelled (drop walk.place pattern) others (drop walk.at text)
      ≡ true → is_spelled pattern (takes ++ (settled walk.star ++ others)) text ≡ true
  pub later : CompletesLater pattern text walk.star takes

-- the same, as far as a place
pub record TakesNothingSoFar (pattern : List ℕ) (start place : ℕ) (old new : List ℕ) : Type 0 where
  pub in_pattern : place ≤ length pattern
  pub zeros : List ℕ
  pub added : new ≡ old ++ zeros
  pub same : is_match (drop place pattern) [] ≡ is_match (drop start pattern) []
  pub spelled : (others : List ℕ) → is_spelled (drop place pattern) others [] ≡ true
      → is_spelled (drop start pattern) (zeros ++ others) [] ≡ true

-- the walk with the takes so far
pub record IsTakesWalk (pattern text : List ℕ) (walk : Walk) (takes : List ℕ) : Type 0 where
  pub walked : IsWalk pattern text walk
  pub sofar : AreTakesSoFar pattern text walk takes
