-- The rows of reachable places: what they hold, that they are closed, and that from them nothing matches
-- where the text does not.
use Rattle.std.proofs.Common.{◌≡◌, ◌&&◌, ◌||◌, ℕ, zero, suc, ◌+◌, ◌-◌, ◌<◌, ◌≤◌, Bool, true, false, not, cond, List, [], ◌∷◌, ◌++◌, length, get_or, drop, ltb, refl, sym, ◌∙◌, inl, inr, arith, Option, Some, None}
use Rattle.std.specs.Option.{is_some, IfSome}
use Rattle.std.specs.List.{Contains, slice_get}
use Rattle.std.specs.List.Sorted.{IsStrictlyIncreasing}
use Rattle.std.proofs.lemmas.Bool.{and_from, and_parts, cases_Bool, cases_lt, eqb-true, lt-ltb, ltb-true, not-true, not_from_false, or_cases, or_left, or_right, true≢false}
use Rattle.std.proofs.lemmas.List.{get_or_append_left, get_or_push, length_push, drop_all}
use Rattle.std.proofs.lemmas.List.Elements.{Contains-get_or, Contains-append_left, Contains-push, Contains-push_cases, All-from_get_or}
use Rattle.std.proofs.lemmas.Option.{slice_get-get_or, slice_get_past}
use Rattle.metric_glob.specs.Matching.{takes_any, stands_for, is_match, star_at, stands_at, IsStarAt, StandsAt}
use Rattle.metric_glob.specs.Walk.{rest_matches}
use Rattle.metric_glob.specs.Reach.{has_place, is_entered, is_entered_by, is_reached, is_after_star, places_of, row_after, reached_row, reached_rows}
use Rattle.metric_glob.specs.Reasons.{row_at, StepsStay, ShutsOut}
use Rattle.metric_glob.proofs.SuffixLemmas.{any_suffix-here, rest_any, rest_any_more, rest_one, rest_end}
use Rattle.metric_glob.proofs.RowLemmas.{has_place-Decides, stays_to}

-- the tests of a pattern place as facts
IsStarAt-from : (pattern : List ℕ) (place : ℕ) → star_at pattern place ≡ true → IsStarAt pattern place
IsStarAt-from pattern place passes =
    let both = and_parts (ltb place (length pattern)) (takes_any (get_or pattern place 0)) passes in
    record { within = ltb-true place (length pattern) both.0; any = both.1 }

star_at-from : (pattern : List ℕ) (place : ℕ) → IsStarAt pattern place → star_at pattern place ≡ true
star_at-from pattern place star =
    and_from (ltb place (length pattern)) (takes_any (get_or pattern place 0)) (lt-ltb place (length pattern) star.within) star.any

StandsAt-from : (pattern : List ℕ) (place x : ℕ) → stands_at pattern place x ≡ true → StandsAt pattern place x
StandsAt-from pattern place x passes =
    let c : ℕ = get_or pattern place 0 in
    let both = and_parts (ltb place (length pattern)) (not (takes_any c) && stands_for c x) passes in
    let inner = and_parts (not (takes_any c)) (stands_for c x) both.1 in
    record { within = ltb-true place (length pattern) both.0; one = not-true (takes_any c) inner.0; stands = inner.1 }

stands_at-from : (pattern : List ℕ) (place x : ℕ) → StandsAt pattern place x → stands_at pattern place x ≡ true
stands_at-from pattern place x stands =
    let c : ℕ = get_or pattern place 0 in
    and_from (ltb place (length pattern)) (not (takes_any c) && stands_for c x) (lt-ltb place (length pattern) stands.within)
    (and_from (not (takes_any c)) (stands_for c x) (not_from_false (takes_any c) stands.one) stands.stands)

-- the places that pass a test
places_of-pass : (test : ℕ → Bool) (n : ℕ) → test n ≡ true → places_of test (suc n) ≡ places_of test n ++ n ∷ []
places_of-pass test n passes = rw passes refl

places_of-fail : (test : ℕ → Bool) (n : ℕ) → test n ≡ false → places_of test (suc n) ≡ places_of test n
places_of-fail test n fails = rw fails refl

-- a place of the list is below n and passes
pub record IsPlaceOf (test : ℕ → Bool) (n place : ℕ) : Type 0 where
  pub below : place < n
  pub passes : test place ≡ true

places_of-tells : (test : ℕ → Bool) (n place : ℕ) → Contains (places_of test n) place → IsPlaceOf test n place
places_of-tells test zero place has = let none = has.1 in absurd (omega arith)
places_of-tells test (suc n) place has =
    elim (cases_Bool (test n)) [
      | inl passes ↦
          elim (Contains-push_cases (places_of test n) n place (rw (places_of-pass test n passes) at has)) [
            | inl before ↦
                let told = places_of-tells test n place before in
                let below : place < n = told.below in
                record { below = omega arith; passes = told.passes }
            | inr last ↦ record { below = omega arith; passes = rw (← last) passes }
          ]
      | inr fails ↦
          let told = places_of-tells test n place (rw (places_of-fail test n fails) at has) in
          let below : place < n = told.below in
          record { below = omega arith; passes = told.passes }
    ]

places_of-has : (test : ℕ → Bool) (n place : ℕ) → place < n → test place ≡ true → Contains (places_of test n) place
places_of-has test zero place below passes = absurd (omega arith)
places_of-has test (suc n) place below passes =
    elim (cases_lt place n) [
      | inl before ↦
          let has = places_of-has test n place before passes in
          elim (cases_Bool (test n)) [
            | inl also ↦ rw (places_of-pass test n also) (Contains-append_left (places_of test n) (n ∷ []) place has)
            | inr fails ↦ rw (places_of-fail test n fails) has
          ]
      | inr last ↦
          let same : place ≡ n = omega arith in
          let also : test n ≡ true = rw (← same) passes in
          rw (places_of-pass test n also, same) (Contains-push (places_of test n) n)
    ]

push_rising : (row : List ℕ) (n : ℕ) → IsStrictlyIncreasing row → ((p : ℕ) → Contains row p → p < n) → IsStrictlyIncreasing (row ++ n ∷ [])
push_rising row n rising below k within =
    let size : length (row ++ n ∷ []) ≡ length row + 1 = length_push row n in
    elim (cases_lt (k + 1) (length row)) [
      | inl before ↦
          let h : k < length row = omega arith in
          rw (get_or_append_left row (n ∷ []) 0 k h, get_or_append_left row (n ∷ []) 0 (k + 1) before) (rising k before)
      | inr past ↦
          let h : k < length row = omega arith in
          let last : length row ≡ k + 1 = omega arith in
          rw (get_or_append_left row (n ∷ []) 0 k h, get_or_push row n 0 (k + 1) last) (below (get_or row k 0) (Contains-get_or row k 0 h))
    ]

places_of-rising : (test : ℕ → Bool) (n : ℕ) → IsStrictlyIncreasing (places_of test n)
places_of-rising test zero = λ k within. absurd (omega arith)
places_of-rising test (suc n) =
    elim (cases_Bool (test n)) [
      | inl passes ↦
          rw (places_of-pass test n passes)
          (push_rising (places_of test n) n (places_of-rising test n) (λ p has. let told = places_of-tells test n p has in told.below))
      | inr fails ↦ rw (places_of-fail test n fails) (places_of-rising test n)
    ]

-- one place more of a row
pub places_more : (test : ℕ → Bool) (n : ℕ) → places_of test (n + 1) ≡ cond (test n) (places_of test n ++ n ∷ []) (places_of test n)
places_more test n = let one : n + 1 ≡ suc n = omega arith in rw one refl

pub after_star_more : (pattern : List ℕ) (entered : ℕ → Bool) (n : ℕ) → is_after_star pattern entered (n + 1) ≡ (is_reached pattern entered n && star_at pattern n)
after_star_more pattern entered n = let one : n + 1 ≡ suc n = omega arith in rw one refl

or_false : (b : Bool) → (b || false) ≡ b
or_false true = refl
or_false false = refl

pub reached_is : (pattern : List ℕ) (entered : ℕ → Bool) (n : ℕ) → is_reached pattern entered n ≡ (entered n || is_after_star pattern entered n)
reached_is pattern entered zero = sym (or_false (entered 0))
reached_is pattern entered (suc n) = refl

pub row_after_is : (pattern before : List ℕ) (found : Option ℕ) → places_of (is_reached pattern (is_entered pattern before found)) (length pattern + 1) ≡ row_after pattern before found
unfolding row_after
row_after_is pattern before found = refl

-- what a turn of the loop that makes a row rests on
pub ruleset row_steps = (places_more, after_star_more, reached_is, row_after_is)

-- the rows from the first on
pub row_after-rising : (pattern before : List ℕ) (found : Option ℕ) → IsStrictlyIncreasing (row_after pattern before found)
unfolding row_after
row_after-rising pattern before found = places_of-rising (is_reached pattern (is_entered pattern before found)) (length pattern + 1)

pub reached_row-rising : (pattern text : List ℕ) (at : ℕ) → IsStrictlyIncreasing (reached_row pattern text at)
unfolding reached_row
reached_row-rising pattern text zero = row_after-rising pattern [] None
reached_row-rising pattern text (suc at) = row_after-rising pattern (reached_row pattern text at) (Some (get_or text at 0))

pub reached_row_more : (pattern text : List ℕ) (at : ℕ) → row_after pattern (reached_row pattern text at) (Some (get_or text at 0)) ≡ reached_row pattern text (at + 1)
unfolding reached_row
reached_row_more pattern text at = let one : at + 1 ≡ suc at = omega arith in rw one refl

pub reached_row_first : (pattern text : List ℕ) → row_after pattern [] None ≡ reached_row pattern text 0
unfolding reached_row
reached_row_first pattern text = refl

pub reached_rows_first : (pattern text : List ℕ) → reached_rows pattern text 0 ≡ reached_row pattern text 0 ∷ []
unfolding reached_rows
reached_rows_first pattern text = refl

pub reached_rows_more : (pattern text : List ℕ) (n : ℕ) → reached_rows pattern text (n + 1) ≡ reached_rows pattern text n ++ reached_row pattern text (n + 1) ∷ []
unfolding reached_rows
reached_rows_more pattern text n = let one : n + 1 ≡ suc n = omega arith in rw one refl

pub length-reached_rows : (pattern text : List ℕ) (n : ℕ) → length (reached_rows pattern text n) ≡ n + 1
unfolding reached_rows
length-reached_rows pattern text zero = refl
length-reached_rows pattern text (suc n) = length_push (reached_rows pattern text n) (reached_row pattern text (suc n)) ∙ let before = length-reached_rows pattern text n in omega arith

pub row_at-reached_rows : (pattern text : List ℕ) (n at : ℕ) → at ≤ n → row_at (reached_rows pattern text n) at ≡ reached_row pattern text at
unfolding reached_rows
row_at-reached_rows pattern text zero at h = let same : at ≡ 0 = omega arith in rw same refl
row_at-reached_rows pattern text (suc n) at h =
    let size = length-reached_rows pattern text n in
    elim (cases_lt at (n + 1)) [
      | inl before ↦
          let inside : at < length (reached_rows pattern text n) = omega arith in
          get_or_append_left (reached_rows pattern text n) (reached_row pattern text (suc n) ∷ []) [] at inside ∙ row_at-reached_rows pattern text n at (omega arith)
      | inr past ↦
          let same : at ≡ suc n = omega arith in
          let last : length (reached_rows pattern text n) ≡ suc n = omega arith in
          rw same (get_or_push (reached_rows pattern text n) (reached_row pattern text (suc n)) [] (suc n) last)
    ]

-- the steps of the code that makes the rows
pub rows_start : (pattern text row : List ℕ) (before rows : List (List ℕ)) → before ≡ [] → row ≡ row_after pattern [] None → rows ≡ before ++ row ∷ [] → rows ≡ reached_rows pattern text 0
rows_start pattern text row before rows none made is = is ∙ rw (none, made, reached_row_first pattern text) (sym (reached_rows_first pattern text))

rows_row : (pattern text row : List ℕ) (rows : List (List ℕ)) (at : ℕ) → rows ≡ reached_rows pattern text at → row ≡ row_at rows at → row ≡ reached_row pattern text at
rows_row pattern text row rows at are is = is ∙ rw are (row_at-reached_rows pattern text at at (omega arith))

pub rows_rising : (pattern text row : List ℕ) (rows : List (List ℕ)) (at : ℕ) → rows ≡ reached_rows pattern text at → row ≡ row_at rows at → IsStrictlyIncreasing row
rows_rising pattern text row rows at are is = rw (rows_row pattern text row rows at are is) (reached_row-rising pattern text at)

pub rows_next : (pattern text row next : List ℕ) (rows longer : List (List ℕ)) (at : ℕ) → rows ≡ reached_rows pattern text at → row ≡ row_at rows at
    → next ≡ row_after pattern row (Some (get_or text at 0)) → longer ≡ rows ++ next ∷ [] → longer ≡ reached_rows pattern text (at + 1)
rows_next pattern text row next rows longer at are is made pushed =
    let here : row ≡ reached_row pattern text at = rows_row pattern text row rows at are is in
    let there : next ≡ reached_row pattern text (at + 1) = rw here at made ∙ reached_row_more pattern text at in
    pushed ∙ rw (are, there) (sym (reached_rows_more pattern text at))

-- whether a place is entered before a character, and whether it is reached there
pub entered_at : List ℕ → List ℕ → ℕ → ℕ → Bool
entered_at pattern text zero place = is_entered pattern [] None place
entered_at pattern text (suc at) place = is_entered pattern (reached_row pattern text at) (Some (get_or text at 0)) place

reached_row-is : (pattern text : List ℕ) (at : ℕ) → reached_row pattern text at ≡ places_of (is_reached pattern (entered_at pattern text at)) (length pattern + 1)
unfolding reached_row row_after entered_at
reached_row-is pattern text zero = refl
reached_row-is pattern text (suc at) = refl

-- a place of a row is reached, and the other way round
row_tells : (pattern text : List ℕ) (at place : ℕ) → Contains (reached_row pattern text at) place → IsPlaceOf (is_reached pattern (entered_at pattern text at)) (length pattern + 1) place
row_tells pattern text at place has =
    places_of-tells (is_reached pattern (entered_at pattern text at)) (length pattern + 1) place (rw (reached_row-is pattern text at) at has)

row_has : (pattern text : List ℕ) (at place : ℕ) → place ≤ length pattern → is_reached pattern (entered_at pattern text at) place ≡ true → Contains (reached_row pattern text at) place
row_has pattern text at place within passes =
    rw (reached_row-is pattern text at) (places_of-has (is_reached pattern (entered_at pattern text at)) (length pattern + 1) place (omega arith) passes)

entered_reached : (pattern : List ℕ) (entered : ℕ → Bool) (place : ℕ) → entered place ≡ true → is_reached pattern entered place ≡ true
entered_reached pattern entered place passes =
    reached_is pattern entered place ∙ or_left (entered place) (is_after_star pattern entered place) passes

-- A match from a reached place is a match from an entered one.
climbed : (pattern text : List ℕ) (at : ℕ) (entered : ℕ → Bool) (whole : Bool)
    → ((p : ℕ) → p ≤ length pattern → entered p ≡ true → rest_matches pattern text p at ≡ true → whole ≡ true)
    → (p : ℕ) → p ≤ length pattern → is_reached pattern entered p ≡ true → rest_matches pattern text p at ≡ true → whole ≡ true
climbed pattern text at entered whole gives zero within reached passes = gives zero within reached passes
climbed pattern text at entered whole gives (suc p) within reached passes =
    elim (or_cases (entered (suc p)) (is_reached pattern entered p && star_at pattern p) reached) [
      | inl here ↦ gives (suc p) within here passes
      | inr climbs ↦
          let both = and_parts (is_reached pattern entered p) (star_at pattern p) climbs in
          let star = IsStarAt-from pattern p both.1 in
          let one : suc p ≡ p + 1 = omega arith in
          let onward : rest_matches pattern text (p + 1) at ≡ true = rw one at passes in
          climbed pattern text at entered whole gives p (omega arith) both.0
          (rest_any pattern text p at star ∙ any_suffix-here (is_match (drop (p + 1) pattern)) (drop at text) onward)
    ]

has_in : (row : List ℕ) (place : ℕ) → has_place row place ≡ true → Contains row place
has_in row place passes = (has_place-Decides row place).0 passes

in_has : (row : List ℕ) (place : ℕ) → Contains row place → has_place row place ≡ true
in_has row place has = (has_place-Decides row place).1 has

-- A match from a reached place is a match of the whole.
pub reached_match : (pattern text : List ℕ) (at : ℕ) → at ≤ length text → (p : ℕ) → p ≤ length pattern
    → is_reached pattern (entered_at pattern text at) p ≡ true → rest_matches pattern text p at ≡ true → is_match pattern text ≡ true
unfolding entered_at
reached_match pattern text zero h p within reached passes =
    climbed pattern text 0 (entered_at pattern text 0) (is_match pattern text)
    (λ q q_within entered matches. let start : q ≡ 0 = eqb-true q 0 entered in rw start at matches)
    p within reached passes
reached_match pattern text (suc at) h p within reached passes =
    let more : at < length text = omega arith in
    let x : ℕ = get_or text at 0 in
    let row : List ℕ = reached_row pattern text at in
    climbed pattern text (suc at) (entered_at pattern text (suc at)) (is_match pattern text)
    (λ q q_within entered matches. elim (or_cases (star_at pattern q && has_place row q) (ltb 0 q && (stands_at pattern (q - 1) x && has_place row (q - 1))) entered) [
      | inl stayed ↦
          let both = and_parts (star_at pattern q) (has_place row q) stayed in
          let star = IsStarAt-from pattern q both.0 in
          let told = row_tells pattern text at q (has_in row q both.1) in
          let one : suc at ≡ at + 1 = omega arith in
          let onward : rest_matches pattern text q (at + 1) ≡ true = rw one at matches in
          reached_match pattern text at (omega arith) q q_within told.passes
          (rest_any_more pattern text q at star more ∙ or_right (rest_matches pattern text (q + 1) at) (rest_matches pattern text q (at + 1)) onward)
      | inr stepped ↦
          let both = and_parts (ltb 0 q) (stands_at pattern (q - 1) x && has_place row (q - 1)) stepped in
          let inner = and_parts (stands_at pattern (q - 1) x) (has_place row (q - 1)) both.1 in
          let positive : 0 < q = ltb-true 0 q both.0 in
          let stands = StandsAt-from pattern (q - 1) x inner.0 in
          let told = row_tells pattern text at (q - 1) (has_in row (q - 1) inner.1) in
          let one : suc at ≡ at + 1 = omega arith in
          let back : q ≡ q - 1 + 1 = omega arith in
          let onward : rest_matches pattern text (q - 1 + 1) (at + 1) ≡ true = rw (← back) (rw one at matches) in
          reached_match pattern text at (omega arith) (q - 1) (omega arith) told.passes
          (rest_one pattern text (q - 1) at stands.within stands.one more ∙ and_from (stands_for (get_or pattern (q - 1) 0) x) (rest_matches pattern text (q - 1 + 1) (at + 1)) stands.stands onward)
    ])
    p within reached passes

-- a `*` that is reached, and what it leads to
reached_next : (pattern : List ℕ) (entered : ℕ → Bool) (place : ℕ) → is_reached pattern entered place ≡ true → star_at pattern place ≡ true → is_reached pattern entered (place + 1) ≡ true
reached_next pattern entered place reached star =
    reached_is pattern entered (place + 1)
    ∙ or_right (entered (place + 1)) (is_after_star pattern entered (place + 1))
    (after_star_more pattern entered place ∙ and_from (is_reached pattern entered place) (star_at pattern place) reached star)

entered_more : (pattern text : List ℕ) (at place : ℕ) → is_entered_by pattern (reached_row pattern text at) (get_or text at 0) place ≡ true → entered_at pattern text (at + 1) place ≡ true
unfolding entered_at
entered_more pattern text at place entered = let one : at + 1 ≡ suc at = omega arith in rw one entered

stayed_entered : (pattern row : List ℕ) (x place : ℕ) → IsStarAt pattern place → Contains row place → is_entered_by pattern row x place ≡ true
stayed_entered pattern row x place star has =
    or_left (star_at pattern place && has_place row place) (ltb 0 place && (stands_at pattern (place - 1) x && has_place row (place - 1)))
    (and_from (star_at pattern place) (has_place row place) (star_at-from pattern place star) (in_has row place has))

stepped_entered : (pattern row : List ℕ) (x place : ℕ) → StandsAt pattern place x → Contains row place → is_entered_by pattern row x (place + 1) ≡ true
stepped_entered pattern row x place stands has =
    let back : place + 1 - 1 ≡ place = omega arith in
    or_right (star_at pattern (place + 1) && has_place row (place + 1)) (ltb 0 (place + 1) && (stands_at pattern (place + 1 - 1) x && has_place row (place + 1 - 1)))
    (and_from (ltb 0 (place + 1)) (stands_at pattern (place + 1 - 1) x && has_place row (place + 1 - 1)) (lt-ltb 0 (place + 1) (omega arith))
    (rw back (and_from (stands_at pattern place x) (has_place row place) (stands_at-from pattern place x stands) (in_has row place has))))

entered_has : (pattern text : List ℕ) (at place : ℕ) → place ≤ length pattern → is_entered_by pattern (reached_row pattern text at) (get_or text at 0) place ≡ true → Contains (reached_row pattern text (at + 1)) place
entered_has pattern text at place within entered =
    row_has pattern text (at + 1) place within (entered_reached pattern (entered_at pattern text (at + 1)) place (entered_more pattern text at place entered))

-- a character at a place of the text
at_some : (text : List ℕ) (at : ℕ) → is_some (slice_get text at) ≡ true → at < length text
at_some text at some =
    elim (cases_lt at (length text)) [
      | inl more ↦ more
      | inr past ↦ absurd (true≢false (sym some ∙ rw (slice_get_past text at past) refl))
    ]

if_some : (text : List ℕ) (at : ℕ) (P : ℕ → Type 0) → (at < length text → P (get_or text at 0)) → IfSome (slice_get text at) P
if_some text at P gives =
    elim (cases_lt at (length text)) [
      | inl more ↦ rw (slice_get-get_or text at 0 more) (gives more)
      | inr past ↦ rw (slice_get_past text at past) tt
    ]

-- the steps from a reached place
reached_stays : (pattern text next : List ℕ) (at place : ℕ) → (at < length text → next ≡ reached_row pattern text (at + 1)) → Contains (reached_row pattern text at) place
    → StepsStay pattern (slice_get text at) (reached_row pattern text at) next place
reached_stays pattern text next at place follows has =
    let told = row_tells pattern text at place has in
    record {
      empty = λ star.
          row_has pattern text at (place + 1) (let within : place < length pattern = star.within in omega arith)
          (reached_next pattern (entered_at pattern text at) place told.passes (star_at-from pattern place star));
      longer = λ star some.
          let more = at_some text at some in
          let within : place < length pattern = star.within in
          rw (follows more) (entered_has pattern text at place (omega arith) (stayed_entered pattern (reached_row pattern text at) (get_or text at 0) place star has));
      one = if_some text at (λ x. StandsAt pattern place x → Contains next (place + 1)) (λ more stands.
          let within : place < length pattern = stands.within in
          rw (follows more) (entered_has pattern text at (place + 1) (omega arith) (stepped_entered pattern (reached_row pattern text at) (get_or text at 0) place stands has)));
    }

begins_reached : (pattern text : List ℕ) → is_reached pattern (entered_at pattern text 0) 0 ≡ true
unfolding entered_at
begins_reached pattern text = refl

-- Where the text does not match, the reached rows shut it out.
pub ShutsOut-reached : (pattern text : List ℕ) → is_match pattern text ≡ false → ShutsOut pattern text (reached_rows pattern text (length text))
ShutsOut-reached pattern text no_match =
    let n : ℕ = length text in
    let rows = reached_rows pattern text n in
    record {
      count = length-reached_rows pattern text n;
      rising = All-from_get_or IsStrictlyIncreasing rows [] (λ i within.
          let inside : i ≤ n = let size = length-reached_rows pattern text n in omega arith in
          rw (row_at-reached_rows pattern text n i inside) (reached_row-rising pattern text i));
      begins = rw (row_at-reached_rows pattern text n 0 (omega arith)) (row_has pattern text 0 0 (omega arith) (begins_reached pattern text));
      closed = λ at h.
          stays_to pattern text rows at (slice_get text at) (reached_row pattern text at) (row_at rows (at + 1)) refl (sym (row_at-reached_rows pattern text n at h)) refl
          (λ k d within.
          reached_stays pattern text (row_at rows (at + 1)) at (get_or (reached_row pattern text at) k d)
          (λ more. row_at-reached_rows pattern text n (at + 1) (omega arith))
          (Contains-get_or (reached_row pattern text at) k d within));
      ends = λ has.
          let told = row_tells pattern text n (length pattern) (rw (row_at-reached_rows pattern text n n (omega arith)) at has) in
          let none : drop n text ≡ [] = drop_all {X = ℕ} n text (omega arith) in
          let ended : rest_matches pattern text (length pattern) n ≡ true = rest_end pattern text (length pattern) n (omega arith) ∙ rw none refl in
          true≢false (sym (reached_match pattern text n (omega arith) (length pattern) (omega arith) told.passes ended) ∙ no_match);
    }
