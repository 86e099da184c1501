-- Rows of pattern places: what a search in a row finds, and what rows that are closed under steps show.
use Rattle.std.proofs.Common.{◌≡◌, ◌↔◌, ℕ, zero, suc, ◌+◌, ◌-◌, ◌<◌, ◌≤◌, Bool, true, false, List, length, get_or, drop, eqb, refl, sym, ◌∙◌, inl, inr, arith, Option, Result, Ok, Err}
use Rattle.std.specs.Result.{is_ok}
use Rattle.std.specs.Bool.{Decides}
use Rattle.std.proofs.lemmas.Map.Views.{Contains-from_any, list_any-from_Contains}
use Rattle.std.proofs.lemmas.Cmp.{nat_eq_equiv}
use Rattle.metric_glob.specs.Reach.{has_place}
use Rattle.std.specs.Option.{is_some}
use Rattle.std.specs.List.{Contains, All, slice_get}
use Rattle.std.specs.List.Sorted.{IsStrictlyIncreasing, IsBinarySearchResult}
use Rattle.std.specs.Ordering.{nat_cmp}
use Rattle.std.proofs.lemmas.Bool.{or_cases, and_parts, true≢false, cases_lt, eqb-true}
use Rattle.std.proofs.lemmas.List.{get_or_default, drop_more}
use Rattle.std.proofs.lemmas.List.Elements.{All-contains}
use Rattle.std.proofs.lemmas.List.Kept.{AllPairs-from_increasing}
use Rattle.std.proofs.lemmas.List.Sorted.{searched}
use Rattle.std.proofs.lemmas.Option.{slice_get-get_or}
use Rattle.metric_glob.specs.Matching.{takes_any, stands_for, is_empty, IsStarAt, StandsAt, Matches}
use Rattle.metric_glob.specs.MatchingLaws.{test-from_Matches}
use Rattle.metric_glob.specs.Walk.{rest_matches}
use Rattle.metric_glob.specs.declared.reason.Reason.{Reason}
use Rattle.metric_glob.specs.declared.reason.Reason.TheVariants.{Takes, Rows}
use Rattle.metric_glob.proofs.SpellLemmas.{is_spelled-Decides, Matches-from_Spells}
use Rattle.metric_glob.specs.Reasons.{is_spelled, Confirms, Shows, row_at, StepsStay, RowStays, AreClosed, ShutsOut}
use Rattle.metric_glob.proofs.SuffixLemmas.{rest_any_more, rest_any_end, rest_one, rest_one_end, rest_end}

rises : (row : List ℕ) → IsStrictlyIncreasing row → (i j : ℕ) → i ≤ j → j < length row → get_or row i 0 ≤ get_or row j 0
rises row rising i j le within =
    elim (cases_lt i j) [
      | inl lt ↦ let below : get_or row i 0 < get_or row j 0 = AllPairs-from_increasing row rising i j 0 lt within in omega arith
      | inr ge ↦ let same : i ≡ j = omega arith in rw same (omega arith)
    ]

-- What a binary search says is whether the row has the place.
pub found_in : (row : List ℕ) (place : ℕ) (found : Result ℕ ℕ) → IsStrictlyIncreasing row → IsBinarySearchResult (λ y. nat_cmp y place) row found
    → (is_ok found ≡ true) ↔ Contains row place
found_in row place (Ok i) rising position =
    let at = searched row place (Ok i) position (rises row rising) in
    (λ _. (i, at.0, get_or_default row i place 0 at.0 ∙ at.1), λ _. refl)
found_in row place (Err i) rising position =
    let at = searched row place (Err i) position (rises row rising) in (
      λ ok. absurd (true≢false (sym ok)),
      λ has.
          let here : get_or row has.0 0 ≡ place = get_or_default row has.0 0 place has.1 ∙ has.2 in
          elim (cases_lt has.0 i) [
            | inl lt ↦ let below = at.1 has.0 lt in absurd (omega arith)
            | inr ge ↦ let above = at.2 has.0 ge has.1 in absurd (omega arith)
          ],
    )

-- the test for a place in a row
pub has_place-Decides : (row : List ℕ) (place : ℕ) → Decides (has_place row place) (Contains row place)
has_place-Decides row place = (Contains-from_any {eq = eqb} eqb-true place row, list_any-from_Contains nat_eq_equiv place row)

-- the same of a row and the next that were read from the rows
pub stays_from : (pattern text : List ℕ) (rows : List (List ℕ)) (at : ℕ) (found : Option ℕ) (row next : List ℕ)
    → found ≡ slice_get text at → row ≡ row_at rows at → next ≡ row_at rows (at + 1) → RowStays pattern text rows at → All (StepsStay pattern found row next) row
stays_from pattern text rows at found row next f r n stay = rw (f, r, n) stay

pub stays_to : (pattern text : List ℕ) (rows : List (List ℕ)) (at : ℕ) (found : Option ℕ) (row next : List ℕ)
    → found ≡ slice_get text at → row ≡ row_at rows at → next ≡ row_at rows (at + 1) → All (StepsStay pattern found row next) row → RowStays pattern text rows at
stays_to pattern text rows at found row next f r n stay = rw (f, r, n) at stay

-- the steps from a place of a row, of rows that are closed
stays : (pattern text : List ℕ) (rows : List (List ℕ)) → AreClosed pattern text rows → (place at : ℕ) → at ≤ length text → Contains (row_at rows at) place
    → StepsStay pattern (slice_get text at) (row_at rows at) (row_at rows (at + 1)) place
stays pattern text rows closed place at h has =
    All-contains (StepsStay pattern (slice_get text at) (row_at rows at) (row_at rows (at + 1))) (row_at rows at) place (closed at h) has

at_end : (text : List ℕ) (at : ℕ) → at ≤ length text → is_empty (drop at text) ≡ true → at ≡ length text
at_end text at h empty =
    elim (cases_lt at (length text)) [
      | inl more ↦
          let split = drop_more text at 0 more in
          absurd (true≢false (sym (rw split at empty)))
      | inr past ↦ omega arith
    ]

-- A match from a place that a row has leads to the pattern's end in the last row.
leads : (pattern text : List ℕ) (rows : List (List ℕ)) → AreClosed pattern text rows → (fuel place at : ℕ) → place ≤ length pattern → at ≤ length text
    → (length pattern - place) + (length text - at) ≤ fuel
    → Contains (row_at rows at) place → rest_matches pattern text place at ≡ true
    → Contains (row_at rows (length text)) (length pattern)
leads pattern text rows closed zero place at p a h has passes =
    let place_is : place ≡ length pattern = omega arith in
    let at_is : at ≡ length text = omega arith in
    rw (← place_is, ← at_is) has
leads pattern text rows closed (suc fuel) place at p a h has passes =
    elim (cases_lt place (length pattern)) [
      | inl within ↦
          let step = stays pattern text rows closed place at a has in
          elim (takes_any (get_or pattern place 0)) as (λ b. takes_any (get_or pattern place 0) ≡ b → Contains (row_at rows (length text)) (length pattern)) [
            | true ↦ λ any.
                let star : IsStarAt pattern place = record { within = within; any = any } in
                elim (cases_lt at (length text)) [
                  | inl more ↦
                      elim (or_cases (rest_matches pattern text (place + 1) at) (rest_matches pattern text place (at + 1)) (sym (rest_any_more pattern text place at star more) ∙ passes)) [
                        | inl empty ↦ leads pattern text rows closed fuel (place + 1) at (omega arith) a (omega arith) (step.empty star) empty
                        | inr longer ↦
                            let some : is_some (slice_get text at) ≡ true = rw (slice_get-get_or text at 0 more) refl in
                            leads pattern text rows closed fuel place (at + 1) p (omega arith) (omega arith) (step.longer star some) longer
                      ]
                  | inr past ↦
                      leads pattern text rows closed fuel (place + 1) at (omega arith) a (omega arith) (step.empty star) (sym (rest_any_end pattern text place at star past) ∙ passes)
                ]
            | false ↦ λ one.
                elim (cases_lt at (length text)) [
                  | inl more ↦
                      let both = and_parts (stands_for (get_or pattern place 0) (get_or text at 0)) (rest_matches pattern text (place + 1) (at + 1)) (sym (rest_one pattern text place at within one more) ∙ passes) in
                      let stands : StandsAt pattern place (get_or text at 0) = record { within = within; one = one; stands = both.0 } in
                      let next = rw (slice_get-get_or text at 0 more) at step.one in
                      leads pattern text rows closed fuel (place + 1) (at + 1) (omega arith) (omega arith) (omega arith) (next stands) both.1
                  | inr past ↦ absurd (true≢false (sym passes ∙ rest_one_end pattern text place at within one past))
                ]
          ] refl
      | inr past ↦
          let place_is : place ≡ length pattern = omega arith in
          let at_is : at ≡ length text = at_end text at a (sym (rest_end pattern text place at past) ∙ passes) in
          rw (← place_is, ← at_is) has
    ]

-- Rows that shut a text out show that it does not match.
pub no_match-from_ShutsOut : (pattern text : List ℕ) (rows : List (List ℕ)) → ShutsOut pattern text rows → ¬ Matches pattern text
no_match-from_ShutsOut pattern text rows shut matches =
    shut.ends
    (leads pattern text rows shut.closed ((length pattern - 0) + (length text - 0)) 0 0 (omega arith) (omega arith) (omega arith) shut.begins
    (test-from_Matches pattern text matches))

-- what is tested of each kind of reason, and what it shows
pub takes_confirmed : (pattern text takes : List ℕ) (reason : Reason) (passes : Bool) → reason ≡ Takes takes → passes ≡ is_spelled pattern takes text
    → (passes ≡ true) ↔ Confirms pattern text reason
takes_confirmed pattern text takes reason passes is same = rw (is, same) (is_spelled-Decides pattern takes text)

pub takes_shown : (pattern text takes : List ℕ) (reason : Reason) (passes : Bool) → reason ≡ Takes takes → passes ≡ is_spelled pattern takes text
    → passes ≡ true → Shows pattern text reason
takes_shown pattern text takes reason passes is same confirmed =
    rw is (Matches-from_Spells pattern takes text ((is_spelled-Decides pattern takes text).0 (sym same ∙ confirmed)))

pub rows_shown : (pattern text : List ℕ) (rows : List (List ℕ)) (reason : Reason) → reason ≡ Rows rows → ShutsOut pattern text rows → Shows pattern text reason
rows_shown pattern text rows reason is shut = rw is (no_match-from_ShutsOut pattern text rows shut)
