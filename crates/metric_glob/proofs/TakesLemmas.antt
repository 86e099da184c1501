-- The walk with what each `*` takes.
use Rattle.std.proofs.Common.{◌≡◌, ℕ, ◌+◌, ◌-◌, ◌<◌, ◌≤◌, Bool, true, false, List, [], ◌∷◌, ◌++◌, length, get_or, drop, eqb, refl, sym, ap, ◌∙◌, arith, Some, append_assoc, length-drop}
use Rattle.std.proofs.lemmas.List.{drop_more, drop_all, drop-drop, append-nil}
use Rattle.std.proofs.lemmas.Bool.{eqb-true}
use Rattle.metric_glob.specs.Matching.{is_match, IsStarAt, StandsAt}
use Rattle.metric_glob.specs.Reasons.{Spells, is_spelled}
use Rattle.metric_glob.specs.Walk.{IsSince, IsWalk, Moves, TakesNothing, TakesNothingSoFar, CompletesLater, AreTakesSoFar, settled, noted}
use Rattle.metric_glob.specs.declared.walk.Star.{Star}
use Rattle.metric_glob.specs.declared.walk.Walk.{Walk}
use Rattle.metric_glob.specs.declared.walk.Step.{Step}
use Rattle.metric_glob.specs.declared.walk.Step.TheVariants.{Opened, Took, Again}
use Rattle.metric_glob.proofs.SuffixLemmas.{stars_more, stars_end}
use Rattle.metric_glob.proofs.SpellLemmas.{spelled_ends, any_spelled, one_spelled, is_spelled-Decides}
use Rattle.metric_glob.proofs.WalkLemmas.{IsWalk-ended}

-- a `*` takes the characters from one place of the text to another
pub star_spelled : (pattern text : List ℕ) (place at k : ℕ) (others : List ℕ) → IsStarAt pattern place → at ≤ k → k ≤ length text
    → is_spelled (drop (place + 1) pattern) others (drop k text) ≡ true
    → is_spelled (drop place pattern) ((k - at) ∷ others) (drop at text) ≡ true
star_spelled pattern text place at k others star low high passes =
    let rest : k - at ≤ length (drop at text) = omega (arith, length-drop at text) in
    let there : at + (k - at) ≡ k = omega arith in
    rw (drop_more pattern place 0 star.within)
    (any_spelled (get_or pattern place 0) (k - at) (drop (place + 1) pattern) others (drop at text) star.any rest
    ∙ rw (drop-drop (k - at) at text, there) passes)

-- a character takes one
stand_spelled : (pattern text : List ℕ) (place at : ℕ) (others : List ℕ) → StandsAt pattern place (get_or text at 0) → at < length text
    → is_spelled (drop (place + 1) pattern) others (drop (at + 1) text) ≡ true
    → is_spelled (drop place pattern) others (drop at text) ≡ true
stand_spelled pattern text place at others stands h passes =
    rw (drop_more pattern place 0 stands.within, drop_more text at 0 h)
    (one_spelled (get_or pattern place 0) (get_or text at 0) (drop (place + 1) pattern) others (drop (at + 1) text) stands.one stands.stands ∙ passes)

takes_opened : (pattern text : List ℕ) (walk : Walk) (takes : List ℕ) → walk.at < length text → IsStarAt pattern walk.place → AreTakesSoFar pattern text walk takes
    → AreTakesSoFar pattern text (record { place = walk.place + 1; at = walk.at; star = Some (record { after = walk.place + 1; start = walk.at; end = walk.at }) }) (takes ++ settled walk.star)
takes_opened pattern text walk takes h star sofar =
    record {
      now = λ others passes.
          rw (append_assoc takes (settled walk.star) ((walk.at - walk.at) ∷ others))
          (sofar.now ((walk.at - walk.at) ∷ others) (star_spelled pattern text walk.place walk.at walk.at others star (omega arith) (omega arith) passes));
      later = λ k others more within passes.
          rw (append_assoc takes (settled walk.star) ((k - walk.at) ∷ others))
          (sofar.now ((k - walk.at) ∷ others) (star_spelled pattern text walk.place walk.at k others star (omega arith) within passes));
    }

takes_took : (pattern text : List ℕ) (walk : Walk) (takes : List ℕ) → walk.at < length text → StandsAt pattern walk.place (get_or text walk.at 0) → AreTakesSoFar pattern text walk takes
    → AreTakesSoFar pattern text (record { place = walk.place + 1; at = walk.at + 1; star = walk.star }) takes
takes_took pattern text walk takes h stands sofar =
    record {
      now = λ others passes. sofar.now others (stand_spelled pattern text walk.place walk.at others stands h passes);
      later = sofar.later;
    }

takes_again : (pattern text : List ℕ) (walk : Walk) (star : Star) (takes : List ℕ) → walk.at < length text → IsWalk pattern text walk → walk.star ≡ Some star → AreTakesSoFar pattern text walk takes
    → AreTakesSoFar pattern text (record { place = star.after; at = star.end + 1; star = Some (record { after = star.after; start = star.start; end = star.end + 1 }) }) takes
takes_again pattern text walk star takes h kept is sofar =
    let since : IsSince pattern walk.place walk.at star = rw is at kept.since in
    let ends : star.end ≤ walk.at = since.ends in
    let later : CompletesLater pattern text (Some star) takes = rw is at sofar.later in
    record {
      now = λ others passes. later (star.end + 1) others (omega arith) (omega arith) passes;
      later = λ k others more within passes. later k others (omega arith) within passes;
    }

-- Each step keeps the takes, with what it settles.
pub AreTakesSoFar-moves : (pattern text : List ℕ) (old new : Walk) (step : Step) (takes : List ℕ) → IsWalk pattern text old → old.at < length text
    → Moves pattern text old new (Some step) → AreTakesSoFar pattern text old takes → AreTakesSoFar pattern text new (takes ++ noted step old.star)
AreTakesSoFar-moves pattern text old new Opened takes kept h moves sofar = rw (moves.1) (takes_opened pattern text old takes h moves.0 sofar)
AreTakesSoFar-moves pattern text old new Took takes kept h moves sofar = rw (moves.1, append-nil takes) (takes_took pattern text old takes h moves.0 sofar)
AreTakesSoFar-moves pattern text old new Again takes kept h moves sofar =
    let star = moves.1.0 in
    let is : old.star ≡ Some star = moves.1.1 in
    let after : new ≡ record { place = star.after; at = star.end + 1; star = Some (record { after = star.after; start = star.start; end = star.end + 1 }) } = moves.1.2 in
    rw (after, append-nil takes) (takes_again pattern text old star takes h kept is sofar)

-- At the end of the text each `*` that is left takes nothing.
pub takes_ended : (pattern text : List ℕ) (walk : Walk) (takes settled_takes all : List ℕ) → IsWalk pattern text walk → length text ≤ walk.at → AreTakesSoFar pattern text walk takes
    → settled_takes ≡ takes ++ settled walk.star → TakesNothing pattern walk.place settled_takes all true → Spells pattern all text
takes_ended pattern text walk takes settled_takes all kept h sofar last nothing =
    let none : drop walk.at text ≡ [] = drop_all {X = ℕ} walk.at text h in
    let spelled : is_spelled (drop walk.place pattern) nothing.zeros (drop walk.at text) ≡ true = rw none (nothing.spelled refl) in
    let whole = sofar.now nothing.zeros spelled in
    let same : all ≡ takes ++ (settled walk.star ++ nothing.zeros) = nothing.added ∙ (ap (λ ts. ts ++ nothing.zeros) last ∙ append_assoc takes (settled walk.star) nothing.zeros) in
    rw same ((is_spelled-Decides pattern (takes ++ (settled walk.star ++ nothing.zeros)) text).0 whole)

pub no_takes_ended : (pattern text : List ℕ) (walk : Walk) (old all : List ℕ) → IsWalk pattern text walk → length text ≤ walk.at
    → TakesNothing pattern walk.place old all false → is_match pattern text ≡ false
no_takes_ended pattern text walk old all kept h nothing = IsWalk-ended pattern text walk kept h ∙ sym nothing.ends

-- one `*` more that takes nothing
pub nothing_starts : (pattern takes : List ℕ) (start : ℕ) → start ≤ length pattern → TakesNothingSoFar pattern start start takes takes
nothing_starts pattern takes start h =
    record { in_pattern = h; zeros = []; added = sym (append-nil takes); same = refl; spelled = λ others passes. passes }

pub nothing_more : (pattern old new longer : List ℕ) (start place : ℕ) → TakesNothingSoFar pattern start place old new → IsStarAt pattern place → longer ≡ new ++ 0 ∷ []
    → TakesNothingSoFar pattern start (place + 1) old longer
nothing_more pattern old new longer start place sofar star more =
    let within : place < length pattern = star.within in
    record {
      in_pattern = omega arith;
      zeros = sofar.zeros ++ 0 ∷ [];
      added = more ∙ (ap (λ ts. ts ++ 0 ∷ []) sofar.added ∙ append_assoc old sofar.zeros (0 ∷ []));
      same = stars_more pattern place star ∙ sofar.same;
      spelled = λ others passes.
          rw (append_assoc sofar.zeros (0 ∷ []) others)
          (sofar.spelled (0 ∷ others) (star_spelled pattern [] place 0 0 others star (omega arith) (omega arith) passes));
    }

pub nothing_ended : (pattern old new : List ℕ) (start place : ℕ) (ended : Bool) → TakesNothingSoFar pattern start place old new → (IsStarAt pattern place → ⊥)
    → ended ≡ eqb place (length pattern) → TakesNothing pattern start old new ended
nothing_ended pattern old new start place ended sofar no_star is =
    record {
      zeros = sofar.zeros;
      added = sofar.added;
      ends = is ∙ (stars_end pattern place sofar.in_pattern no_star ∙ sofar.same);
      spelled = λ passes.
          let past : place ≡ length pattern = eqb-true place (length pattern) (sym is ∙ passes) in
          let nothing : is_spelled (drop place pattern) [] [] ≡ true = spelled_ends pattern [] [] place (omega arith) in
          rw append-nil at (sofar.spelled [] nothing);
    }
