-- Each step of the walk keeps what the walk knows.
use Rattle.std.proofs.Common.{◌≡◌, ◌||◌, ℕ, zero, suc, ◌+◌, ◌-◌, ◌*◌, ◌<◌, ◌≤◌, Bool, true, false, List, [], length, get_or, drop, refl, sym, ap, ◌∙◌, inl, inr, arith, Option, Some, None}
use Rattle.std.proofs.lemmas.Bool.{or_right, cases_lt}
use Rattle.std.proofs.lemmas.List.{drop_more, drop_all, drop-drop}
use Rattle.std.proofs.Math.Nat.{mul-le-mul_right}
use Rattle.metric_glob.specs.Matching.{takes_any, any_suffix, is_match, IsStarAt, StandsAt}
use Rattle.metric_glob.specs.Walk.{rest_matches, later_matches, IsSince, IsSinceStar, IsWalk, Moves, star_rank, work_left}
use Rattle.metric_glob.specs.declared.walk.Step.{Step}
use Rattle.metric_glob.specs.declared.walk.Step.TheVariants.{Opened, Took, Again}
use Rattle.metric_glob.specs.declared.walk.Star.{Star}
use Rattle.metric_glob.specs.declared.walk.Walk.{Walk}
use Rattle.metric_glob.proofs.SuffixLemmas.{any_suffix-like, any_suffix-twice, any_suffix-more, any_suffix-one, is_match-any_at, rest_any, rest_one}

-- n characters that stand for one take n from each suffix
shifted : (pattern text : List ℕ) (after n k : ℕ) → after + n ≤ length pattern
    → ((i : ℕ) → after ≤ i → i < after + n → takes_any (get_or pattern i 0) ≡ false)
    → any_suffix (is_match (drop after pattern)) (drop k text) ≡ true
    → any_suffix (is_match (drop (after + n) pattern)) (drop (k + n) text) ≡ true
shifted pattern text after zero k within ones passes =
    let a : after + 0 ≡ after = omega arith in
    let b : k + 0 ≡ k = omega arith in
    rw (a, b) passes
shifted pattern text after (suc n) k within ones passes =
    let before = shifted pattern text after n k (omega arith) (λ i low high. ones i low (omega arith)) passes in
    let here : after + n < length pattern = omega arith in
    let split = drop_more pattern (after + n) 0 here in
    let taken = any_suffix-one (get_or pattern (after + n) 0) (drop (after + n + 1) pattern) (drop (k + n) text) (ones (after + n) (omega arith) (omega arith)) (rw split at before) in
    let a : after + suc n ≡ after + n + 1 = omega arith in
    let b : k + suc n ≡ k + n + 1 = omega arith in
    rw (a, b) (rw (drop-drop 1 (k + n) text) at taken)

-- A longer piece for the last `*` would reach the pattern's place at a later place of the text.
later_here : (pattern text : List ℕ) (place at : ℕ) (star : Star) → place ≤ length pattern → IsSince pattern place at star
    → any_suffix (is_match (drop star.after pattern)) (drop (star.end + 1) text) ≡ true
    → any_suffix (is_match (drop place pattern)) (drop (at + 1) text) ≡ true
later_here pattern text place at star within since passes =
    let passed : star.after ≤ place = since.passed in
    let together : at + star.after ≡ place + star.end = since.together in
    let there = shifted pattern text star.after (place - star.after) (star.end + 1) (omega arith) (λ i low high. since.ones i low (omega arith)) passes in
    let a : star.after + (place - star.after) ≡ place = omega arith in
    let b : star.end + 1 + (place - star.after) ≡ at + 1 = omega arith in
    rw b at (rw a at there)

-- the same of any walk
later_from : (pattern text : List ℕ) (place at : ℕ) (star : Option Star) → place ≤ length pattern → IsSinceStar pattern place at star
    → later_matches pattern text star ≡ true → any_suffix (is_match (drop place pattern)) (drop (at + 1) text) ≡ true
later_from pattern text place at None within since passes = cc
later_from pattern text place at (Some star) within since passes = later_here pattern text place at star within since passes

or_nothing : (x : Bool) → x ≡ (x || false)
or_nothing true = refl
or_nothing false = refl

or_same : (x : Bool) → (x || x) ≡ x
or_same true = refl
or_same false = refl

-- what two tests give, the second of which gives the first
or_absorbed : (x y : Bool) → (y ≡ true → x ≡ true) → (x || y) ≡ x
or_absorbed true y gives = refl
or_absorbed false true gives = sym (gives refl)
or_absorbed false false gives = refl

-- At a `*` a longer piece for the one before it is not needed.
later_not_needed : (pattern text : List ℕ) (place at : ℕ) (star : Option Star) → IsStarAt pattern place → at < length text
    → IsSinceStar pattern place at star
    → later_matches pattern text star ≡ true → rest_matches pattern text place at ≡ true
later_not_needed pattern text place at star here h since passes =
    let within : place < length pattern = here.within in
    let later = later_from pattern text place at star (omega arith) since passes in
    let test = is_match (drop (place + 1) pattern) in
    let inner = any_suffix-like (is_match (drop place pattern)) (any_suffix test) (drop (at + 1) text) (λ s passed. sym (is_match-any_at pattern s place here) ∙ passed) later in
    let tail = any_suffix-twice test (drop (at + 1) text) inner in
    rest_any pattern text place at here ∙ (any_suffix-more test at text h ∙ or_right (test (drop at text)) (any_suffix test (drop (at + 1) text)) tail)

-- A `*` is met, and begins with an empty piece.
pub IsWalk-opened : (pattern text : List ℕ) (walk : Walk) → IsWalk pattern text walk → walk.at < length text → IsStarAt pattern walk.place
    → IsWalk pattern text (record { place = walk.place + 1; at = walk.at; star = Some (record { after = walk.place + 1; start = walk.at; end = walk.at }) })
IsWalk-opened pattern text walk kept h here =
    let place : ℕ = walk.place in
    let at : ℕ = walk.at in
    let within : place < length pattern = here.within in
    let test = is_match (drop (place + 1) pattern) in
    record {
      in_pattern = omega arith;
      in_text = kept.in_text;
      since = record { begins = omega arith; ends = omega arith; passed = omega arith; together = omega arith; ones = λ i low high. absurd (omega arith) };
      whole =
          kept.whole
          ∙ (or_absorbed (rest_matches pattern text place at) (later_matches pattern text walk.star) (later_not_needed pattern text place at walk.star here h kept.since)
          ∙ (rest_any pattern text place at here ∙ any_suffix-more test at text h));
    }

since_more : (pattern : List ℕ) (place at : ℕ) (star : Option Star) → takes_any (get_or pattern place 0) ≡ false
    → IsSinceStar pattern place at star → IsSinceStar pattern (place + 1) (at + 1) star
since_more pattern place at None one since = tt
since_more pattern place at (Some star) one since =
    record {
      begins = since.begins;
      ends = let ends : star.end ≤ at = since.ends in omega arith;
      passed = let passed : star.after ≤ place = since.passed in omega arith;
      together = let together : at + star.after ≡ place + star.end = since.together in omega arith;
      ones = λ i low high. grind (arith, since.ones i, one);
    }

-- A character of the pattern stands for the next one of the text.
pub IsWalk-took : (pattern text : List ℕ) (walk : Walk) → IsWalk pattern text walk → walk.at < length text
    → StandsAt pattern walk.place (get_or text walk.at 0)
    → IsWalk pattern text (record { place = walk.place + 1; at = walk.at + 1; star = walk.star })
IsWalk-took pattern text walk kept h here =
    let within : walk.place < length pattern = here.within in
    record {
      in_pattern = omega arith;
      in_text = omega arith;
      since = since_more pattern walk.place walk.at walk.star here.one kept.since;
      whole =
          kept.whole
          ∙ ap (λ b. b || later_matches pattern text walk.star)
          (rest_one pattern text walk.place walk.at within here.one h ∙ rw (here.stands));
    }

-- a longer piece, or one that is longer still
later_split : (test : List ℕ → Bool) (end : ℕ) (text : List ℕ) → end < length text
    → any_suffix test (drop (end + 1) text) ≡ (test (drop (end + 1) text) || any_suffix test (drop (end + 1 + 1) text))
later_split test end text h =
    elim (cases_lt (end + 1) (length text)) [
      | inl more ↦ any_suffix-more test (end + 1) text more
      | inr last ↦
          let a : drop (end + 1) text ≡ [] = drop_all {X = ℕ} (end + 1) text last in
          let b : drop (end + 1 + 1) text ≡ [] = drop_all {X = ℕ} (end + 1 + 1) text (omega arith) in
          rw (a, b) (sym (or_same (test [])))
    ]

-- The piece of the last `*` is made longer by one.
pub IsWalk-again : (pattern text : List ℕ) (walk : Walk) (star : Star) → IsWalk pattern text walk → walk.at < length text
    → walk.star ≡ Some star → rest_matches pattern text walk.place walk.at ≡ false
    → IsWalk pattern text (record { place = star.after; at = star.end + 1; star = Some (record { after = star.after; start = star.start; end = star.end + 1 }) })
IsWalk-again pattern text walk star kept h is dead =
    let since : IsSince pattern walk.place walk.at star = rw is at kept.since in
    let begins : star.start ≤ star.end = since.begins in
    let ends : star.end ≤ walk.at = since.ends in
    let passed : star.after ≤ walk.place = since.passed in
    let inside : walk.place ≤ length pattern = kept.in_pattern in
    let whole = rw (dead, is) at kept.whole in
    record {
      in_pattern = omega arith;
      in_text = omega arith;
      since = record { begins = omega arith; ends = omega arith; passed = omega arith; together = omega arith; ones = λ i low high. absurd (omega arith) };
      whole = whole ∙ later_split (is_match (drop star.after pattern)) star.end text (omega arith);
    }

-- At the end of the text what is left of the pattern decides.
pub IsWalk-ended : (pattern text : List ℕ) (walk : Walk) → IsWalk pattern text walk → length text ≤ walk.at
    → is_match pattern text ≡ is_match (drop walk.place pattern) []
IsWalk-ended pattern text walk kept h =
    let a : drop walk.at text ≡ [] = drop_all {X = ℕ} walk.at text h in
    let b : drop (walk.at + 1) text ≡ [] = drop_all {X = ℕ} (walk.at + 1) text (omega arith) in
    let later : later_matches pattern text walk.star ≡ true → rest_matches pattern text walk.place walk.at ≡ true = λ passes.
    let there = rw b at (later_from pattern text walk.place walk.at walk.star kept.in_pattern kept.since passes) in
    rw a there in
    let whole = kept.whole ∙ or_absorbed (rest_matches pattern text walk.place walk.at) (later_matches pattern text walk.star) later in
    rw a at whole

-- Each step keeps the walk.
pub IsWalk-moves : (pattern text : List ℕ) (old new : Walk) (step : Step) → IsWalk pattern text old → old.at < length text
    → Moves pattern text old new (Some step) → IsWalk pattern text new
IsWalk-moves pattern text old new Opened kept h moves = rw (moves.1) (IsWalk-opened pattern text old kept h moves.0)
IsWalk-moves pattern text old new Took kept h moves = rw (moves.1) (IsWalk-took pattern text old kept h moves.0)
IsWalk-moves pattern text old new Again kept h moves =
    let star = moves.1.0 in
    let is : old.star ≡ Some star = moves.1.1 in
    let after : new ≡ record { place = star.after; at = star.end + 1; star = Some (record { after = star.after; start = star.start; end = star.end + 1 }) } = moves.1.2 in
    rw after (IsWalk-again pattern text old star kept h is moves.0)

less_product : (rank rank' total base : ℕ) → rank < rank' → rank' ≤ total
    → (total - rank') * base + base ≤ (total - rank) * base
less_product rank rank' total base more within =
    let fewer : (total - rank') + 1 ≤ total - rank = omega arith in
    let times = mul-le-mul_right base fewer in
    omega (arith, times)

less_work : (rank rank' total rest rest' base : ℕ) → rank < rank' → rank' ≤ total → rest' ≤ base
    → (total - rank') * (base + 1) + rest' < (total - rank) * (base + 1) + rest
less_work rank rank' total rest rest' base more within short =
    let product = less_product rank rank' total (base + 1) more within in
    omega (arith, product)

rank_below : (pattern : List ℕ) (place at : ℕ) (star : Option Star) → IsSinceStar pattern place at star → star_rank star ≤ place + at
rank_below pattern place at None since = omega arith
rank_below pattern place at (Some star) since =
    let ends : star.end ≤ at = since.ends in
    let passed : star.after ≤ place = since.passed in
    omega arith

-- Each step makes the work that is left less.
pub work_left-moves : (pattern text : List ℕ) (old new : Walk) (step : Step) → IsWalk pattern text old → old.at < length text
    → Moves pattern text old new (Some step) → work_left pattern text new < work_left pattern text old
work_left-moves pattern text old new Opened kept h moves =
    let within : old.place < length pattern = moves.0.within in
    let below = rank_below pattern old.place old.at old.star kept.since in
    rw (moves.1) (less_work (star_rank old.star) (old.place + 1 + old.at) (length pattern + length text) (length pattern - old.place) (length pattern - (old.place + 1)) (length pattern) (omega arith) (omega arith) (omega arith))
work_left-moves pattern text old new Took kept h moves =
    let within : old.place < length pattern = moves.0.within in
    rw (moves.1) (omega arith)
work_left-moves pattern text old new Again kept h moves =
    let star = moves.1.0 in
    let is : old.star ≡ Some star = moves.1.1 in
    let since : IsSince pattern old.place old.at star = rw is at kept.since in
    let ends : star.end ≤ old.at = since.ends in
    let passed : star.after ≤ old.place = since.passed in
    let inside : old.place ≤ length pattern = kept.in_pattern in
    let after : new ≡ record { place = star.after; at = star.end + 1; star = Some (record { after = star.after; start = star.start; end = star.end + 1 }) } = moves.1.2 in
    rw (after, is) (less_work (star.after + star.end) (star.after + (star.end + 1)) (length pattern + length text) (length pattern - old.place) (length pattern - star.after) (length pattern) (omega arith) (omega arith) (omega arith))
