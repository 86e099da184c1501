-- Where bytes are cut, and what a prefix or a suffix leaves.
use Rattle.std.proofs.Common.{subst, ◌≡◌, ◌≢◌, ◌<◌, ◌≤◌, ◌+◌, ◌-◌, ℕ, Bor, MatchOption, eqb, map, ◌++◌, inl, inr, append_assoc, Bool, true, false, not, cond, ltb, List, [], ◌∷◌, Option, Some, None, eq-eqb, length, take, drop, suc, refl, sym, ap, ◌∙◌, arith}
use Rattle.std.specs.Prelude.{unwrap_or}
use Rattle.std.specs.List.{position_or_len, position_from}
use Rattle.std.proofs.lemmas.Bool.Decides.{nat_tests}
use Rattle.std.proofs.lemmas.Iterator.Adapters.{position_from-zero}
use Rattle.std.proofs.lemmas.List.Sums.{prefix_len-le-length}
use Rattle.std.specs.Option.{option_map}
use Rattle.std.specs.Cmp.Lexicographic.{pointwise}
use Rattle.std.proofs.lemmas.Bool.Decides.{Decides-eqb, eqb_tells}
use Rattle.std.proofs.lemmas.Grind.{common_steps}
use Rattle.std.proofs.lemmas.List.{map_push}
use Rattle.std.proofs.lemmas.Slice.Eq.{strip_prefix_is, strip_suffix_is}
use Rattle.metric_text.specs.Lines.{is_feed, line_in, lines_of, without_return}
use Rattle.metric_text.proofs.LineLaws.{lines_of-first, length-line_in, line_in-open, line_in-ended}
use Rattle.metric_text.specs.Reading.{split_before, after_in}
use Rattle.metric_text.specs.ReadingLaws.{none_from, after_in-some}

cut_step : (test : Bool) (b : ℕ) (bytes : List ℕ) (front : List ℕ × List ℕ) (n : ℕ) → front.0 ≡ take n bytes → front.1 ≡ drop n bytes
    → ((cond {A = List ℕ × List ℕ} test ([], b ∷ bytes) (b ∷ front.0, front.1)).0 ≡ take (cond (not test) (1 + n) 0) (b ∷ bytes))
    × ((cond {A = List ℕ × List ℕ} test ([], b ∷ bytes) (b ∷ front.0, front.1)).1 ≡ drop (cond (not test) (1 + n) 0) (b ∷ bytes))
cut_step true b bytes front n before after = (refl, refl)
cut_step false b bytes front n before after =
    let more : 1 + n ≡ suc n = omega arith in
    rw more (ap (λ xs. b ∷ xs) before, after)

cut_first : (passes : ℕ → Bool) (bytes : List ℕ)
    → ((split_before passes bytes).0 ≡ take (position_or_len passes bytes) bytes) × ((split_before passes bytes).1 ≡ drop (position_or_len passes bytes) bytes)
cut_first passes [] = (refl, refl)
cut_first passes (b ∷ bytes) =
    let rest = cut_first passes bytes in
    cut_step (passes b) b bytes (split_before passes bytes) (position_or_len passes bytes) rest.0 rest.1

place_is : (test : Bool) (n len : ℕ) → ltb n len ≡ test → n ≤ len → unwrap_or (cond test (Some n) None) len ≡ n
place_is true n len e most = refl
place_is false n len e most = grind (arith, nat_tests)

-- the place of the first byte that passes, or the length, is where the bytes are cut
pub cut_at_place : (passes : ℕ → Bool) (bytes : List ℕ) (place : Option ℕ) → place ≡ position_from passes 0 bytes
    → ((split_before passes bytes).0 ≡ take (unwrap_or place (length bytes)) bytes) × ((split_before passes bytes).1 ≡ drop (unwrap_or place (length bytes)) bytes)
cut_at_place passes bytes place e =
    let most = prefix_len-le-length (λ b. not (passes b)) bytes in
    let found : unwrap_or place (length bytes) ≡ position_or_len passes bytes =
    ap (λ o. unwrap_or o (length bytes)) (e ∙ sym (position_from-zero passes bytes)) ∙ place_is (ltb (position_or_len passes bytes) (length bytes)) (position_or_len passes bytes) (length bytes) refl most in
    rw found (cut_first passes bytes)

pub after_in-text : (keyword rest : List ℕ) → after_in keyword (keyword ++ rest) ≡ Some rest
after_in-text [] rest = refl
after_in-text (c ∷ keyword) rest = rw (eq-eqb c c refl) (after_in-text keyword rest)

-- what a prefix leaves
prefix_none : (keyword bytes : List ℕ) → ((rest : List ℕ) → bytes ≢ keyword ++ rest) → after_in keyword bytes ≡ None
prefix_none keyword bytes never = none_from (after_in keyword bytes) (λ rest e. never rest (after_in-some keyword bytes rest e))

told_after : (keyword bytes : List ℕ) (found : Option (Bor (List ℕ))) → MatchOption found ((rest : List ℕ) → bytes ≢ keyword ++ rest) (λ x. bytes ≡ keyword ++ x.now)
    → option_map (λ x. x.now) found ≡ after_in keyword bytes
told_after keyword bytes None never = sym (prefix_none keyword bytes never)
told_after keyword bytes (Some x) is = sym (ap (after_in keyword) is ∙ after_in-text keyword x.now)

-- what `strip_prefix` found follows the keyword
pub keyword_told : (keyword prefix bytes : List ℕ) (found : Option (Bor (List ℕ))) → prefix ≡ keyword
    → MatchOption found (pointwise eqb (take (length prefix) bytes) prefix ≡ false) (λ x. (pointwise eqb (take (length prefix) bytes) prefix ≡ true) × (x.now ≡ drop (length prefix) bytes) × (length x.now + length prefix ≡ length bytes))
    → option_map (λ x. x.now) found ≡ after_in keyword bytes
keyword_told keyword prefix bytes found same cases = told_after prefix bytes found (strip_prefix_is Decides-eqb bytes prefix found cases) ∙ ap (λ k. after_in k bytes) same

return_at_end : (front : List ℕ) → without_return (front ++ 13 ∷ []) ≡ front
return_at_end [] = refl
return_at_end (b ∷ []) = refl
return_at_end (b ∷ c ∷ front) = ap (λ xs. b ∷ xs) (return_at_end (c ∷ front))

no_return : (line : List ℕ) → ((front : List ℕ) → line ≢ front ++ 13 ∷ []) → without_return line ≡ line
no_return [] never = refl
no_return (b ∷ []) never = elim (eqb_tells b 13) [ inl same ↦ absurd (never [] (ap (λ x. x ∷ []) same.1)) | inr other ↦ rw other.0 refl ]
no_return (b ∷ c ∷ line) never = ap (λ xs. b ∷ xs) (no_return (c ∷ line) (λ front e. never (b ∷ front) (ap (λ xs. b ∷ xs) e)))

without_return-told : (line : Bor (List ℕ)) (found : Option (Bor (List ℕ))) → MatchOption found ((front : List ℕ) → line.now ≢ front ++ 13 ∷ []) (λ x. line.now ≡ x.now ++ 13 ∷ [])
    → (unwrap_or found line).now ≡ without_return line.now
without_return-told line None never = sym (no_return line.now never)
without_return-told line (Some x) is = sym (ap without_return is ∙ return_at_end x.now)

-- what `strip_suffix` leaves of a line
pub without_return-strip_suffix : (line : Bor (List ℕ)) (suffix : List ℕ) (found : Option (Bor (List ℕ))) → suffix ≡ 13 ∷ []
    → MatchOption found (pointwise eqb (drop (length line.now - length suffix) line.now) suffix ≡ false) (λ x. (pointwise eqb (drop (length line.now - length suffix) line.now) suffix ≡ true) × (x.now ≡ take (length line.now - length suffix) line.now) × (length x.now + length suffix ≡ length line.now))
    → (unwrap_or found line).now ≡ without_return line.now
without_return-strip_suffix line suffix found same cases =
    let told = strip_suffix_is Decides-eqb line.now suffix found cases in
    without_return-told line found (subst (λ (xs : List ℕ). MatchOption found ((front : List ℕ) → line.now ≢ front ++ xs) (λ x. line.now ≡ x.now ++ xs)) same told)

-- one more line
pub lines_more : (done next : List (Bor (List ℕ))) (line : Bor (List ℕ)) (rest others all : List ℕ) → next ≡ done ++ line ∷ [] → 0 < length rest
    → line.now ≡ (line_in rest).0 → others ≡ (line_in rest).1 → map (λ x. x.now) done ++ lines_of rest ≡ lines_of all → map (λ x. x.now) next ++ lines_of others ≡ lines_of all
lines_more done next line [] others all added some first last before = absurd (omega (arith, some))
lines_more done next line (b ∷ bytes) others all added some first last before =
    rw (added, last, map_push (λ (x : Bor (List ℕ)). x.now) done line, append_assoc, first) (ap (λ xs. map (λ (x : Bor (List ℕ)). x.now) done ++ xs) (sym (lines_of-first b bytes)) ∙ before)

pub line_in-shorter : (rest others : List ℕ) → 0 < length rest → others ≡ (line_in rest).1 → length others < length rest
line_in-shorter [] others some last = absurd (omega (arith, some))
line_in-shorter (b ∷ bytes) others some last = let shorter = length-line_in b bytes in rw last (omega arith)

-- an input without a line feed, as it is cut
pub line_open : (bytes line end : List ℕ) → line ≡ (split_before is_feed bytes).0 → end ≡ (split_before is_feed bytes).1 → length end < 1
    → (line ≡ (line_in bytes).0) × (end ≡ (line_in bytes).1)
line_open bytes line [] front back none =
    let open_line = line_in-open bytes (sym back) in
    (front ∙ sym open_line.0, sym open_line.1)
line_open bytes line (b ∷ end) front back none = absurd (omega (arith, none))

take_rest : (feed : ℕ) (rest : List ℕ) → take (length (feed ∷ rest) - 1) rest ≡ rest
take_rest feed rest = grind (arith, common_steps)

-- a line that a line feed ends, as it is cut
pub line_ended : (bytes line end : List ℕ) → line ≡ (split_before is_feed bytes).0 → end ≡ (split_before is_feed bytes).1 → 1 ≤ length end
    → (without_return line ≡ (line_in bytes).0) × (take (length end - 1) (drop 1 end) ≡ (line_in bytes).1)
line_ended bytes line [] front back some = absurd (omega (arith, some))
line_ended bytes line (feed ∷ rest) front back some =
    let ended = line_in-ended bytes feed rest (sym back) in
    (ap without_return front ∙ sym ended.0, take_rest feed rest ∙ sym ended.1)
