-- one word more
use Rattle.std.proofs.Common.{◌≡◌, ℕ, ◌&&◌, ◌||◌, List, length, sym, ap, ◌∙◌, arith}
use Rattle.std.specs.List.{after_first}
use Rattle.std.specs.Str.{bytes_eq}
use Rattle.std.proofs.lemmas.Bool.Decides.{nat_tests}
use Rattle.metric_family.specs.Words.{is_among, is_between, is_some, words}
use Rattle.metric_family.proofs.WordLaws.{among_turn, empty_is, words_none}
use Rattle.metric_family.proofs.words.has_word.Goals as goal

pub returns-then-is_word : goal.returns-then-is_word
returns-then-is_word c =
    let rest = c.rest.rest.now in
    let part = c.args.part.now in
    let found = sym (ap (λ (word : List ℕ). is_some word && bytes_eq part word) c.split_word.ensures.word) ∙ sym c.is_word.ensures ∙ c.if-is_word.true in
    sym (sym c.rest.invariant ∙ among_turn rest part ∙ ap (λ b. b || is_among (words (after_first is_between rest)) part) found)

pub rest-preserved : goal.rest-preserved
rest-preserved c =
    let rest = c.rest.rest.now in
    let part = c.args.part.now in
    let lost = sym (ap (λ (word : List ℕ). is_some word && bytes_eq part word) c.split_word.ensures.word) ∙ sym c.is_word.ensures ∙ c.if-is_word.false in
    ap (λ (others : List ℕ). is_among (words others) part) c.split_word.ensures.others
    ∙ sym (among_turn rest part ∙ ap (λ b. b || is_among (words (after_first is_between rest)) part) lost) ∙ c.rest.invariant

pub returns : goal.returns
returns c =
    let rest = c.rest.rest.now in
    let part = c.args.part.now in
    let short : length rest ≡ 0 = (let test = c.rest-test.false in let is = c.is_empty.ensures in grind (arith, nat_tests)) in
    let none = empty_is rest short in
    sym (sym c.rest.invariant ∙ ap (λ (text : List ℕ). is_among (words text) part) none ∙ ap (λ (parts : List (List ℕ)). is_among parts part) words_none)
