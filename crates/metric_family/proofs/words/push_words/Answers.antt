-- one word more
use Rattle.std.proofs.Common.{◌≡◌, ℕ, ◌∷◌, List, [], filter, length, sym, ap, ◌∙◌, arith}
use Rattle.std.specs.List.{before_first}
use Rattle.std.proofs.lemmas.Bool.Decides.{nat_tests}
use Rattle.metric_family.specs.Words.{is_between, is_some, with_parts, without, words}
use Rattle.metric_family.proofs.WordLaws.{empty_is, words_none, words_turn}
use Rattle.metric_family.proofs.words.push_words.Goals as goal

pub rest-preserved : goal.rest-preserved
rest-preserved c =
    let out = c.rest.out.items in
    let other = c.args.other_than.now in
    let rest = c.rest.rest.now in
    ap (λ (text : List ℕ). with_parts text (without other (words c.split_word.result.1.now))) c.in_ok-push_other.ensures
    ∙ ap (λ (word : List ℕ). with_parts (with_parts out (without other (filter is_some (word ∷ [])))) (without other (words c.split_word.result.1.now))) c.split_word.ensures.word
    ∙ ap (λ (others : List ℕ). with_parts (with_parts out (without other (filter is_some (before_first is_between rest ∷ [])))) (without other (words others))) c.split_word.ensures.others
    ∙ sym (words_turn out other rest) ∙ c.rest.invariant

pub returns : goal.returns
returns c =
    let out = c.rest.out.items in
    let other = c.args.other_than.now in
    let rest = c.rest.rest.now in
    let short : length rest ≡ 0 = (let test = c.rest-test.false in let is = c.is_empty.ensures in grind (arith, nat_tests)) in
    let none = empty_is rest short in
    sym (ap (λ (text : List ℕ). with_parts out (without other (words text))) none ∙ ap (λ (parts : List (List ℕ)). with_parts out (without other parts)) words_none) ∙ c.rest.invariant
