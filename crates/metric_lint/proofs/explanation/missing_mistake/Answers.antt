-- a key that is missing, or the range
use Rattle.std.proofs.Common.{w64, ℤ, ◌≡◌, ℕ, List, Some, None, find, map, not, sym, ap, subst, ◌∙◌}
use Rattle.std.proofs.lemmas.Int.{to_z-of_z}
use Rattle.metric_contents.specs.Attributes.{given_by}
use Rattle.metric_contents.specs.Encoding.{is_complete}
use Rattle.metric_contents.specs.declared.contents.Key.{Key}
use Rattle.metric_lint.specs.Explanations.{MissingKey, combination_mistake, missing_mistake}
use Rattle.metric_lint.proofs.Refusing.{found_first, found_later}
use Rattle.metric_lint.proofs.explanation.missing_mistake.Goals as goal

pub returns-in-Some : goal.returns-in-Some
unfolding missing_mistake
returns-in-Some c =
    let test = λ (key : Key). not (is_complete (map given_by c.args.attrs.now) key) in
    let instrument = c.args.instrument.now in
    let key = c.in-Some.key.now in
    ap (λ (name : List ℕ). Some (MissingKey name)) c.as_str.ensures
    ∙ found_first (λ k. MissingKey k.name) (find test instrument.keys) key (combination_mistake instrument c.args.is_combined c.args.value)
    (sym (subst (λ (keys : List Key). Some key ≡ find test keys) c.as_slice.ensures.items c.in-Some.ensures))

pub returns-in-None : goal.returns-in-None
unfolding missing_mistake
returns-in-None c =
    let test = λ (key : Key). not (is_complete (map given_by c.args.attrs.now) key) in
    let instrument = c.args.instrument.now in
    c.combination_mistake.ensures ∙ ap (λ (v : ℤ). combination_mistake instrument c.args.is_combined v) (to_z-of_z w64 c.args.value c.ranges.value)
    ∙ found_later (λ k. MissingKey k.name) (find test instrument.keys) (combination_mistake instrument c.args.is_combined c.args.value)
    (sym (subst (λ (keys : List Key). None ≡ find test keys) c.as_slice.ensures.items c.in-None.ensures))
