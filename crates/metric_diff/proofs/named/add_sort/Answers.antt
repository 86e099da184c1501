-- those that go or differ, and then those that are new
use Rattle.std.proofs.Common.{◌≡◌, ℕ, ◌++◌, List, Option, ap, ◌∙◌}
use Rattle.std.specs.BTreeMap.{get_by_text}
use Rattle.std.specs.List.{enumerate_from, flat_map}
use Rattle.metric_diff.specs.Changes.{change_by, names, new_by, plan_of, sort_changes}
use Rattle.metric_diff.specs.Known.{place_of}
use Rattle.metric_diff.proofs.Told.{on_ok, two}
use Rattle.metric_diff.proofs.named.add_sort.Goals as goal

pub returns : goal.returns
unfolding sort_changes
returns c =
    let old = (plan_of c.args.old) in
    let new = (plan_of c.args.new) in
    let olds : c.as_slice.result.now ≡ names c.args.sort old old = c.as_slice.ensures ∙ c.in_ok-old_names.ensures in
    let news : c.as_slice-2.result.now ≡ names c.args.sort old new = c.as_slice-2.ensures ∙ c.in_ok-new_names.ensures in
    let olds_again : c.as_slice-3.result.now ≡ names c.args.sort old old = c.as_slice-3.ensures ∙ c.in_ok-old_names.ensures in
    let news_again : c.as_slice-4.result.now ≡ names c.args.sort old new = c.as_slice-4.ensures ∙ c.in_ok-new_names.ensures in
    let old_place : get_by_text c.in_ok-old_places.old_places ≡ place_of (names c.args.sort old old) = λ i name. (c.in_ok-old_places.ensures name ∙ ap (λ (ns : List (List ℕ)). place_of ns name) olds) i in
    let new_place : get_by_text c.in_ok-new_places.new_places ≡ place_of (names c.args.sort old new) = λ i name. (c.in_ok-new_places.ensures name ∙ ap (λ (ns : List (List ℕ)). place_of ns name) news) i in
    on_ok c.add_new.result _ _
    (λ added. two c.args.changes.now _ _ _ _
    (c.in_ok-add_old.ensures
    ∙ ap (λ (find : List ℕ → Option ℕ). c.args.changes.now ++ flat_map (change_by c.args.sort find old new) (enumerate_from 0 c.as_slice-3.result.now)) new_place
    ∙ ap (λ (ns : List (List ℕ)). c.args.changes.now ++ flat_map (change_by c.args.sort (place_of (names c.args.sort old new)) old new) (enumerate_from 0 ns)) olds_again)
    (added
    ∙ ap (λ (find : List ℕ → Option ℕ). c.add_old.new.changes ++ flat_map (new_by c.args.sort find) (enumerate_from 0 c.as_slice-4.result.now)) old_place
    ∙ ap (λ (ns : List (List ℕ)). c.add_old.new.changes ++ flat_map (new_by c.args.sort (place_of (names c.args.sort old old))) (enumerate_from 0 ns)) news_again))
    c.add_new.ensures
