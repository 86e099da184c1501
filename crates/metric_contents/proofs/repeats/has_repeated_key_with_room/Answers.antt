-- the keys, sorted
use Rattle.std.proofs.Common.{◌≡◌, List, [], ◌∷◌, map, refl, ap, ◌∙◌, rules}
use Rattle.std.specs.Ordering.{is_lt}
use Rattle.std.proofs.lemmas.List.Sorted.{answers_always}
use Rattle.metric_contents.specs.Attributes.{given_by_owned}
use Rattle.metric_contents.specs.declared.attributes.OwnedAttr.{OwnedAttr}
use Rattle.metric_contents.proofs.Differing.{names_of, repeated_where_falling, text_cmp}
use Rattle.metric_contents.proofs.repeats.has_repeated_key_with_room.Goals as goal

keys_given : (attrs : List OwnedAttr) → map (λ attr. attr.key) attrs ≡ names_of (map given_by_owned attrs)
keys_given [] = refl
keys_given (attr ∷ attrs) = ap (λ keys. attr.key ∷ keys) (keys_given attrs)

pub returns-clause-exact : goal.returns-clause-exact
returns-clause-exact c =
    repeated_where_falling (map given_by_owned c.args.attrs.now) c.put_keys.new.room.items c.sort_unstable.new.self.items c.is_sorted_by.result
    (c.put_keys.ensures.keys ∙ keys_given c.args.attrs.now) c.sort_unstable.ensures.permutation c.sort_unstable.ensures.sorted
    (rw (← c.deref.ensures.value) (c.is_sorted_by.ensures.cases (λ x y. is_lt (text_cmp x y)) (answers_always _ _ _ (λ f a r g h. search rules))))
