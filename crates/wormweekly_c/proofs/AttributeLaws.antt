-- The attributes that are read so far, with those that are left.
use Rattle.std.proofs.Common.{◌≡◌, ◌<◌, ◌≤◌, ℕ, ◌+◌, List, [], ◌∷◌, ◌++◌, Option, Some, None, drop, get_or, length, refl, sym, ap, ◌∙◌}
use Rattle.std.specs.Prelude.{option_and_then, option_map}
use Rattle.std.proofs.lemmas.List.{append-nil, append_assoc, at_drop_all, at_drop_more}
use Rattle.metric_contents.specs.Encoding.{Given}
use Rattle.wormweekly_c.specs.Attributes.{attributes_from, given_first}
use Rattle.wormweekly_c.specs.declared.attributes.Attribute.{Attribute}

abbrev pub read_with : List Given → Option (List Given) → Option (List Given)
read_with done rest = option_map (λ (others : List Given). done ++ others) rest

-- the attributes of which one was read
and_then : List Attribute → Option (Given × List ℕ) → Option (List Given)
and_then others one =
    option_and_then (λ (first : Given × List ℕ). option_map (λ (rest : List Given). first.0 ∷ rest) (attributes_from others first.1)) one

-- what is left begins with the attribute at the place
left_from : (given : List Attribute) (rest : List ℕ) (i : ℕ) (d : Attribute) (one : Option (Given × List ℕ)) → i < length given → one ≡ given_first (get_or given i d) rest
    → attributes_from (drop i given) rest ≡ and_then (drop (i + 1) given) one
unfolding and_then
left_from given rest i d one below is =
    at_drop_more (λ (all : List Attribute). attributes_from all rest) given i d below
    ∙ ap (λ (first : Option (Given × List ℕ)). and_then (drop (i + 1) given) first) (sym is)

none_with : (rest : Option (List Given)) → rest ≡ read_with [] rest
none_with None = refl
none_with (Some others) = refl

one_with : (done : List Given) (one : Given) (rest : Option (List Given))
    → read_with done (option_map (λ (others : List Given). one ∷ others) rest) ≡ read_with (done ++ one ∷ []) rest
one_with done one None = refl
one_with done one (Some others) = ap (λ (all : List Given). Some all) (sym (append_assoc done (one ∷ []) others))

pub read_first : (given : List Attribute) (texts : List ℕ) (done : List Given) → done ≡ [] → attributes_from given texts ≡ read_with done (attributes_from given texts)
read_first given texts done none =
    none_with (attributes_from given texts) ∙ ap (λ (so_far : List Given). read_with so_far (attributes_from given texts)) (sym none)

-- one more is read
pub read_more : (given : List Attribute) (texts rest left : List ℕ) (done : List Given) (i : ℕ) (d : Attribute) (one : Given) → i < length given
    → Some (one, left) ≡ given_first (get_or given i d) rest → attributes_from given texts ≡ read_with done (attributes_from (drop i given) rest)
    → attributes_from given texts ≡ read_with (done ++ one ∷ []) (attributes_from (drop (i + 1) given) left)
unfolding and_then
read_more given texts rest left done i d one below is so_far =
    so_far ∙ ap (read_with done) (left_from given rest i d (Some (one, left)) below is)
    ∙ one_with done one (attributes_from (drop (i + 1) given) left)

-- one is none, and so all are
pub read_none : (given : List Attribute) (texts rest : List ℕ) (done : List Given) (i : ℕ) (d : Attribute) → i < length given
    → None ≡ given_first (get_or given i d) rest → attributes_from given texts ≡ read_with done (attributes_from (drop i given) rest)
    → attributes_from given texts ≡ None
unfolding and_then
read_none given texts rest done i d below is so_far =
    so_far ∙ ap (read_with done) (left_from given rest i d None below is)

-- none are left
pub read_all : (given : List Attribute) (texts rest : List ℕ) (done : List Given) (i : ℕ) → length given ≤ i
    → attributes_from given texts ≡ read_with done (attributes_from (drop i given) rest) → attributes_from given texts ≡ Some done
read_all given texts rest done i end so_far =
    so_far ∙ ap (read_with done) (at_drop_all (λ (all : List Attribute). attributes_from all rest) given i end)
    ∙ ap (λ (all : List Given). Some all) (append-nil done)
