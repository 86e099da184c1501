-- Collisions are of one identity, with the first stream of it.
use Rattle.std.proofs.Common.{◌≡◌, ℕ, zero, suc, ◌+◌, ◌<◌, Bool, true, false, cond, List, [], ◌∷◌, length, take, Contains, Option, Some, None, refl, sym, ap, subst, ◌∙◌, arith, length-take}
use Rattle.std.specs.List.{position_from, range_with_len}
use Rattle.std.specs.Option.{option_map}
use Rattle.std.specs.Prelude.{option_and_then, slice_get}
use Rattle.std.proofs.lemmas.Option.{slice_get_within}
use Rattle.metric_contents.specs.declared.contents.Contents.{Contents}
use Rattle.metric_views.specs.declared.stream.Stream.{Stream}
use Rattle.metric_resolve.specs.declared.warning.Warning.TheVariants as warnings
use Rattle.metric_resolve.specs.Collisions.{Identity, collision_at, collisions_of, first_of, identity_of, is_identity}
use Rattle.metric_resolve.specs.Laws.{Collide, identity_at}
use Rattle.metric_resolve.proofs.Lists.{Contains-filter_map, Contains-range, given_by, slice_get-take}
use Rattle.metric_resolve.proofs.Same.{is_same-Decides}

-- the first element that passes
record FirstAt {X : Type 0} (test : X → Bool) (xs : List X) (a : ℕ) : Type 0 where
  found : X
  at : slice_get xs a ≡ Some found
  passes : test found ≡ true
  least : (k : ℕ) (x : X) → k < a → slice_get xs k ≡ Some x → test x ≡ false

first_here : {X : Type 0} (test : X → Bool) (x : X) (xs : List X) → test x ≡ true → FirstAt test (x ∷ xs) 0
first_here test x xs e = record { found = x; at = refl; passes = e; least = λ k y before at. absurd (omega arith) }

first_later : {X : Type 0} (test : X → Bool) (x : X) (xs : List X) (a : ℕ) → test x ≡ false → FirstAt test xs a → FirstAt test (x ∷ xs) (suc a)
first_later {X = X} test x xs a e f = record { found = f.found; at = f.at; passes = f.passes; least = before }
  where
    before : (k : ℕ) (y : X) → k < suc a → slice_get (x ∷ xs) k ≡ Some y → test y ≡ false
    before zero y less at = let same : x ≡ y = cc in ap test (sym same) ∙ e
    before (suc k) y less at = f.least k y (omega arith) at

first_found : {X P : Type 0} (test : X → Bool) (i : ℕ) (xs : List X) (p : ℕ) → position_from test i xs ≡ Some p → ((a : ℕ) → i + a ≡ p → FirstAt test xs a → P) → P
first_found test i [] p e next = absurd cc
first_found {P = P} test i (x ∷ xs) p e next = by (test x) refl e (λ h. first_found test (i + 1) xs p h (λ a is f. λ fails. next (suc a) (omega arith) (first_later test x xs a fails f)))
  where
    by : (b : Bool) → test x ≡ b → cond b (Some i) (position_from test (i + 1) xs) ≡ Some p → (position_from test (i + 1) xs ≡ Some p → test x ≡ false → P) → P
    by true passes h rest = let same : i ≡ p = cc in next 0 (omega arith) (first_here test x xs passes)
    by false fails h rest = rest h fails

first_back : {X : Type 0} (test : X → Bool) (i : ℕ) (xs : List X) (a : ℕ) → FirstAt test xs a → position_from test i xs ≡ Some (i + a)
first_back test i [] a f = absurd (let at = f.at in cc)
first_back test i (x ∷ xs) zero f =
    let same : x ≡ f.found = (let at = f.at in cc) in
    let passes : test x ≡ true = ap test same ∙ f.passes in
    let is : i ≡ i + 0 = omega arith in
    rw passes (ap (λ (n : ℕ). Some n) is)
first_back test i (x ∷ xs) (suc a) f =
    let fails : test x ≡ false = f.least 0 x (omega arith) refl in
    let is : i + 1 + a ≡ i + suc a = omega arith in
    rw fails (first_back test (i + 1) xs a (record { found = f.found; at = f.at; passes = f.passes; least = λ k y less at. f.least (suc k) y (omega arith) at }) ∙ ap (λ (n : ℕ). Some n) is)

-- the test of an identity
is_identity-same : (x : Identity) (o : Option Identity) → is_identity x o ≡ true → o ≡ Some x
is_identity-same x (Some y) e = ap (λ (i : Identity). Some i) (sym ((is_same-Decides x y).0 e))
is_identity-same x None e = absurd cc

is_identity-itself : (x : Identity) (o : Option Identity) → o ≡ Some x → is_identity x o ≡ true
is_identity-itself x o e = ap (is_identity x) e ∙ (is_same-Decides x x).1 refl

-- the element of which an identity is
stream_of : {P : Type 0} (contents : Contents) (streams : List Stream) (k : ℕ) (x : Identity) → identity_at contents streams k ≡ Some x
    → ((s : Stream) → slice_get streams k ≡ Some s → identity_of contents s ≡ Some x → P) → P
stream_of {P = P} contents streams k x e next = by (slice_get streams k) refl e
  where
    by : (o : Option Stream) → slice_get streams k ≡ o → option_and_then (identity_of contents) o ≡ Some x → P
    by (Some s) at e = next s at e
    by None at e = absurd cc

collide_from : (contents : Contents) (streams : List Stream) (a b : ℕ) (x : Identity) → identity_at contents streams b ≡ Some x → first_of contents (take b streams) x ≡ Some a → Collide contents streams a b
unfolding first_of
collide_from contents streams a b x later e =
    first_found (λ s. is_identity x (identity_of contents s)) 0 (take b streams) a e (λ p is f.
    let same : p ≡ a = omega arith in
    let within : a < b = (let inside = slice_get_within (take b streams) p f.found f.at in omega (arith, length-take b streams)) in
    let at : slice_get streams a ≡ Some f.found = sym (slice_get-take b streams a within) ∙ ap (slice_get (take b streams)) (sym same) ∙ f.at in
    record {
      identity = x;
      before = within;
      first = ap (option_and_then (identity_of contents)) at ∙ is_identity-same x (identity_of contents f.found) f.passes;
      later = later;
      least = λ k less h.
          stream_of contents streams k x h (λ s here named.
          let fails = f.least k s (omega arith) (slice_get-take b streams k (omega arith) ∙ here) in
          let holds = is_identity-itself x (identity_of contents s) named in
          absurd cc);
    })

first_from : (contents : Contents) (streams : List Stream) (a b : ℕ) (c : Collide contents streams a b) → first_of contents (take b streams) c.identity ≡ Some a
unfolding first_of
first_from contents streams a b c =
    stream_of contents streams a c.identity c.first (λ s at named.
    let is : 0 + a ≡ a = omega arith in
    let less : a < b = c.before in
    first_back (λ s. is_identity c.identity (identity_of contents s)) 0 (take b streams) a (record {
      found = s;
      at = slice_get-take b streams a less ∙ at;
      passes = is_identity-itself c.identity (identity_of contents s) named;
      least = λ k t below here. fails k t below (is_identity c.identity (identity_of contents t)) refl (sym (slice_get-take b streams k (omega arith)) ∙ here);
    }) ∙ ap (λ (n : ℕ). Some n) is)
  where
    fails : (k : ℕ) (t : Stream) → k < a → (r : Bool) → is_identity c.identity (identity_of contents t) ≡ r → slice_get streams k ≡ Some t → r ≡ false
    fails k t below false e here = refl
    fails k t below true e here = absurd (c.least k below (ap (option_and_then (identity_of contents)) here ∙ is_identity-same c.identity (identity_of contents t) e))

-- what a warning is of
warned : {P : Type 0} (contents : Contents) (streams : List Stream) (a b k : ℕ) → collision_at contents streams k ≡ Some (warnings.Collision a b)
    → (k ≡ b → (x : Identity) → identity_at contents streams b ≡ Some x → first_of contents (take b streams) x ≡ Some a → P) → P
unfolding collision_at
warned {P = P} contents streams a b k e next = by (identity_at contents streams k) refl e
  where
    named : (x : Identity) → identity_at contents streams k ≡ Some x → (o : Option ℕ) → first_of contents (take k streams) x ≡ o → option_map (λ a. warnings.Collision a k) o ≡ Some (warnings.Collision a b) → P
    named x at (Some p) first e =
        let one : p ≡ a = cc in
        let two : k ≡ b = cc in
        next two x (subst (λ (n : ℕ). identity_at contents streams n ≡ Some x) two at) (subst (λ (n : ℕ). first_of contents (take n streams) x ≡ Some a) two (first ∙ ap (λ (n : ℕ). Some n) one))
    named x at None first e = absurd cc

    by : (o : Option Identity) → identity_at contents streams k ≡ o → option_map (λ a. warnings.Collision a k) (option_and_then (first_of contents (take k streams)) o) ≡ Some (warnings.Collision a b) → P
    by (Some x) at e = named x at (first_of contents (take k streams) x) refl e
    by None at e = absurd cc

collisions_only : (contents : Contents) (streams : List Stream) (a b : ℕ) → Contains (collisions_of contents streams) (warnings.Collision a b) → Collide contents streams a b
unfolding collisions_of
collisions_only contents streams a b in' =
    given_by (collision_at contents streams) (range_with_len 0 (length streams)) (warnings.Collision a b) in' (λ k within e.
    warned contents streams a b k e (λ is x at first. collide_from contents streams a b x at first))

all_collisions : (contents : Contents) (streams : List Stream) (a b : ℕ) → Collide contents streams a b → Contains (collisions_of contents streams) (warnings.Collision a b)
unfolding collisions_of collision_at
all_collisions contents streams a b c =
    stream_of contents streams b c.identity c.later (λ s at named.
    let within = slice_get_within streams b s at in
    let first = first_from contents streams a b c in
    let e : option_map (λ a. warnings.Collision a b) (option_and_then (first_of contents (take b streams)) (identity_at contents streams b)) ≡ Some (warnings.Collision a b) =
    ap (λ o. option_map (λ a. warnings.Collision a b) (option_and_then (first_of contents (take b streams)) o)) c.later ∙ ap (λ o. option_map (λ a. warnings.Collision a b) o) first in
    Contains-filter_map (collision_at contents streams) (range_with_len 0 (length streams)) b (warnings.Collision a b) (Contains-range (length streams) b within) e)

pub collisions_exact : (contents : Contents) (streams : List Stream) (a b : ℕ)
    → (Contains (collisions_of contents streams) (warnings.Collision a b) → Collide contents streams a b) × (Collide contents streams a b → Contains (collisions_of contents streams) (warnings.Collision a b))
collisions_exact contents streams a b = (collisions_only contents streams a b, all_collisions contents streams a b)
