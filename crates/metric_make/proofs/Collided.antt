-- A collision is warned of exactly where two streams have one identity.
use Rattle.std.proofs.Common.{◌≡◌, ◌<◌, ◌||◌, ◌⊎◌, ◌↔◌, inl, inr, ℕ, zero, suc, Bool, true, false, cond, List, [], ◌∷◌, ◌++◌, All, Contains, Option, Some, None, refl, sym, ap, ◌∙◌, arith}
use Rattle.std.specs.List.{cons_option, filter_map, flat_map, list_any}
use Rattle.std.specs.Prelude.{option_and_then, slice_get}
use Rattle.std.proofs.lemmas.List.Elements.{All-get_or}
use Rattle.std.proofs.lemmas.List.Folds.{Any-from_list_any, list_any-append, list_any_at}
use Rattle.std.proofs.lemmas.Option.{get_or_from_slice_get, option_and_then_some, slice_get-get_or, slice_get_within}
use Rattle.metric_contents.specs.declared.contents.Contents.{Contents}
use Rattle.metric_views.specs.declared.config.Config.{Config}
use Rattle.metric_views.specs.declared.stream.Stream.{Stream}
use Rattle.metric_resolve.specs.Applying.{all_instruments, all_views}
use Rattle.metric_resolve.specs.Collisions.{Identity, collisions_of, identity_of, is_identity, is_same}
use Rattle.metric_resolve.specs.Laws.{Collide, identity_at}
use Rattle.metric_resolve.specs.Unfit.{is_unfit_with, unfit_of, unfit_of_view, unfit_with}
use Rattle.metric_resolve.specs.declared.warning.Warning.{Warning}
use Rattle.metric_resolve.specs.declared.warning.Warning.TheVariants as warnings
use Rattle.metric_bounds.specs.Safe.{AreDistinct}
use Rattle.metric_make.specs.declared.fault.MakeFault.{MakeFault}
use Rattle.metric_make.specs.Finding.{first_collision}
use Rattle.metric_make.specs.Making.{IsNamed}

abbrev pub is_collision : Warning → Bool
is_collision (warnings.Collision a b) = true
is_collision (warnings.Unfit view instrument) = false

-- the first collision among warnings
pub some_collision : (ws : List Warning) (fault : MakeFault) → first_collision ws ≡ Some fault → list_any is_collision ws ≡ true
some_collision [] fault e = absurd cc
some_collision (warnings.Collision a b ∷ ws) fault e = refl
some_collision (warnings.Unfit view instrument ∷ ws) fault e = some_collision ws fault e

pub no_collision : (ws : List Warning) → first_collision ws ≡ None → list_any is_collision ws ≡ false
no_collision [] e = refl
no_collision (warnings.Collision a b ∷ ws) e = absurd cc
no_collision (warnings.Unfit view instrument ∷ ws) e = no_collision ws e

-- No view that does not fit is a collision.
flat_none : {X A : Type 0} (p : A → Bool) (f : X → List A) → ((x : X) → list_any p (f x) ≡ false) → (xs : List X) → list_any p (flat_map f xs) ≡ false
flat_none p f none [] = refl
flat_none p f none (x ∷ xs) =
    list_any-append p (f x) (flat_map f xs) ∙ ap (λ (b : Bool). b || list_any p (flat_map f xs)) (none x) ∙ flat_none p f none xs

filter_none : {X A : Type 0} (p : A → Bool) (h : X → Option A) → ((x : X) → list_any p (cons_option (h x) []) ≡ false) → (xs : List X) → list_any p (filter_map h xs) ≡ false
filter_none p h none [] = refl
filter_none {A = A} p h none (x ∷ xs) = by (h x) (none x) (filter_none p h none xs)
  where
    by : (o : Option A) → list_any p (cons_option o []) ≡ false → list_any p (filter_map h xs) ≡ false → list_any p (cons_option o (filter_map h xs)) ≡ false
    by None e rest = rest
    by (Some y) e rest = split (p y) e rest
      where
        split : (b : Bool) → (b || false) ≡ false → list_any p (filter_map h xs) ≡ false → (b || list_any p (filter_map h xs)) ≡ false
        split true e rest = e
        split false e rest = rest

no_unfit : (contents : Contents) (config : Config) → list_any is_collision (unfit_of contents config) ≡ false
unfolding unfit_of unfit_of_view
no_unfit contents config =
    flat_none is_collision (unfit_of_view contents config)
    (λ number. filter_none is_collision (unfit_with contents number (slice_get config.views number)) (λ i. one number i (is_unfit_with contents (slice_get config.views number) i)) (all_instruments contents))
    (all_views config)
  where
    one : (number i : ℕ) (b : Bool) → list_any is_collision (cons_option (cond b (Some (warnings.Unfit number i)) None) []) ≡ false
    one number i true = refl
    one number i false = refl

only_collisions : (contents : Contents) (config : Config) (streams : List Stream)
    → list_any is_collision (unfit_of contents config ++ collisions_of contents streams) ≡ list_any is_collision (collisions_of contents streams)
only_collisions contents config streams =
    list_any-append is_collision (unfit_of contents config) (collisions_of contents streams)
    ∙ ap (λ (b : Bool). b || list_any is_collision (collisions_of contents streams)) (no_unfit contents config)

-- what a law of collisions says of these streams
abbrev pub Exactly : Contents → List Stream → Type 0
Exactly contents streams = (a b : ℕ) → Contains (collisions_of contents streams) (warnings.Collision a b) ↔ Collide contents streams a b

pub collided : (contents : Contents) (config : Config) (streams : List Stream) → Exactly contents streams
    → list_any is_collision (unfit_of contents config ++ collisions_of contents streams) ≡ true → AreDistinct contents streams → ⊥
collided contents config streams exact some distinct =
    let any = Any-from_list_any is_collision (collisions_of contents streams) (sym (only_collisions contents config streams) ∙ some) in
    by any.1 (any.0, any.2, any.3) any.4
  where
    apart : (a b : ℕ) → Collide contents streams a b → ⊥
    apart a b c =
        option_and_then_some (identity_of contents) (slice_get streams a) c.identity c.first (λ s at one.
        option_and_then_some (identity_of contents) (slice_get streams b) c.identity c.later (λ t there two.
        distinct a b s c.before (slice_get_within streams b t there)
        (ap (identity_of contents) (get_or_from_slice_get streams a s s at) ∙ one ∙ sym two ∙ ap (identity_of contents) (sym (get_or_from_slice_get streams b t s there)))))

    by : (w : Warning) → Contains (collisions_of contents streams) w → is_collision w ≡ true → ⊥
    by (warnings.Collision a b) there e = apart a b ((exact a b).0 there)
    by (warnings.Unfit view instrument) there e = absurd cc

-- the first number that passes
record FirstBelow (test : ℕ → Bool) (n : ℕ) : Type 0 where
  place : ℕ
  less : place < n
  passes : test place ≡ true
  least : (k : ℕ) → k < place → test k ≡ false

scan : (test : ℕ → Bool) (n : ℕ) → ((k : ℕ) → k < n → test k ≡ false) ⊎ FirstBelow test n
scan test zero = inl (λ k less. absurd (omega arith))
scan test (suc n) = elim (scan test n) [
  | inr f ↦ inr (record { place = f.place; less = (let l = f.less in omega arith); passes = f.passes; least = f.least })
  | inl none ↦ by (test n) refl none
]
  where
    by : (b : Bool) → test n ≡ b → ((k : ℕ) → k < n → test k ≡ false) → ((k : ℕ) → k < suc n → test k ≡ false) ⊎ FirstBelow test (suc n)
    by true e none = inr (record { place = n; less = omega arith; passes = e; least = none })
    by false e none = inl (λ k less. last k less (below_or k n less))
      where
        below_or : (k m : ℕ) → k < suc m → (k < m) ⊎ (k ≡ m)
        below_or zero zero less = inr refl
        below_or zero (suc m) less = inl (omega arith)
        below_or (suc k) zero less = absurd (omega arith)
        below_or (suc k) (suc m) less = elim (below_or k m (omega arith)) [ inl l ↦ inl (omega arith) | inr same ↦ inr (ap (λ (i : ℕ). suc i) same) ]

        last : (k : ℕ) → k < suc n → (k < n) ⊎ (k ≡ n) → test k ≡ false
        last k less (inl l) = none k l
        last k less (inr same) = ap test same ∙ e

-- the test of an identity
same_identity : ((x y : Identity) → (is_same x y ≡ true) ↔ (x ≡ y)) → (x : Identity) (o : Option Identity) → is_identity x o ≡ true → o ≡ Some x
same_identity same x None e = absurd cc
same_identity same x (Some y) e = ap (λ (i : Identity). Some i) (sym ((same x y).0 e))

own_identity : ((x y : Identity) → (is_same x y ≡ true) ↔ (x ≡ y)) → (x : Identity) (o : Option Identity) → o ≡ Some x → is_identity x o ≡ true
own_identity same x o e = ap (is_identity x) e ∙ (same x x).1 refl

pub distinct_from : (contents : Contents) (config : Config) (streams : List Stream) → Exactly contents streams → ((x y : Identity) → (is_same x y ≡ true) ↔ (x ≡ y))
    → All (IsNamed contents) streams → list_any is_collision (unfit_of contents config ++ collisions_of contents streams) ≡ false → AreDistinct contents streams
distinct_from contents config streams exact same named none i j d before within equal =
    let own = All-get_or (IsNamed contents) streams j d within named in
    let x = own.own in
    let later : identity_at contents streams j ≡ Some x = ap (option_and_then (identity_of contents)) (slice_get-get_or streams j d within) ∙ own.is in
    let earlier : identity_at contents streams i ≡ Some x = ap (option_and_then (identity_of contents)) (slice_get-get_or streams i d (omega arith)) ∙ equal ∙ own.is in
    let test = λ (k : ℕ). is_identity x (identity_at contents streams k) in
    elim (scan test (suc i)) [
      | inl never ↦ (let no_match = never i (omega arith) in let match = own_identity same x (identity_at contents streams i) earlier in contrary (sym match ∙ no_match))
      | inr f ↦
          (let there = (exact f.place j).1 (record {
            identity = x;
            before = (let l = f.less in omega arith);
            first = same_identity same x (identity_at contents streams f.place) f.passes;
            later = later;
            least = λ k less e. contrary (sym (own_identity same x (identity_at contents streams k) e) ∙ f.least k less);
          }) in
          let some = found is_collision (collisions_of contents streams) (warnings.Collision f.place j) there refl in
          contrary (sym some ∙ sym (only_collisions contents config streams) ∙ none))
    ]
  where
    contrary : true ≡ false → ⊥
    contrary e = absurd cc

    found : (p : Warning → Bool) (ws : List Warning) (w : Warning) → Contains ws w → p w ≡ true → list_any p ws ≡ true
    found p ws w there e = list_any_at p ws there.0 w there.1 (ap p there.2 ∙ e)
