-- Equal identities.
use Rattle.std.proofs.Common.{◌≡◌, ℕ, ◌+◌, ◌<◌, Bool, true, false, cond, ◌&&◌, List, [], ◌∷◌, ◌++◌, length, take, get_or, Option, Some, None, Decides, refl, sym, ap, subst, ◌∙◌, arith, length-take}
use Rattle.std.specs.Option.{option_map}
use Rattle.std.proofs.lemmas.Option.{slice_get_read}
use Rattle.std.proofs.lemmas.Bool.Decides.{Decides-eqb}
use Rattle.std.proofs.lemmas.List.{take_more}
use Rattle.std.proofs.lemmas.Slice.Eq.{bytes_eq-Decides}
use Rattle.metric_contents.specs.declared.contents.Contents.{Contents}
use Rattle.metric_contents.specs.PlaceLaws.{or_else, position_from-push}
use Rattle.metric_views.specs.declared.stream.Stream.{Stream}
use Rattle.metric_resolve.specs.declared.warning.Warning.TheVariants as warnings
use Rattle.metric_resolve.specs.Collisions.{Identity, collision_at, first_of, identity_of, is_identity, is_same}

pub both : {P Q : Type 0} (a b : Bool) → Decides a P → Decides b Q → Decides (a && b) (P × Q)
both true b p q = (λ e. (p.0 refl, q.0 e), λ h. q.1 h.1)
both false b p q = (λ e. absurd cc, λ h. p.1 h.0)

-- identities with equal fields
joined : (x y : Identity) → x.reader ≡ y.reader → x.meter ≡ y.meter → x.version ≡ y.version → x.schema_url ≡ y.schema_url → x.name ≡ y.name → x ≡ y
joined x y reader meter version schema_url name = λ j. record { reader = reader j; meter = meter j; version = version j; schema_url = schema_url j; name = name j }

-- The test of two identities is true exactly where they are equal.
pub is_same-Decides : (x y : Identity) → Decides (is_same x y) (x ≡ y)
is_same-Decides x y =
    let d = both _ _ (Decides-eqb x.reader y.reader) (both _ _ (bytes_eq-Decides x.meter y.meter)
    (both _ _ (bytes_eq-Decides x.version y.version) (both _ _ (bytes_eq-Decides x.schema_url y.schema_url) (bytes_eq-Decides x.name y.name)))) in (
      λ e. let h = d.0 e in joined x y h.0 h.1.0 h.1.1.0 h.1.1.1.0 h.1.1.1.1,
      λ e. d.1 (ap (λ i. i.reader) e, (ap (λ i. i.meter) e, (ap (λ i. i.version) e, (ap (λ i. i.schema_url) e, ap (λ i. i.name) e)))),
    )

-- the first stream of an identity, with one stream more
first_of-push : (contents : Contents) (streams : List Stream) (stream : Stream) (own q : Identity) → identity_of contents stream ≡ Some own
    → first_of contents (streams ++ stream ∷ []) q ≡ or_else (first_of contents streams q) (cond (is_same q own) (Some (length streams)) None)
unfolding first_of
first_of-push contents streams stream own q e =
    let zero_more : 0 + length streams ≡ length streams = omega arith in
    let pushed = position_from-push (λ s. is_identity q (identity_of contents s)) 0 streams stream in
    rw (e, zero_more) at pushed

or_else-none : (o : Option ℕ) → or_else o None ≡ o
or_else-none None = refl
or_else-none (Some x) = refl

-- what the streams below a number have, with one stream more
first_of-more : (contents : Contents) (streams : List Stream) (n : ℕ) (stream : Stream) (own q : Identity) → n < length streams → stream ≡ get_or streams n stream
    → identity_of contents stream ≡ Some own
    → first_of contents (take (n + 1) streams) q ≡ or_else (first_of contents (take n streams) q) (cond (is_same q own) (Some n) None)
first_of-more contents streams n stream own q within is e =
    let len : length (take n streams) ≡ n = omega (arith, length-take n streams) in
    let more : take (n + 1) streams ≡ take n streams ++ stream ∷ [] = take_more streams n stream within ∙ ap (λ (x : Stream). take n streams ++ x ∷ []) (sym is) in
    let pushed = first_of-push contents (take n streams) stream own q e in
    rw more (rw len at pushed)

-- a stream of an identity that stands before
pub first_of-found : (contents : Contents) (streams : List Stream) (n a : ℕ) (stream : Stream) (own : Identity) → n < length streams → stream ≡ get_or streams n stream
    → identity_of contents stream ≡ Some own → first_of contents (take n streams) own ≡ Some a
    → (q : Identity) → first_of contents (take (n + 1) streams) q ≡ first_of contents (take n streams) q
first_of-found contents streams n a stream own within is e found q = first_of-more contents streams n stream own q within is e ∙ by (is_same q own) refl
  where
    by : (b : Bool) → is_same q own ≡ b → or_else (first_of contents (take n streams) q) (cond b (Some n) None) ≡ first_of contents (take n streams) q
    by true same =
        let here : first_of contents (take n streams) q ≡ Some a = subst (λ (i : Identity). first_of contents (take n streams) i ≡ Some a) (sym ((is_same-Decides q own).0 same)) found in
        rw here refl
    by false same = or_else-none (first_of contents (take n streams) q)

same_turned : (x y : Identity) → is_same x y ≡ is_same y x
same_turned x y = by (is_same x y) (is_same y x) refl refl
  where
    by : (a b : Bool) → is_same x y ≡ a → is_same y x ≡ b → a ≡ b
    by true true e f = refl
    by false false e f = refl
    by true false e f = absurd (let back = (is_same-Decides y x).1 (sym ((is_same-Decides x y).0 e)) in cc)
    by false true e f = absurd (let back = (is_same-Decides x y).1 (sym ((is_same-Decides y x).0 f)) in cc)

-- a stream of an identity that is new
pub first_of-new : (contents : Contents) (streams : List Stream) (n : ℕ) (stream : Stream) (own : Identity) → n < length streams → stream ≡ get_or streams n stream
    → identity_of contents stream ≡ Some own → first_of contents (take n streams) own ≡ None
    → (q : Identity) → first_of contents (take (n + 1) streams) q ≡ cond (is_same own q) (Some n) (first_of contents (take n streams) q)
first_of-new contents streams n stream own within is e absent q =
    first_of-more contents streams n stream own q within is e ∙ by (is_same q own) refl ∙ ap (λ b. cond b (Some n) (first_of contents (take n streams) q)) (same_turned q own)
  where
    by : (b : Bool) → is_same q own ≡ b → or_else (first_of contents (take n streams) q) (cond b (Some n) None) ≡ cond b (Some n) (first_of contents (take n streams) q)
    by true same =
        let none : first_of contents (take n streams) q ≡ None = subst (λ (i : Identity). first_of contents (take n streams) i ≡ None) (sym ((is_same-Decides q own).0 same)) absent in
        rw none refl
    by false same = or_else-none (first_of contents (take n streams) q)

-- what is warned of a stream
pub collision_at-is : (contents : Contents) (streams : List Stream) (n : ℕ) (stream : Stream) (own : Identity) (first : Option ℕ) → n < length streams → stream ≡ get_or streams n stream
    → identity_of contents stream ≡ Some own → first_of contents (take n streams) own ≡ first
    → collision_at contents streams n ≡ option_map (λ a. warnings.Collision a n) first
unfolding collision_at
collision_at-is contents streams n stream own first within is e found =
    rw (slice_get_read streams (length streams) n stream refl within is, e, found) refl
