-- Where several questions, asked one after the other, first find something.
use Rattle.std.proofs.Common.{◌≡◌, ℕ, ◌+◌, inl, inr, Bool, true, false, cond, ltb, eqb, List, [], ◌∷◌, fold, Option, Some, None, refl, arith}
use Rattle.std.proofs.lemmas.Bool.{eqb-true, eq-eqb, ltb-false, ltb-true}
use Rattle.metric_bounds.specs.First.{Asks, Each, Then}
use Rattle.metric_bounds.specs.Sets.{sets_of}
use Rattle.metric_contents.specs.declared.contents.Contents.{Contents}
use Rattle.metric_views.specs.declared.stream.Stream.{Stream}
use Rattle.metric_lint.specs.declared.headroom.Headroom.{Headroom}
use Rattle.metric_lint.specs.declared.limit.Limit.{Limit}
use Rattle.metric_lint.specs.declared.limit.Limit.TheVariants.{Series}
use Rattle.metric_lint.specs.Edges.{IsEdge, IsGreatest, IsMost}
use Rattle.metric_lint.specs.Headrooms.{most_by_series, tightened, tightened_at}
use Rattle.metric_lint.specs.Limits.{SeriesFit, StreamFinds}

-- questions that find the same
pub same_edge : {F : Type 0} (A B : ℕ → Option F → Type 0) (most : ℕ) (fault : F) → ((t : ℕ) (r : Option F) → A t r → B t r)
    → ((t : ℕ) → B t None → A t None) → IsEdge A most fault → IsEdge B most fault
same_edge A B most fault there back e = record {
  safe = λ t le. there t None (e.safe t le);
  greatest = λ t none. e.greatest t (back t none);
  next = there (most + 1) (Some fault) e.next;
}

-- one question alone
pub asked_edge : {F : Type 0} (P : ℕ → Type 0) (most : ℕ) (fault : F) → IsGreatest P most → IsEdge (λ t. Asks (P t) fault) most fault
asked_edge P most fault p = record {
  safe = p.within;
  greatest = p.greatest;
  next = (λ holds. (let above = p.greatest (most + 1) holds in omega (arith, above)), refl);
}

-- one question more
pub tightened_edge : (First : ℕ → Option Limit → Type 0) (P : ℕ → Type 0) (h : Headroom) (o : Option ℕ) (limit : Limit)
    → IsEdge First h.most h.limit → IsMost P o → IsEdge (λ t. Then (First t) (Asks (P t) limit)) (tightened h o limit).most (tightened h o limit).limit
tightened_edge First P h None limit e each = record {
  safe = λ t le. (e.safe t le, each t);
  greatest = λ t none. e.greatest t none.0;
  next = inl e.next;
}
tightened_edge First P h (Some most) limit e p = by (ltb most h.most) refl
  where
    by : (b : Bool) → ltb most h.most ≡ b
        → IsEdge (λ t. Then (First t) (Asks (P t) limit)) (cond b (record h { most = most; limit = limit }) h).most (cond b (record h { most = most; limit = limit }) h).limit
    by true test =
        let less = ltb-true most h.most test in
        record {
          safe = λ t le. (e.safe t (omega arith), p.within t le);
          greatest = λ t none. p.greatest t none.1;
          next = inr (e.safe (most + 1) (omega arith), (λ holds. (let above = p.greatest (most + 1) holds in omega (arith, above)), refl));
        }
    by false test =
        let not_less = ltb-false most h.most test in
        record {
          safe = λ t le. (e.safe t le, p.within t (omega arith));
          greatest = λ t none. e.greatest t none.0;
          next = inl e.next;
        }

-- the series of a stream of the instrument
series_most : (contents : Contents) (i : ℕ) (stream : Stream) → stream.instrument ≡ i → IsMost (λ t. SeriesFit contents i t stream) (most_by_series contents stream)
series_most contents i stream own = by (ltb stream.limit (sets_of contents stream)) refl
  where
    by : (b : Bool) → ltb stream.limit (sets_of contents stream) ≡ b → IsMost (λ t. SeriesFit contents i t stream) (cond b (Some stream.limit) None)
    by true test =
        let less = ltb-true stream.limit (sets_of contents stream) test in
        record { within = λ t le own. omega arith; greatest = λ t fits. (let f = fits own in omega (arith, f)) }
    by false test =
        let not_less = ltb-false stream.limit (sets_of contents stream) test in
        λ t own. omega arith

-- one stream more
stream_edge : (contents : Contents) (i : ℕ) (First : ℕ → Option Limit → Type 0) (h : Headroom) (s : ℕ × Stream) → IsEdge First h.most h.limit
    → IsEdge (λ t. Then (First t) (StreamFinds contents i t s)) (tightened_at contents i h s).most (tightened_at contents i h s).limit
stream_edge contents i First h s e = by (eqb s.1.instrument i) refl
  where
    by : (b : Bool) → eqb s.1.instrument i ≡ b
        → IsEdge (λ t. Then (First t) (StreamFinds contents i t s)) (cond b (tightened h (most_by_series contents s.1) (Series s.0)) h).most
        (cond b (tightened h (most_by_series contents s.1) (Series s.0)) h).limit
    by true test =
        tightened_edge First (λ t. SeriesFit contents i t s.1) h (most_by_series contents s.1) (Series s.0) e (series_most contents i s.1 (eqb-true s.1.instrument i test))
    by false test =
        tightened_edge First (λ t. SeriesFit contents i t s.1) h None (Series s.0) e
        (λ t own. let same = eq-eqb s.1.instrument i own in absurd cc)

-- the first two of three questions as one
grouped : {F : Type 0} (A B C : Option F → Type 0) (r : Option F) → Then (Then A B) C r → Then A (Then B C) r
grouped A B C None p = (p.0.0, (p.0.1, p.1))
grouped A B C (Some f) (inl (inl a)) = inl a
grouped A B C (Some f) (inl (inr ab)) = inr (ab.0, inl ab.1)
grouped A B C (Some f) (inr abc) = inr (abc.0.0, inr (abc.0.1, abc.1))

ungrouped : {F : Type 0} (A B C : Option F → Type 0) → Then A (Then B C) None → Then (Then A B) C None
ungrouped A B C p = ((p.0, p.1.0), p.1.1)

-- all streams
pub streams_edge : (contents : Contents) (i : ℕ) (First : ℕ → Option Limit → Type 0) (h : Headroom) (streams : List (ℕ × Stream)) → IsEdge First h.most h.limit
    → IsEdge (λ t. Then (First t) (Each (StreamFinds contents i t) streams)) (fold (tightened_at contents i) h streams).most (fold (tightened_at contents i) h streams).limit
streams_edge contents i First h [] e =
    same_edge First (λ t. Then (First t) (Each (StreamFinds contents i t) [])) h.most h.limit there (λ t p. p.0) e
  where
    there : (t : ℕ) (r : Option Limit) → First t r → Then (First t) (Each (StreamFinds contents i t) []) r
    there t None p = (p, refl)
    there t (Some f) p = inl p
streams_edge contents i First h (s ∷ streams) e =
    let more = λ (t : ℕ). Then (First t) (StreamFinds contents i t s) in
    same_edge (λ t. Then (more t) (Each (StreamFinds contents i t) streams)) (λ t. Then (First t) (Each (StreamFinds contents i t) (s ∷ streams)))
    (fold (tightened_at contents i) (tightened_at contents i h s) streams).most (fold (tightened_at contents i) (tightened_at contents i h s) streams).limit
    (λ t r p. grouped (First t) (StreamFinds contents i t s) (Each (StreamFinds contents i t) streams) r p)
    (λ t p. ungrouped (First t) (StreamFinds contents i t s) (Each (StreamFinds contents i t) streams) p)
    (streams_edge contents i more (tightened_at contents i h s) streams (stream_edge contents i First h s e))

-- three questions after a first one
pub four_grouped : {F : Type 0} (A B C D : ℕ → Option F → Type 0) (most : ℕ) (fault : F) → IsEdge (λ t. Then (Then (Then (A t) (B t)) (C t)) (D t)) most fault
    → IsEdge (λ t. Then (A t) (Then (B t) (Then (C t) (D t)))) most fault
four_grouped {F = F} A B C D most fault e =
    same_edge (λ t. Then (Then (Then (A t) (B t)) (C t)) (D t)) (λ t. Then (A t) (Then (B t) (Then (C t) (D t)))) most fault there (λ t p. (((p.0, p.1.0), p.1.1.0), p.1.1.1)) e
  where
    there : (t : ℕ) (r : Option F) → Then (Then (Then (A t) (B t)) (C t)) (D t) r → Then (A t) (Then (B t) (Then (C t) (D t))) r
    there t None p = (p.0.0.0, (p.0.0.1, (p.0.1, p.1)))
    there t (Some f) (inl (inl (inl a))) = inl a
    there t (Some f) (inl (inl (inr ab))) = inr (ab.0, inl ab.1)
    there t (Some f) (inl (inr abc)) = inr (abc.0.0, inr (abc.0.1, inl abc.1))
    there t (Some f) (inr abcd) = inr (abcd.0.0.0, inr (abcd.0.0.1, inr (abcd.0.1, abcd.1)))
