-- The pieces rise, so as many begin at the byte or before as stand up to the one that it is of.
use Rattle.std.proofs.Common.{◌≡◌, ℕ, ◌+◌, ◌-◌, ◌^◌, ◌<◌, ◌≤◌, true, false, List, length, min}
use Rattle.std.proofs.Common.{get_or, leb, leb-true, leb-false, sym, ap, ◌∙◌, subst, arith, rules}
use Rattle.std.specs.List.Sorted.{IsPartitionedBy, IsPartitionPoint}
use Rattle.std.proofs.lemmas.List.Sorted.{IsPartitionPoint-from_clause, IsPartitionedBy-leb}
use Rattle.metric_promql.specs.declared.expression.Piece.{Piece}
use Rattle.metric_promql.specs.Places.{IsPieceAt}
use Rattle.metric_promql.proofs.expression.Expression.place_of.Goals as goal

abbrev SplitsAt : ℕ → ℕ → List Piece → Type 0
SplitsAt at count pieces =
    IsPartitionPoint (λ p. leb p.start at ≡ true) (λ p. leb p.start at ≡ false) pieces count

count_from_piece :
    (pieces : List Piece) (at k count : ℕ) (d : Piece) → IsPieceAt pieces at k
    → count ≤ length pieces → SplitsAt at count pieces → count ≡ k + 1
count_from_piece pieces at k count d is within split =
    let here : (get_or pieces k d).start ≤ at = is.1 d in
    let inside : k < length pieces = is.0 in
    let above : count ≤ k → at < (get_or pieces k d).start =
    λ le. leb-false _ _ (split.1 k d le inside) in
    let last : 0 < count → (get_or pieces (count - 1) d).start ≤ at =
    λ lt. leb-true _ _ (split.0 (count - 1) d (omega arith) (omega arith)) in
    let later : k < count - 1 → at < (get_or pieces (count - 1) d).start =
    λ lt. is.2 (count - 1) d lt (omega arith) in
    grind arith

pub returns-in-Some : goal.returns-in-Some
returns-in-Some c = λ k d is.
    let same : c.deref.result.now ≡ c.args.self.now.pieces.items = c.deref.ensures.value in
    let P : List Piece → Type 0 = λ xs. IsPartitionedBy (λ (p : Piece). leb p.start c.args.at) xs in
    let parted = subst P (sym same)
    (IsPartitionedBy-leb (λ (p : Piece). p.start) _ c.args.at c.args.self.now.in_order) in
    let split = IsPartitionPoint-from_clause (λ (p : Piece). leb p.start c.args.at) _ _
    c.partition_point-count.ensures.partitioned parted (λ a r q h. search rules) in
    let count : c.partition_point-count.result ≡ k + 1 =
    count_from_piece _ _ k _ d is (omega (arith, ap length same))
    (subst (SplitsAt c.args.at c.partition_point-count.result) same split) in
    let from : c.saturating_sub.result ≡ k = omega arith in
    let item : c.in-Some.piece.now ≡ get_or c.args.self.now.pieces.items k d =
    c.in-Some.ensures.lookup.4 (omega arith) d
    ∙ ap (λ xs. get_or xs c.saturating_sub.result d) c.deref-2.ensures.value
    ∙ ap (λ n. get_or c.args.self.now.pieces.items n d) from in
    let Q : Piece → Type 0 =
    λ p. c.saturating_add.result ≡ min (p.at + (c.args.at - p.start)) (2 ^ 64 - 1) in
    subst Q item
    (c.saturating_add.ensures
    ∙ ap (λ n. min (c.in-Some.piece.now.at + n) (2 ^ 64 - 1)) c.saturating_sub-in-Some.ensures)
