-- What is closed is a block.
use Rattle.std.proofs.Common.{◌≡◌, ℕ, ◌<◌, suc, List, [], ◌∷◌, ◌++◌, refl, length, append_assoc, arith}
use Rattle.std.proofs.lemmas.List.{drop_at, length-append, take_at}
use Rattle.metric_wire.specs.Wire.{block, mark, varint}
use Rattle.metric_wire.specs.Closing.{closed}

after_mark : (front : List ℕ) (place : ℕ) → length front ≡ place → length (front ++ 0 ∷ []) ≡ suc place
after_mark front place h = rw (length-append front (0 ∷ []), h) (omega arith)

pub block_closed : (before content : List ℕ) (field place : ℕ) → length (before ++ mark field 2) ≡ place
    → closed place (((before ++ mark field 2) ++ 0 ∷ []) ++ content) ≡ before ++ block field content
unfolding closed block
block_closed before content field place h =
    let front : List ℕ = before ++ mark field 2 in
    rw (
      drop_at (front ++ 0 ∷ []) content (suc place) (after_mark front place h),
      append_assoc front (0 ∷ []) content,
      take_at front (0 ∷ [] ++ content) place h,
      append_assoc before (mark field 2) (varint (length content) ++ content),
    ) refl

pub place_stands : (before content : List ℕ) (field place : ℕ) → length (before ++ mark field 2) ≡ place
    → place < length (((before ++ mark field 2) ++ 0 ∷ []) ++ content)
place_stands before content field place h =
    let front : List ℕ = before ++ mark field 2 in
    rw (length-append (front ++ 0 ∷ []) content, after_mark front place h) (omega arith)

pub ruleset closing = (block_closed, place_stands)
