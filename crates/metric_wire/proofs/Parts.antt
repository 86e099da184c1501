-- A block whose bytes stand in two places.
use Rattle.std.proofs.Common.{◌≡◌, ℕ, ◌+◌, List, ◌++◌, refl, length, append_assoc}
use Rattle.std.proofs.lemmas.List.{length-append}
use Rattle.metric_wire.specs.Wire.{block, block_head, mark, varint}

pub block_of_two : (before first second : List ℕ) (field : ℕ)
    → ((before ++ block_head field (length first + length second)) ++ first) ++ second
    ≡ before ++ block field (first ++ second)
unfolding block block_head
block_of_two before first second field =
    let head : List ℕ = mark field 2 ++ varint (length first + length second) in
    rw (
      length-append first second,
      append_assoc (before ++ head) first second,
      append_assoc before head (first ++ second),
      append_assoc (mark field 2) (varint (length first + length second)) (first ++ second),
    ) refl
