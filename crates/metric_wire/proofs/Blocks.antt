-- What a block is read as.
use Rattle.std.proofs.Common.{◌≡◌, ℕ, ◌+◌, ◌*◌, ◌/◌, ◌%◌, ◌^◌, ◌<◌, List, ◌++◌, Some, refl, length, arith, ap, append_assoc, true, nat_le, ◌==◌}
use Rattle.std.proofs.lemmas.List.{drop_at, length-append, take_at}
use Rattle.std.proofs.lemmas.Bool.Decides.{nat_tests}
use Rattle.metric_wire.specs.Wire.{block, mark, varint}
use Rattle.metric_wire.specs.Reading.{block_in, counted_in, taken}
use Rattle.metric_wire.proofs.Varints.{varint_read}

enough : (bytes rest : List ℕ) → nat_le (length bytes) (length (bytes ++ rest)) ≡ true
enough bytes rest = rw (length-append bytes rest) (grind (arith, nat_tests))

-- as many bytes as a block has, and what follows it
taken_all : (bytes rest : List ℕ) → taken (length bytes) (bytes ++ rest) ≡ Some (bytes, rest)
taken_all bytes rest =
    rw (enough bytes rest, take_at bytes rest (length bytes) refl, drop_at bytes rest (length bytes) refl) refl

mark_form : (field : ℕ) → ((field * 8 + 2) % 8 == 2) ≡ true
mark_form field = grind (arith, nat_tests)

mark_field : (field : ℕ) → (field * 8 + 2) / 8 ≡ field
mark_field field = omega arith

counted_all : (bytes rest : List ℕ) → length bytes < 2 ^ 64
    → counted_in (varint (length bytes) ++ (bytes ++ rest)) ≡ Some (bytes, rest)
counted_all bytes rest h = rw (varint_read (length bytes) (bytes ++ rest) h) (taken_all bytes rest)

pub block_read : (field : ℕ) (bytes rest : List ℕ) → field < 2 ^ 32
    → length bytes < 2 ^ 64 → block_in (block field bytes ++ rest) ≡ Some (field, bytes, rest)
unfolding block block_in mark
block_read field bytes rest few h =
    rw (
      append_assoc (varint (field * 8 + 2)) (varint (length bytes) ++ bytes) rest,
      append_assoc (varint (length bytes)) bytes rest,
      varint_read (field * 8 + 2) (varint (length bytes) ++ (bytes ++ rest)) (omega arith),
    )
    (rw (mark_form field, counted_all bytes rest h) (ap (λ (f : ℕ). Some (f, bytes, rest)) (mark_field field)))
