-- Blocks whose length is written when their bytes are.
use Rattle.std.specs.Prelude.{ℕ, suc, List, ◌++◌, length, take, drop}
use Rattle.metric_wire.specs.Wire.{varint}

-- # closed block (protobuf, encoding)
-- Bytes among which one stands for how many follow it, with that number in its place; what began as
-- a block is then one.
unfoldable pub closed : ℕ → List ℕ → List ℕ
closed place bytes =
    take place bytes ++ (varint (length (drop (suc place) bytes)) ++ drop (suc place) bytes)
