-- the keys so far
use Rattle.std.proofs.Common.{◌≡◌, map, take, vec_len, vec_capacity}
use Rattle.metric_contents.proofs.repeats.put_keys.Given as goal

abbrev pub invariant-loop-attr : goal.invariant-loop-attr
invariant-loop-attr l = record {
  count : vec_len l.room ≡ l.attr-index;
  keys : map (λ k. k.now) l.room.items ≡ map (λ a. a.key) (take l.attr-index l.attrs);
  room : vec_capacity l.room ≡ vec_capacity l.fn.room;
}
