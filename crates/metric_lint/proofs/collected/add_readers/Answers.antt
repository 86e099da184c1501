-- one reader more
use Rattle.std.proofs.Common.{◌≡◌, ℕ, ◌++◌, ap, ◌∙◌, arith}
use Rattle.std.specs.List.{flat_map, range_with_len}
use Rattle.metric_lint.specs.Collected.{reader_remarks}
use Rattle.metric_resolve.proofs.Numbers.{flat_map_turn}
use Rattle.metric_lint.proofs.collected.add_readers.Goals as goal

pub loop-reader-preserved : goal.loop-reader-preserved
loop-reader-preserved c =
    flat_map_turn (reader_remarks c.args.has_instruments c.args.streams.now) c.loop-reader.reader c.args.remarks.now c.loop-reader.remarks c.add_reader.new.remarks
    c.loop-reader.invariant c.in_ok-add_reader.ensures

pub returns : goal.returns
returns c =
    let all : c.loop-reader.reader ≡ c.args.readers = omega arith in
    c.loop-reader.invariant
    ∙ ap (λ (n : ℕ). c.args.remarks.now ++ flat_map (reader_remarks c.args.has_instruments c.args.streams.now) (range_with_len 0 n)) all
