-- one reader more
use Rattle.std.proofs.Common.{◌≡◌, ◌∙◌, ◌++◌, ℕ, ap, arith, length}
use Rattle.std.specs.List.{flat_map, range_with_len}
use Rattle.metric_resolve.proofs.Numbers.{flat_map_turn}
use Rattle.wormweekly_commands.specs.Exposures.{told_exposures}
use Rattle.wormweekly_commands.proofs.exposures.add_outlet.Goals as goal

pub loop-reader-preserved : goal.loop-reader-preserved
loop-reader-preserved c =
    flat_map_turn (told_exposures c.args.asked.words.now c.args.asked.outlet c.args.catalogue.now c.args.config.now c.args.streams.now) c.loop-reader.reader c.args.found.now.items c.loop-reader.found.items c.add_told.new.found.items
    c.loop-reader.invariant c.in_ok-add_told.ensures

pub returns : goal.returns
returns c =
    let config = c.args.config.now in
    let all : c.loop-reader.reader ≡ length config.readers = omega (arith, ap length c.readers.ensures.readers) in
    c.loop-reader.invariant
    ∙ ap (λ (n : ℕ). c.args.found.now.items ++ flat_map (told_exposures c.args.asked.words.now c.args.asked.outlet c.args.catalogue.now c.args.config.now c.args.streams.now) (range_with_len 0 n)) all
