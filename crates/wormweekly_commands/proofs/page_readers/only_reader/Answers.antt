-- one reader more
use Rattle.std.proofs.Common.{◌≡◌, ◌∙◌, ℕ, Result, ap, arith, cond, sym}
use Rattle.std.specs.Prelude.{filter}
use Rattle.std.specs.List.{range_with_len}
use Rattle.metric_exposure.specs.declared.outlet.Outlet.TheVariants.{Prometheus}
use Rattle.wormweekly_commands.specs.Exposures.{has_served}
use Rattle.wormweekly_commands.specs.PageReaders.{only_reader, with_served}
use Rattle.wormweekly_commands.specs.declared.fault.PageFault.{PageFault}
use Rattle.wormweekly_commands.proofs.OnlyReaders.{one_turn}
use Rattle.wormweekly_commands.proofs.page_readers.only_reader.Goals as goal

pub loop-reader-preserved : goal.loop-reader-preserved
loop-reader-preserved c =
    let served = has_served Prometheus c.args.streams.now in
    let n = c.loop-reader.reader in
    c.with_next-found.ensures
    ∙ ap (λ (found : Result ℕ PageFault). cond (served n) (with_served found n) found) c.loop-reader.invariant
    ∙ sym (one_turn served n)

pub returns : goal.returns
returns c =
    let all : c.loop-reader.reader ≡ c.args.count = omega arith in
    c.loop-reader.invariant ∙ ap (λ (n : ℕ). only_reader (filter (has_served Prometheus c.args.streams.now) (range_with_len 0 n))) all
