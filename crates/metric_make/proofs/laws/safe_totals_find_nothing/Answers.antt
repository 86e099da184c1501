-- each number fits
use Rattle.std.proofs.Common.{IsTrue, Option, None, sym, subst}
use Rattle.metric_contents.specs.declared.contents.Instrument.{Instrument}
use Rattle.metric_bounds.specs.Amounts.{total_of}
use Rattle.metric_bounds.specs.Finding.{WhereThere}
use Rattle.metric_bounds.specs.MostLaws.{safe_within}
use Rattle.metric_bounds.specs.Sums.{is_summed}
use Rattle.metric_make.specs.Finding.{OwnFinds}
use Rattle.metric_make.proofs.laws.safe_totals_find_nothing.Goals as goal

pub returns : goal.returns
returns c = λ contents streams number instrument at ordered few plain.
    let total = total_of contents number in
    let summed = IsTrue (is_summed streams number) in
    let safe = safe_within total instrument ordered few in
    subst (λ (o : Option Instrument). WhereThere (OwnFinds number total summed) o None) (sym at)
    (safe.counts, (safe.amounts, (λ (s : summed). safe.low (plain s), λ (s : summed). safe.high (plain s))))
