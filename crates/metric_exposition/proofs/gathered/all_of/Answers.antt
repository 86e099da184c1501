-- the sections of all batches
use Rattle.std.proofs.Common.{List, ap, ◌∙◌, arith}
use Rattle.std.specs.List.{flat_map}
use Rattle.std.proofs.lemmas.List.{take_all}
use Rattle.metric_exposition.specs.declared.section.Section.{Section}
use Rattle.metric_exposition.proofs.gathered.all_of.Goals as goal

pub returns : goal.returns
returns c =
    let batches = c.args.batches.now in
    c.loop-sections.invariant ∙ ap (flat_map (λ (sections : List Section). sections)) (take_all c.loop-sections.sections-index batches (omega arith))
