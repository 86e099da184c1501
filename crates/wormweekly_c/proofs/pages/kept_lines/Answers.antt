-- the lines of the sections are those of the batches
use Rattle.std.proofs.Common.{◌++◌, ◌∙◌, List, ap, ℕ}
use Rattle.std.specs.List.{flat_map}
use Rattle.std.proofs.lemmas.List.Folds.{flat_map-map}
use Rattle.metric_exposition.specs.Sections.{batch_sections, gathered}
use Rattle.metric_exposition.specs.declared.section.Section.{Section}
use Rattle.wormweekly_c.proofs.pages.kept_lines.Goals as goal

pub returns : goal.returns
returns c =
    let own = c.args.own.now in
    let sections_of = batch_sections c.args.dialect own.plan.facts.contents own.plan.streams in
    c.in_ok-push_gathered.ensures
    ∙ ap (λ (before : List ℕ). before ++ gathered (flat_map (λ (sections : List Section). sections) c.as_slice.result.now)) c.new-out.ensures.items
    ∙ ap (λ (all : List (List Section)). gathered (flat_map (λ (sections : List Section). sections) all)) (c.as_slice.ensures.value ∙ c.in_ok-sections.ensures)
    ∙ ap gathered (flat_map-map (λ (sections : List Section). sections) sections_of own.kept)
