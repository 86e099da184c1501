-- the lines of the sections are those of the batches
use Rattle.std.proofs.Common.{◌≡◌, ◌++◌, ◌∙◌, List, [], ◌∷◌, Option, Some, None, OnOk, ap, refl, subst}
use Rattle.std.specs.List.{flat_map}
use Rattle.std.specs.Option.{option_map_or, option_to_list}
use Rattle.std.proofs.lemmas.List.Folds.{flat_map-map}
use Rattle.metric_exposition.specs.Sections.{batch_sections, gathered}
use Rattle.metric_exposition.specs.declared.section.Section.{Section}
use Rattle.wormweekly_commands.specs.Paging.{sections_of}
use Rattle.wormweekly_commands.proofs.paging.LinesPageEncoding.push_page.Goals as goal

-- where there is no batch, there is nothing
those_there : {A B : Type 0} (f : A → List B) (batches : List (Option A))
    → flat_map (λ batch. option_map_or f batch []) batches ≡ flat_map f (flat_map option_to_list batches)
those_there f [] = refl
those_there f (None ∷ batches) = those_there f batches
those_there f (Some batch ∷ batches) = ap (λ others. f batch ++ others) (those_there f batches)

pub returns : goal.returns
returns c =
    let dialect = c.args.self.now.dialect in
    let plan = c.args.plan.now in
    let batches = c.args.batches.now in
    let is =
    ap (flat_map (λ (sections : List Section). sections)) (c.as_slice.ensures.value ∙ c.in_ok-sections.ensures)
    ∙ flat_map-map (λ (sections : List Section). sections) (sections_of dialect plan) batches
    ∙ those_there (batch_sections dialect plan.facts.contents plan.streams) batches in
    subst (λ (all : List Section). OnOk c.push_gathered.result (c.push_gathered.new.out.items ≡ c.args.out.now.items ++ gathered all)) is c.push_gathered.ensures
