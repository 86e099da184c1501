-- the page of the lines that are kept is handed on
use Rattle.std.proofs.Common.{◌≡◌, ◌++◌, ◌∙◌, inl, List, ℕ, Ok, Err, refl, subst}
use Rattle.std.specs.List.{flat_map}
use Rattle.metric_exposition.specs.Pages.{end_text}
use Rattle.metric_exposition.specs.Sections.{gathered}
use Rattle.metric_outlets.proofs.page_exporter.PageExporter.hand_on.Goals as goal

pub returns-in-Ok-clause-handed : goal.returns-in-Ok-clause-handed
returns-in-Ok-clause-handed g c =
    let page : c.as_slice-3.result.now ≡ c.self.inside.target ++ gathered (flat_map (λ lines. lines) c.self.inside.lines.items) ++ end_text c.self.inside.dialect
    = rw (← c.as_slice.ensures, ← c.as_slice-2.ensures.value) (c.as_slice-3.ensures.value ∙ c.in_ok-fill_page.ensures) in
    let P : List ℕ → Type 0 = λ text. g.P.Pages.replaces c.self.inside.pages c.replace.new.self text (Ok tt) in
    rw (← c.self.view_is)
    (inl (record { told = Ok tt; call = subst P page c.in-Ok.ensures; passed = refl; counted = refl }))

pub returns-in-Err-clause-handed : goal.returns-in-Err-clause-handed
returns-in-Err-clause-handed g c =
    let page : c.as_slice-3.result.now ≡ c.self.inside.target ++ gathered (flat_map (λ lines. lines) c.self.inside.lines.items) ++ end_text c.self.inside.dialect
    = rw (← c.as_slice.ensures, ← c.as_slice-2.ensures.value) (c.as_slice-3.ensures.value ∙ c.in_ok-fill_page.ensures) in
    let P : List ℕ → Type 0 = λ text. g.P.Pages.replaces c.self.inside.pages c.replace.new.self text (Err c.in-Err.field-0) in
    rw (← c.self.view_is)
    (inl (record {
      told = Err c.in-Err.field-0;
      call = subst P page c.in-Err.ensures;
      passed = refl;
      counted = c.saturating_add-self-inside.ensures;
    }))
