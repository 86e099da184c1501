-- What one lane reports is gathered.
use Rattle.std.proofs.Common.{◌≡◌, ℕ, sym, ap, subst, ◌∙◌, arith}
use Rattle.std.specs.Prelude.{slice_index, slice_index_or, if◌then◌else◌}
use Rattle.metric_history.specs.Journals.{Standing}
use Rattle.metric_core.specs.BudgetLaws.{kept_journal}
use Rattle.metric_core.specs.Cells.{CellKept, CellValue}
use Rattle.metric_core.specs.CellAnswers.{ReportsBatch}
use Rattle.metric_facts.specs.Facts.{is_delta}
use Rattle.metric_history.specs.declared.batch.Batch.{Batch}
use Rattle.metric_lanes.specs.Gathering.{Gathers, lane_of}
use Rattle.metric_lanes.specs.declared.gathered.Asked.{Asked}

pub lane_gathers : {B : Type 0} (stands : B → Standing) (c : CellValue B) (asked : Asked) (told : Batch) → CellKept stands c → c.start ≡ asked.start
    → ReportsBatch stands c asked.reader asked.now told → Gathers c.facts (lane_of c asked told)
lane_gathers stands c asked told k began reports =
    let is = reports k.journal k.known in
    let marked = ap (λ (b : Batch). b.mark) is in
    record {
      continues = record {
        plan = ap (λ (b : Batch). b.plan) is;
        reader = ap (λ (b : Batch). b.reader) is;
        instrument = ap (λ (b : Batch). b.instrument) is;
        from = ap (λ (b : Batch). b.from) is;
        mark = omega (arith, k.past asked.reader, k.known.counted, marked);
        start =
            ap (λ (b : Batch). b.start) is
            ∙ ap (λ (n : ℕ). if is_delta c.facts asked.reader then slice_index_or c.times asked.reader c.start else n) began;
      };
      journal = record {
        journal = k.journal;
        admitted = kept_journal stands c k;
        counted = sym marked;
        streams = ap (λ (b : Batch). b.streams) is;
      };
      time = ap (λ (b : Batch). b.time) is;
    }

-- the same, where these numbers were read of it
pub read_gathers : {B : Type 0} (stands : B → Standing) (c d : CellValue B) (asked : Asked) (told : Batch) (m t : ℕ) → CellKept stands c → c.start ≡ asked.start
    → ReportsBatch stands c asked.reader asked.now told → d ≡ c → m ≡ slice_index d.marks asked.reader → t ≡ slice_index_or d.times asked.reader d.start
    → Gathers c.facts (record { asked = asked; last = record { mark = m; time = t }; batch = told })
read_gathers {B} stands c d asked told m t k began reports same mark time =
    subst (λ (n : ℕ). Gathers c.facts (record { asked = asked; last = record { mark = n; time = t }; batch = told }))
    (sym (mark ∙ ap (λ (x : CellValue B). slice_index x.marks asked.reader) same))
    (subst (λ (n : ℕ). Gathers c.facts (record { asked = asked; last = record { mark = slice_index c.marks asked.reader; time = n }; batch = told }))
    (sym (time ∙ ap (λ (x : CellValue B). slice_index_or x.times asked.reader x.start) same))
    (lane_gathers stands c asked told k began reports))
