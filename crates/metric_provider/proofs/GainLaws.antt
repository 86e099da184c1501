-- Recordings in a row.
use Rattle.std.proofs.Common.{◌≡◌, ◌<◌, ◌≤◌, ℕ, ℤ, ◌+◌, List, [], ◌∷◌, ◌++◌, get_or, length, map, take, refl, sym, ap, subst, ◌∙◌}
use Rattle.std.proofs.lemmas.List.{append-nil, append_assoc, map_more, take_all, take_more}
use Rattle.metric_history.specs.Journals.{Standing}
use Rattle.metric_core.specs.CellAnswers.{GainsEntry}
use Rattle.metric_core.specs.Cells.{CellStands, CellValue}
use Rattle.metric_history.specs.declared.entry.Entry.{Entry}
use Rattle.metric_seat.specs.declared.keys.Measurement.{Measurement}
use Rattle.metric_provider.specs.Gains.{GainsAll, entry_by}
use Rattle.metric_seat.specs.KeyRecordings.{told_each}
use Rattle.metric_slot.specs.declared.told.Told.{Told}
use Rattle.metric_slot.specs.Tellings.{told_more}

pub gained_none : {B : Type 0} (stands : B → Standing) (c : CellValue B) (by : ℕ) → GainsAll stands c c by []
gained_none {B} stands c by = λ journal standing. subst (λ (entries : List Entry). CellStands stands c entries) (sym (append-nil journal)) standing

pub gained_more : {B : Type 0} (stands : B → Standing) (old mid new : CellValue B) (by n : ℕ) (all : List Measurement) (d : Measurement) → n < length all
    → GainsAll stands old mid by (take n all) → GainsEntry stands mid new (entry_by by (get_or all n d)) → GainsAll stands old new by (take (n + 1) all)
gained_more {B} stands old mid new by n all d below before gains = λ journal standing.
    subst (λ (entries : List Entry). CellStands stands new entries)
    (append_assoc journal (map (entry_by by) (take n all)) (entry_by by (get_or all n d) ∷ [])
    ∙ ap (λ (entries : List Entry). journal ++ entries) (sym (map_more (entry_by by) all n d below)))
    (gains (journal ++ map (entry_by by) (take n all)) (before journal standing))

pub gained_end : {B : Type 0} (stands : B → Standing) (old new : CellValue B) (by n : ℕ) (all : List Measurement) → length all ≤ n
    → GainsAll stands old new by (take n all) → GainsAll stands old new by all
gained_end {B} stands old new by n all past gains = subst (λ (made : List Measurement). GainsAll stands old new by made) (take_all n all past) gains

pub gained_as : {B : Type 0} (stands : B → Standing) (old mid new : CellValue B) (by : ℕ) (made : List Measurement) → new ≡ mid
    → GainsAll stands old mid by made → GainsAll stands old new by made
gained_as {B} stands old mid new by made is gains = subst (λ (c : CellValue B). GainsAll stands old c by made) (sym is) gains

-- ---- what a recorder was told

told_each_more : (told : Told) (lo : ℤ) (all : List Measurement) (one : Measurement) → told_each told lo (all ++ one ∷ []) ≡ told_more (told_each told lo all) lo one.value
told_each_more told lo [] one = refl
told_each_more told lo (x ∷ all) one = told_each_more (told_more told lo x.value) lo all one

-- one step more
pub told_step : (first before after : Told) (lo : ℤ) (n : ℕ) (all : List Measurement) (d : Measurement) → n < length all → before ≡ told_each first lo (take n all)
    → after ≡ told_more before lo (get_or all n d).value → after ≡ told_each first lo (take (n + 1) all)
told_step first before after lo n all d below far now =
    let one : Measurement = get_or all n d in
    let more : take (n + 1) all ≡ take n all ++ one ∷ [] = take_more all n d below in
    now ∙ ap (λ (t : Told). told_more t lo one.value) far ∙ sym (told_each_more first lo (take n all) one) ∙ sym (ap (λ (some : List Measurement). told_each first lo some) more)

pub told_end : (first last : Told) (lo : ℤ) (n : ℕ) (all : List Measurement) → length all ≤ n → last ≡ told_each first lo (take n all) → last ≡ told_each first lo all
told_end first last lo n all end far = far ∙ ap (λ (some : List Measurement). told_each first lo some) (take_all n all end)
