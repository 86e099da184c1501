-- No recorder has a budget for an instrument of which no table of recorders says one.
use Rattle.std.proofs.Common.{◌≡◌, ℕ, suc, ◌+◌, All, Bool, true, false, cond, not, ◌||◌, ◌==◌, List, [], ◌∷◌, ◌++◌, length, Option, Some, None, is_some, Ok, refl, sym, ap, subst, ◌∙◌, arith, codes, nat_le, unwrap_or, eq-eqb, true≢false}
use Rattle.std.proofs.lemmas.Bool.{or_parts}
use Rattle.std.proofs.lemmas.Bool.Decides.{nat_tests}
use Rattle.std.specs.List.{enumerate_from, find, flat_map, list_any}
use Rattle.std.specs.Prelude.{slice_get}
use Rattle.toml.specs.Data.{Data, table as table_data, Members, get_member}
use Rattle.metric_base.specs.Steps.{each, in_turn}
use Rattle.metric_base.specs.StepLaws.{after_ok, ok_is, require_ok}
use Rattle.metric_table.specs.Fields.{table_of}
use Rattle.metric_contents.specs.Budgets.{amount_in, amount_of, is_budget}
use Rattle.metric_contents.specs.declared.contents.Budget.{Budget}
use Rattle.metric_contents.specs.declared.contents.Recorder.{Recorder}
use Rattle.metric_catalogue.specs.declared.named.Named.{Named}
use Rattle.metric_catalogue.specs.declared.seats.Seated.{Seated}
use Rattle.metric_catalogue.specs.declared.fault.CatalogueDefect.TheVariants.{DuplicateRecorder, TooMany}
use Rattle.metric_catalogue.specs.declared.fault.CatalogueFault.TheVariants.{At}
use Rattle.metric_catalogue.specs.declared.fault.CataloguePlace.TheVariants as place
use Rattle.metric_catalogue.specs.declared.fault.CatalogueSpot.{CatalogueSpot}
use Rattle.metric_catalogue.specs.declared.fault.CatalogueField.TheVariants as fields
use Rattle.metric_catalogue.specs.Faults.{field_at}
use Rattle.metric_catalogue.specs.Recorders.{is_recorder}
use Rattle.metric_catalogue.specs.Seats.{amount_for, amount_or, amounts_tried, budget_at, budgets_of, budgets_within, count_within, names_tried, nothing_seated, seat_name, seat_names, seat_of, seats_declared, with_seats}
use Rattle.metric_catalogue.specs.Texts.{label_of}
use Rattle.metric_catalogue.specs.Unsaid.{says, says_within}
use Rattle.metric_catalogue.proofs.SoundLists.{IsNext, each_sound}

-- what is not there is none
not_there : (o : Option Data) → is_some o ≡ false → o ≡ None
not_there None e = refl
not_there (Some d) e = absurd cc

-- a table of budgets that says none for an instrument has no amount for it
silent_amount : (budget : Members) (one : Named) → says_within one.name one.path (Some (table_data budget)) ≡ false → amount_for budget one ≡ 0
silent_amount budget one quiet =
    let (first, others) = or_parts (is_some (get_member one.name budget)) (is_some (get_member one.path budget) || is_some (get_member (codes "*") budget)) quiet in
    let (second, third) = or_parts (is_some (get_member one.path budget)) (is_some (get_member (codes "*") budget)) others in
    let by_name = not_there (get_member one.name budget) first in
    let by_path = not_there (get_member one.path budget) second in
    let by_all = not_there (get_member (codes "*") budget) third in
    ap (λ (o : Option Data). amount_or o (amount_or (get_member one.path budget) (amount_or (get_member (codes "*") budget) 0))) by_name
    ∙ ap (λ (o : Option Data). amount_or o (amount_or (get_member (codes "*") budget) 0)) by_path
    ∙ ap (λ (o : Option Data). amount_or o 0) by_all

-- an instrument without an amount has no budget among those from a number on
no_budget : (budget : Members) (i n : ℕ) (named : List Named) → ((k : ℕ) (one : Named) → n + k ≡ i → slice_get named k ≡ Some one → amount_for budget one ≡ 0)
    → find (is_budget i) (flat_map (budget_at budget) (enumerate_from n named)) ≡ None
no_budget budget i n [] silent = refl
no_budget budget i n (one ∷ named) silent =
    by (amount_for budget one == 0) refl (n == i) refl (no_budget budget i (n + 1) named (λ (k : ℕ) (x : Named) (at : n + 1 + k ≡ i) (there : slice_get named k ≡ Some x). silent (suc k) x (omega (arith, at)) there))
  where
    later : List Budget
    later = flat_map (budget_at budget) (enumerate_from (n + 1) named)

    next : Budget
    next = record { instrument = n; amount = amount_for budget one }

    by : (nothing : Bool) → (amount_for budget one == 0) ≡ nothing → (own : Bool) → (n == i) ≡ own → find (is_budget i) later ≡ None
        → find (is_budget i) (cond nothing [] (next ∷ []) ++ later) ≡ None
    by true e own at rest = rest
    by false e true at rest =
        let same : n ≡ i = grind (arith, nat_tests) in
        let zero_amount = silent 0 one (omega (arith, same)) refl in
        absurd (true≢false (sym (eq-eqb (amount_for budget one) 0 zero_amount) ∙ e))
    by false e false at rest = ap (λ (b : Bool). cond b (Some next) (find (is_budget i) later)) at ∙ rest

-- the budgets of recorders whose table says none for the instrument of a number
silent_budgets : (at : CatalogueSpot) (named : List Named) (i : ℕ) (one : Named) → slice_get named i ≡ Some one → (d : Option Data) (budgets : List Budget) → says_within one.name one.path d ≡ false
    → budgets_within at named d ≡ Ok budgets → amount_in (find (is_budget i) budgets) ≡ 0
unfolding budgets_of table_of
silent_budgets at named i one here None budgets quiet e = ap (λ (bs : List Budget). amount_in (find (is_budget i) bs)) (sym (ok_is [] budgets (Ok []) refl e))
silent_budgets at named i one here (Some (table_data budget)) budgets quiet e0 =
    after_ok (names_tried at named budget) _ budgets e0 (λ _ _ e1.
    after_ok (amounts_tried at named budget) _ budgets e1 (λ _ _ e2.
    let made = flat_map (budget_at budget) (enumerate_from 0 named) in
    let amount = silent_amount budget one quiet in
    let none = no_budget budget i 0 named (λ (k : ℕ) (x : Named) (is : 0 + k ≡ i) (there : slice_get named k ≡ Some x).
    let same_number : k ≡ i = omega (arith, is) in
    let there_too : slice_get named i ≡ Some x = subst (λ (n : ℕ). slice_get named n ≡ Some x) same_number there in
    let same : one ≡ x = cc in
    subst (λ (y : Named). amount_for budget y ≡ 0) same amount) in
    ap (λ (bs : List Budget). amount_in (find (is_budget i) bs)) (sym (ok_is made budgets (Ok made) refl e2)) ∙ ap amount_in none))
silent_budgets at named i one here (Some _) budgets quiet e = absurd cc

-- the recorder has no budget for the instrument of a number
abbrev IsSilent : ℕ → Recorder → Type 0
IsSilent i recorder = amount_of recorder i ≡ 0

seat_silent : (i : ℕ) (at : CatalogueSpot) (budgets : List Budget) → amount_in (find (is_budget i) budgets) ≡ 0 → (before : List Recorder) (name : List ℕ) (recorder : Recorder)
    → seat_of at budgets before name ≡ Ok recorder → IsNext (IsSilent i) (λ _ _. Unit {0}) before recorder
unfolding seat_of
seat_silent i at budgets none before name recorder e0 =
    after_ok (label_of at name) _ recorder e0 (λ short _ e1.
    let (_, e2) = require_ok (not (list_any (is_recorder short) before)) (At DuplicateRecorder at) _ recorder e1 in
    let read : Recorder = record { name = short; budgets = budgets } in
    let silent : IsSilent i read = none in
    record { sound = subst (IsSilent i) (ok_is read recorder (Ok read) refl e2) silent; apart = λ k d within. tt })

seats_silent : (named : List Named) (i : ℕ) (one : Named) → slice_get named i ≡ Some one → (before : Seated) (table : Members) (after : Seated) → with_seats named before table ≡ Ok after
    → says one.name one.path table ≡ false → All (IsSilent i) before.recorders → All (IsSilent i) after.recorders
unfolding with_seats
seats_silent named i one here before table after e0 quiet plain =
    let at = place.Recorder before.tables in
    after_ok (seat_name at table) _ after e0 (λ name _ e1.
    after_ok (count_within (field_at at fields.Count) (get_member (codes "count") table)) _ after e1 (λ count _ e2.
    after_ok (budgets_within (field_at at fields.Budget) named (get_member (codes "budget") table)) _ after e2 (λ budgets budgeted e3.
    let (_, e4) = require_ok (nat_le (length before.recorders + unwrap_or count 1) 64) (At TooMany (field_at place.Top fields.Recorder)) _ after e3 in
    after_ok (each (seat_of (field_at at fields.Name) budgets) before.recorders (seat_names name count)) _ after e4 (λ recorders seated e5.
    let none = silent_budgets (field_at at fields.Budget) named i one here (get_member (codes "budget") table) budgets quiet budgeted in
    let all = (each_sound (IsSilent i) (λ _ _. Unit {0}) (seat_of (field_at at fields.Name) budgets) (seat_silent i (field_at at fields.Name) budgets none)
    before.recorders (seat_names name count) recorders seated (record { each = plain; apart = λ j l d first within. tt })).each in
    let made : Seated = record { tables = before.tables + 1; recorders = recorders } in
    subst (λ (s : Seated). All (IsSilent i) s.recorders) (ok_is made after (Ok made) refl e5) all))))

tables_silent : (named : List Named) (i : ℕ) (one : Named) → slice_get named i ≡ Some one → (before : Seated) (tables : List Members) (after : Seated) → in_turn (with_seats named) before tables ≡ Ok after
    → list_any (says one.name one.path) tables ≡ false → All (IsSilent i) before.recorders → All (IsSilent i) after.recorders
tables_silent named i one here before [] after e quiet plain = subst (λ (s : Seated). All (IsSilent i) s.recorders) (ok_is before after (Ok before) refl e) plain
tables_silent named i one here before (table ∷ tables) after e quiet plain =
    let (first, others) = or_parts (says one.name one.path table) (list_any (says one.name one.path) tables) quiet in
    after_ok (with_seats named before table) _ after e (λ next made rest.
    tables_silent named i one here next tables after rest others (seats_silent named i one here before table next made first plain))

pub all_silent : (named : List Named) (i : ℕ) (one : Named) → slice_get named i ≡ Some one → (tables : List Members) (recorders : List Recorder) → seats_declared named tables ≡ Ok recorders
    → list_any (says one.name one.path) tables ≡ false → All (IsSilent i) recorders
unfolding seats_declared
all_silent named i one here tables recorders e0 quiet =
    after_ok (in_turn (with_seats named) nothing_seated tables) _ recorders e0 (λ seated sat e1.
    let all = tables_silent named i one here nothing_seated tables seated sat quiet (λ k d within. absurd (omega arith)) in
    subst (All (IsSilent i)) (ok_is seated.recorders recorders (Ok seated.recorders) refl e1) all)
