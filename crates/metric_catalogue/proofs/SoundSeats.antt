-- What tables of recorders by name declare is sound.
use Rattle.std.proofs.Common.{◌≡◌, ◌≢◌, ℕ, ◌+◌, ◌<◌, ◌≤◌, ◌^◌, All, Bool, true, false, cond, not, ◌==◌, List, [], ◌∷◌, ◌++◌, length, Option, Some, None, Ok, refl, sym, subst, arith, codes, nat_le, append_assoc, append-nil, unwrap_or}
use Rattle.std.proofs.lemmas.Bool.Decides.{nat_tests}
use Rattle.std.proofs.lemmas.List.{length-append}
use Rattle.std.proofs.lemmas.List.Elements.{All-push}
use Rattle.std.proofs.lemmas.List.FromFn.{length-map-range_with_len}
use Rattle.std.specs.List.{enumerate_from, flat_map, list_any}
use Rattle.toml.specs.Data.{Data, integer, Members, get_member}
use Rattle.metric_base.specs.Steps.{each, in_turn}
use Rattle.metric_base.specs.StepLaws.{after_ok, in_turn_keeps, ok_is, require_ok}
use Rattle.metric_table.specs.Fields.{table_of}
use Rattle.metric_contents.specs.declared.contents.Budget.{Budget}
use Rattle.metric_contents.specs.declared.contents.Recorder.{Recorder}
use Rattle.metric_catalogue.specs.declared.named.Named.{Named}
use Rattle.metric_catalogue.specs.declared.seats.Seated.{Seated}
use Rattle.metric_catalogue.specs.declared.fault.CatalogueDefect.TheVariants.{DuplicateRecorder, TooMany}
use Rattle.metric_catalogue.specs.declared.fault.CatalogueFault.TheVariants.{At}
use Rattle.metric_catalogue.specs.declared.fault.CataloguePlace.TheVariants as place
use Rattle.metric_catalogue.specs.declared.fault.CatalogueSpot.{CatalogueSpot}
use Rattle.metric_catalogue.specs.declared.fault.CatalogueField.TheVariants as fields
use Rattle.metric_catalogue.specs.Faults.{faults_at, field_at}
use Rattle.metric_catalogue.specs.Recorders.{amount_from, is_recorder}
use Rattle.metric_catalogue.specs.Seats.{amount_for, amount_or, amounts_tried, budget_at, budgets_of, budgets_within, count_within, names_tried, nothing_seated, seat_name, seat_names, seat_of, seats_declared, with_seats}
use Rattle.metric_catalogue.specs.Sound.{IsSoundBudget, IsSoundList, IsSoundRecorder}
use Rattle.metric_catalogue.specs.Texts.{label_of}
use Rattle.metric_catalogue.proofs.SoundInstruments.{amount_made}
use Rattle.metric_catalogue.proofs.SoundKeys.{named_made}
use Rattle.metric_catalogue.proofs.SoundLists.{AreSound, IsNext, apart_by, each_length, each_sound, sound_none, sound_push, texts_apart}

-- budgets for distinct instruments
abbrev AreApart : Budget → Budget → Type 0
AreApart budget other = budget.instrument ≢ other.instrument

abbrev AreBudgets : ℕ → List Budget → Type 0
AreBudgets count budgets = AreSound (IsSoundBudget count) AreApart budgets

-- what a table says is an amount
or_limited : (o : Option Data) (otherwise : ℕ) → otherwise < 2 ^ 63 → amount_or o otherwise < 2 ^ 63
or_limited None otherwise few = few
or_limited (Some (integer z)) otherwise few = by (amount_from z) refl
  where
    by : (o : Option ℕ) → amount_from z ≡ o → unwrap_or o 0 < 2 ^ 63
    by None e = omega arith
    by (Some n) e = amount_made z n e
or_limited (Some _) otherwise few = omega arith

for_limited : (budget : Members) (one : Named) → amount_for budget one < 2 ^ 63
for_limited budget one =
    or_limited (get_member one.name budget) _ (or_limited (get_member one.path budget) _ (or_limited (get_member (codes "*") budget) 0 (omega arith)))

-- budgets below a number, as many as there may be
record AreBelow (count : ℕ) (n : ℕ) (budgets : List Budget) : Type 0 where
  sound : AreBudgets count budgets
  below : All (λ budget. budget.instrument < n) budgets
  few : length budgets ≤ n

-- one more for the next instrument
below_more : (count n amount : ℕ) (done : List Budget) → n < count → amount < 2 ^ 63 → AreBelow count n done
    → AreBelow count (n + 1) (done ++ (record { instrument = n; amount = amount }) ∷ [])
below_more count n amount done known limited all =
    let next : Budget = record { instrument = n; amount = amount } in
    let long = length-append done (next ∷ []) in
    record {
      sound = sound_push (IsSoundBudget count) AreApart done next all.sound (record {
        sound = record { known = known; limited = limited };
        apart = λ k d within same. let low = all.below k d within in omega (arith, low, same);
      });
      below = All-push (λ budget. budget.instrument < n + 1) done next (λ k d within. let low = all.below k d within in omega (arith, low)) (omega arith);
      few = omega (arith, long, all.few);
    }

-- none for the next instrument
below_same : (count n : ℕ) (done : List Budget) → AreBelow count n done → AreBelow count (n + 1) done
below_same count n done all = record {
  sound = all.sound;
  below = λ k d within. let low = all.below k d within in omega (arith, low);
  few = omega (arith, all.few);
}

below_all : (count : ℕ) (budget : Members) (n : ℕ) (named : List Named) (done : List Budget) → n + length named ≤ count → AreBelow count n done
    → AreBelow count (n + length named) (done ++ flat_map (budget_at budget) (enumerate_from n named))
below_all count budget n [] done few all =
    let same : n ≡ n + 0 = omega arith in
    subst (λ (m : ℕ). AreBelow count m (done ++ [])) same (subst (AreBelow count n) (sym (append-nil done)) all)
below_all count budget n (one ∷ named) done few all =
    let same : n + 1 + length named ≡ n + length (one ∷ named) = omega arith in
    subst (λ (m : ℕ). AreBelow count m (done ++ flat_map (budget_at budget) (enumerate_from n (one ∷ named)))) same
    (by (amount_for budget one == 0) (λ (more : List Budget) (so_far : AreBelow count (n + 1) more). below_all count budget (n + 1) named more (omega arith) so_far))
  where
    later : List Budget
    later = flat_map (budget_at budget) (enumerate_from (n + 1) named)

    next : Budget
    next = record { instrument = n; amount = amount_for budget one }

    by : (b : Bool) → ((more : List Budget) → AreBelow count (n + 1) more → AreBelow count (n + 1 + length named) (more ++ later))
        → AreBelow count (n + 1 + length named) (done ++ (cond b [] (next ∷ []) ++ later))
    by true rest = rest done (below_same count n done all)
    by false rest =
        subst (AreBelow count (n + 1 + length named)) (append_assoc done (next ∷ []) later)
        (rest (done ++ next ∷ []) (below_more count n (amount_for budget one) done (omega arith) (for_limited budget one) all))

-- the budgets of a recorder
abbrev AreAllBudgets : ℕ → List Budget → Type 0
AreAllBudgets count budgets = IsSoundList 512 (IsSoundBudget count) AreApart budgets

budgets_made : (at : CatalogueSpot) (named : List Named) (d : Option Data) (budgets : List Budget) → length named ≤ 512 → budgets_within at named d ≡ Ok budgets → AreAllBudgets (length named) budgets
unfolding budgets_of
budgets_made at named None budgets few e =
    let none = sound_none (IsSoundBudget (length named)) AreApart in
    let empty : AreAllBudgets (length named) [] = record { few = omega arith; each = none.each; apart = none.apart } in
    subst (AreAllBudgets (length named)) (ok_is [] budgets (Ok []) refl e) empty
budgets_made at named (Some d) budgets few e0 =
    after_ok (table_of (faults_at at) d) _ budgets e0 (λ budget _ e1.
    after_ok (names_tried at named budget) _ budgets e1 (λ _ _ e2.
    after_ok (amounts_tried at named budget) _ budgets e2 (λ _ _ e3.
    let made = flat_map (budget_at budget) (enumerate_from 0 named) in
    let none : AreBelow (length named) 0 [] = record { sound = sound_none (IsSoundBudget (length named)) AreApart; below = λ k d within. absurd (omega arith); few = omega arith } in
    let all = below_all (length named) budget 0 named [] (omega arith) none in
    let sound : AreAllBudgets (length named) made = record { few = omega (arith, all.few, few); each = all.sound.each; apart = all.sound.apart } in
    subst (AreAllBudgets (length named)) (ok_is made budgets (Ok made) refl e3) sound)))

-- recorders of distinct names
abbrev AreNamesApart : Recorder → Recorder → Type 0
AreNamesApart recorder other = recorder.name ≢ other.name

seat_made : (count : ℕ) (at : CatalogueSpot) (budgets : List Budget) → AreAllBudgets count budgets → (before : List Recorder) (name : List ℕ) (recorder : Recorder)
    → seat_of at budgets before name ≡ Ok recorder → IsNext (IsSoundRecorder count) AreNamesApart before recorder
unfolding seat_of
seat_made count at budgets sound before name recorder e0 =
    after_ok (label_of at name) _ recorder e0 (λ short made e1.
    let (new, e2) = require_ok (not (list_any (is_recorder short) before)) (At DuplicateRecorder at) _ recorder e1 in
    let read : Recorder = record { name = short; budgets = budgets } in
    let next : IsNext (IsSoundRecorder count) AreNamesApart before read = record {
      sound = record { name = named_made at name short made; budgets = sound };
      apart = apart_by AreNamesApart (is_recorder short) before read (λ o h. texts_apart o.name short h) new;
    } in
    subst (IsNext (IsSoundRecorder count) AreNamesApart before) (ok_is read recorder (Ok read) refl e2) next)

names_count : (name : List ℕ) (count : Option ℕ) → length (seat_names name count) ≡ unwrap_or count 1
names_count name None = refl
names_count name (Some count) = length-map-range_with_len _ 0 count

-- the recorders so far
record AreSeated (count : ℕ) (recorders : List Recorder) : Type 0 where
  sound : AreSound (IsSoundRecorder count) AreNamesApart recorders
  few : length recorders ≤ 64

seats_made : (named : List Named) → length named ≤ 512 → (before : Seated) (table : Members) (after : Seated) → with_seats named before table ≡ Ok after
    → AreSeated (length named) before.recorders → AreSeated (length named) after.recorders
unfolding with_seats
seats_made named few before table after e0 so_far =
    let at = place.Recorder before.tables in
    after_ok (seat_name at table) _ after e0 (λ name _ e1.
    after_ok (count_within (field_at at fields.Count) (get_member (codes "count") table)) _ after e1 (λ count _ e2.
    after_ok (budgets_within (field_at at fields.Budget) named (get_member (codes "budget") table)) _ after e2 (λ budgets budgeted e3.
    let (fits, e4) = require_ok (nat_le (length before.recorders + unwrap_or count 1) 64) (At TooMany (field_at place.Top fields.Recorder)) _ after e3 in
    after_ok (each (seat_of (field_at at fields.Name) budgets) before.recorders (seat_names name count)) _ after e4 (λ recorders seated e5.
    let sound = budgets_made (field_at at fields.Budget) named (get_member (codes "budget") table) budgets few budgeted in
    let step = seat_of (field_at at fields.Name) budgets in
    let all = each_sound (IsSoundRecorder (length named)) AreNamesApart step (seat_made (length named) (field_at at fields.Name) budgets sound) before.recorders (seat_names name count) recorders seated so_far.sound in
    let long = each_length step before.recorders (seat_names name count) recorders seated in
    let short = names_count name count in
    let within : length before.recorders + unwrap_or count 1 ≤ 64 = grind (arith, nat_tests) in
    let made : Seated = record { tables = before.tables + 1; recorders = recorders } in
    let is : AreSeated (length named) recorders = record { sound = all; few = omega (arith, long, short, within) } in
    subst (λ (s : Seated). AreSeated (length named) s.recorders) (ok_is made after (Ok made) refl e5) is))))

-- the recorders of all tables
pub seats_sound : (named : List Named) (tables : List Members) (recorders : List Recorder) → length named ≤ 512 → seats_declared named tables ≡ Ok recorders
    → IsSoundList 64 (IsSoundRecorder (length named)) AreNamesApart recorders
unfolding seats_declared
seats_sound named tables recorders few e0 =
    after_ok (in_turn (with_seats named) nothing_seated tables) _ recorders e0 (λ seated sat e1.
    let first : AreSeated (length named) [] = record { sound = sound_none (IsSoundRecorder (length named)) AreNamesApart; few = omega arith } in
    let all = in_turn_keeps (λ (s : Seated). AreSeated (length named) s.recorders) (with_seats named) (seats_made named few) nothing_seated tables seated sat first in
    let sound : IsSoundList 64 (IsSoundRecorder (length named)) AreNamesApart seated.recorders = record { few = all.few; each = all.sound.each; apart = all.sound.apart } in
    subst (IsSoundList 64 (IsSoundRecorder (length named)) AreNamesApart) (ok_is seated.recorders recorders (Ok seated.recorders) refl e1) sound)
