-- Laws of lists of which each element was made with those before it in sight.
use Rattle.std.proofs.Common.{◌≡◌, ◌≢◌, ℕ, ◌+◌, ◌≤◌, Bool, true, false, not, List, [], ◌∷◌, ◌++◌, length, get_or, Option, Some, None, Result, Ok, true≢false, refl, sym, ap, subst, ◌∙◌, arith, nat_le}
use Rattle.std.specs.List.{All, AllPairs, list_any}
use Rattle.std.specs.Str.{bytes_eq}
use Rattle.std.proofs.lemmas.Bool.{not-true}
use Rattle.std.proofs.lemmas.Bool.Decides.{nat_tests}
use Rattle.std.proofs.lemmas.List.{length-append}
use Rattle.std.proofs.lemmas.List.Elements.{All-push}
use Rattle.std.proofs.lemmas.List.Folds.{list_any_at}
use Rattle.std.proofs.lemmas.List.Quantifiers.{all_pairs_push}
use Rattle.std.proofs.lemmas.Slice.Eq.{bytes_eq-Decides}
use Rattle.toml.specs.Data.{Data, Members, get_member}
use Rattle.metric_base.specs.Steps.{require_some, with_next, each}
use Rattle.metric_base.specs.StepLaws.{after_ok, ok_is, in_turn_keeps, require_ok}
use Rattle.metric_table.specs.declared.faults.FieldFaults.{FieldFaults}
use Rattle.metric_table.specs.Fields.{as_list, list_of, table_of, tables_field, tables_of, tables_within}
use Rattle.metric_catalogue.specs.Sound.{IsSoundList}

-- a test that did not hold
-- none of a list passes
none_pass : {X : Type 0} (test : X → Bool) (xs : List X) → list_any test xs ≡ false → All (λ x. test x ≡ false) xs
none_pass test xs e k d within = by (test (get_or xs k d)) refl
  where
    by : (b : Bool) → test (get_or xs k d) ≡ b → test (get_or xs k d) ≡ false
    by true h = absurd (true≢false (sym (list_any_at test xs k d within h) ∙ e))
    by false h = h

-- texts that a test tells apart
pub texts_apart : (x y : List ℕ) → bytes_eq x y ≡ false → x ≢ y
texts_apart x y e = λ same. true≢false (sym ((bytes_eq-Decides x y).1 same) ∙ e)

-- a new element: a fact holds of it, and no element before it is alike
pub record IsNext {Y : Type 0} (P : Y → Type 0) (R : Y → Y → Type 0) (before : List Y) (y : Y) : Type 0 where
  pub sound : P y
  pub apart : All (λ other. R other y) before

-- no element before is alike, by a test
pub apart_by : {Y : Type 0} (R : Y → Y → Type 0) (alike : Y → Bool) (before : List Y) (y : Y) → ((other : Y) → alike other ≡ false → R other y)
    → not (list_any alike before) ≡ true → All (λ other. R other y) before
apart_by R alike before y tells e k d within = tells (get_or before k d) (none_pass alike before (not-true (list_any alike before) e) k d within)

-- the fact holds of each, and any two are apart
pub record AreSound {Y : Type 0} (P : Y → Type 0) (R : Y → Y → Type 0) (ys : List Y) : Type 0 where
  pub each : All P ys
  pub apart : AllPairs R ys

pub sound_push : {Y : Type 0} (P : Y → Type 0) (R : Y → Y → Type 0) (ys : List Y) (y : Y) → AreSound P R ys → IsNext P R ys y → AreSound P R (ys ++ y ∷ [])
sound_push P R ys y all next = record {
  each = All-push P ys y all.each next.sound;
  apart = all_pairs_push R ys y all.apart next.apart;
}

pub sound_none : {Y : Type 0} (P : Y → Type 0) (R : Y → Y → Type 0) → AreSound P R []
sound_none P R = record { each = λ k d within. absurd (omega arith); apart = λ i j d before within. absurd (omega arith) }

-- what each step gives of its element holds of all in the end
pub each_sound : {Y X E : Type 0} (P : Y → Type 0) (R : Y → Y → Type 0) (step : List Y → X → Result Y E)
    → ((before : List Y) (x : X) (y : Y) → step before x ≡ Ok y → IsNext P R before y)
    → (before : List Y) (xs : List X) (ys : List Y) → each step before xs ≡ Ok ys → AreSound P R before → AreSound P R ys
each_sound P R step gives before xs ys e all = in_turn_keeps (AreSound P R) (with_next step) keeps before xs ys e all
  where
    keeps : (s : List _) (x : _) (t : List _) → with_next step s x ≡ Ok t → AreSound P R s → AreSound P R t
    keeps s x t made so_far =
        after_ok (step s x) _ t made (λ y is last. subst (AreSound P R) (ok_is (s ++ y ∷ []) t (Ok (s ++ y ∷ [])) refl last) (sound_push P R s y so_far (gives s x y is)))

-- as many elements as there were to make them of
pub each_length : {Y X E : Type 0} (step : List Y → X → Result Y E) (before : List Y) (xs : List X) (ys : List Y) → each step before xs ≡ Ok ys → length ys ≡ length before + length xs
each_length step before [] ys e = let same = ok_is before ys (Ok before) refl e in let long = ap length same in omega arith
each_length step before (x ∷ xs) ys e =
    after_ok (with_next step before x) _ ys e (λ next made rest.
    after_ok (step before x) _ next made (λ y is last.
    let same : before ++ y ∷ [] ≡ next = ok_is (before ++ y ∷ []) next (Ok (before ++ y ∷ [])) refl last in
    let long = ap length same in
    let one = length-append before (y ∷ []) in
    let more = each_length step next xs ys rest in
    omega arith))

-- a list that was made from nothing
pub made_sound : {Y X E : Type 0} (most : ℕ) (P : Y → Type 0) (R : Y → Y → Type 0) (step : List Y → X → Result Y E)
    → ((before : List Y) (x : X) (y : Y) → step before x ≡ Ok y → IsNext P R before y)
    → (xs : List X) (ys : List Y) → each step [] xs ≡ Ok ys → length xs ≤ most → IsSoundList most P R ys
made_sound most P R step gives xs ys e few =
    let all = each_sound P R step gives [] xs ys e (sound_none P R) in
    let long = each_length step [] xs ys e in
    record { few = omega arith; each = all.each; apart = all.apart }

-- a list of a table has at most so many values
pub list_few : {F : Type 0} (faults : FieldFaults F) (most : ℕ) (d : Data) (values : List Data) → list_of faults most d ≡ Ok values → length values ≤ most
unfolding list_of
list_few faults most d values e0 =
    after_ok (require_some (as_list d) faults.wrong_kind) _ values e0 (λ ds _ e1.
    let (few, e2) = require_ok (nat_le (length ds) most) faults.too_many _ values e1 in
    let same = ap length (ok_is ds values (Ok ds) refl e2) in
    grind (arith, nat_tests))

within_few : {F : Type 0} (faults : FieldFaults F) (most : ℕ) (d : Option Data) (tables : List Members) → tables_within faults most d ≡ Ok tables → length tables ≤ most
unfolding tables_of
within_few faults most None tables e = let same = ap length (ok_is [] tables (Ok []) refl e) in omega arith
within_few faults most (Some d) tables e0 =
    after_ok (list_of faults most d) _ tables e0 (λ values made e1.
    let few = list_few faults most d values made in
    let long = each_length (λ _ x. table_of faults x) [] values tables e1 in
    omega arith)

-- a field of a table has at most so many tables
pub tables_few : {F : Type 0} (faults : FieldFaults F) (most : ℕ) (name : List ℕ) (table : Members) (tables : List Members) → tables_field faults most name table ≡ Ok tables → length tables ≤ most
unfolding tables_field
tables_few faults most name table tables e = within_few faults most (get_member name table) tables e
