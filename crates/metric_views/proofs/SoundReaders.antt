-- What is read as a reader is sound.
use Rattle.std.proofs.Common.{◌≡◌, ℕ, ℤ, ◌<◌, Bool, true, false, not, ◌==◌, List, length, Option, Some, None, Result, Ok, refl, subst, arith, codes, nat_le, nat_abs}
use Rattle.std.proofs.lemmas.Int.{ints}
use Rattle.std.proofs.lemmas.Bool.Decides.{nat_tests}
use Rattle.std.specs.Str.{chars}
use Rattle.std.proofs.lemmas.Bool.{not-true}
use Rattle.toml.specs.Data.{Data, Members, get_member}
use Rattle.metric_base.specs.StepLaws.{after_ok, require_ok, ok_is}
use Rattle.metric_table.specs.Fields.{integer_of, only, short_text, table_of, text_field}
use Rattle.metric_contents.specs.declared.contents.Kind.{Kind}
use Rattle.metric_contents.specs.declared.contents.Kind.TheVariants.{Counter, UpDownCounter, Histogram, Gauge}
use Rattle.metric_views.specs.declared.choices.Aggregation.{Aggregation}
use Rattle.metric_views.specs.declared.choices.Aggregation.TheVariants as aggregations
use Rattle.metric_views.specs.declared.choices.ByKind.{ByKind}
use Rattle.metric_views.specs.declared.choices.Temporality.TheVariants.{Cumulative}
use Rattle.metric_views.specs.declared.config.Reader.{Reader}
use Rattle.metric_views.specs.declared.fault.ConfigPlace.{ConfigPlace}
use Rattle.metric_views.specs.declared.fault.ConfigSpot.{ConfigSpot}
use Rattle.metric_views.specs.declared.fault.ConfigField.TheVariants as fields
use Rattle.metric_views.specs.declared.fault.ConfigPlace.TheVariants as places
use Rattle.metric_views.specs.declared.fault.ViewFault.{ViewFault}
use Rattle.metric_views.specs.declared.fault.ViewDefect.TheVariants.{WrongKind, BadName, BadLimit, DuplicateReader, TooMany}
use Rattle.metric_views.specs.declared.fault.ViewFault.TheVariants.{At}
use Rattle.metric_views.specs.Choices.{choice_for, is_unfit}
use Rattle.metric_views.specs.Faults.{faults_at, field_at, of_kind}
use Rattle.metric_views.specs.Readers.{aggregation_for, aggregation_of, choice_at, choice_within, choices_by_kind, choices_field, choices_of, choices_within, for_all, has_reader, is_limit, kind_names, limit_of, reader_choices, reader_fields, reader_name, reader_of, temporality_of}
use Rattle.metric_catalogue.specs.Sound.{IsFreeText}
use Rattle.metric_views.specs.Sound.{IsLimit, IsSoundReader}

-- a test that did not hold
-- a short text is the text, and is short
pub short_made : (at : ConfigSpot) (text name : List ℕ) → short_text (faults_at at) text ≡ Ok name → (text ≡ name) × IsFreeText name
unfolding short_text
short_made at text name e =
    let (short, e1) = require_ok (nat_le (length (chars text)) 1023) (At TooMany at) _ name e in
    let same = ok_is text name (Ok text) refl e1 in
    let few : IsFreeText text = grind (arith, nat_tests) in
    (same, subst IsFreeText same few)

-- what is read as a limit is one
limit_in : (number : ℤ) → is_limit number ≡ true → IsLimit (nat_abs number)
limit_in number e = grind (arith, ints)

pub limit_made : (at : ConfigSpot) (d : Data) (limit : ℕ) → limit_of at d ≡ Ok limit → IsLimit limit
unfolding limit_of
limit_made at d limit e0 =
    after_ok (integer_of (faults_at at) d) _ limit e0 (λ number _ e1.
    let (within, e2) = require_ok (is_limit number) (At BadLimit at) _ limit e1 in
    subst IsLimit (ok_is (nat_abs number) limit (Ok (nat_abs number)) refl e2) (limit_in number within))

-- what is read as a reader's aggregation fits the kind
fit_made : (at : ConfigSpot) (kind : Kind) (d : Data) (aggregation : Aggregation) → aggregation_for at kind d ≡ Ok aggregation → is_unfit kind aggregation ≡ false
unfolding aggregation_for
fit_made at kind d aggregation e0 =
    after_ok (aggregation_of at d) _ aggregation e0 (λ named _ e1.
    let (fits, e2) = require_ok (not (is_unfit kind named)) (At WrongKind at) _ aggregation e1 in
    subst (λ (a : Aggregation). is_unfit kind a ≡ false) (ok_is named aggregation (Ok named) refl e2) (not-true (is_unfit kind named) fits))

-- What holds of the usual choice and of each that is read, holds of the choices for all kinds.
choice_made : {T : Type 0} (P : T → Type 0) (usual : T) (read : Data → Result T ViewFault) → P usual → ((d : Data) (t : T) → read d ≡ Ok t → P t)
    → (name : List ℕ) (table : Members) (t : T) → choice_at usual read name table ≡ Ok t → P t
unfolding choice_at
choice_made {T} P usual read first each name table t e = within (get_member name table) e
  where
    within : (o : Option Data) → choice_within usual read o ≡ Ok t → P t
    within None e1 = subst P (ok_is usual t (Ok usual) refl e1) first
    within (Some d) e1 = each d t e1

table_made : {T : Type 0} (P : Kind → T → Type 0) (usual : T) (chosen : ConfigSpot → Kind → Data → Result T ViewFault) (at : ConfigSpot) → ((kind : Kind) → P kind usual)
    → ((spot : ConfigSpot) (kind : Kind) (d : Data) (t : T) → chosen spot kind d ≡ Ok t → P kind t)
    → (table : Members) (choices : ByKind T) → choices_of usual chosen at table ≡ Ok choices → (kind : Kind) → P kind (choice_for choices kind)
unfolding choices_of choices_by_kind
table_made {T} P usual chosen at first each table choices e0 =
    after_ok (only (faults_at at) kind_names table) _ choices e0 (λ _ _ e1.
    after_ok (choice_at usual (chosen (of_kind at Counter) Counter) (codes "counter") table) _ choices e1 (λ counter c e2.
    after_ok (choice_at usual (chosen (of_kind at UpDownCounter) UpDownCounter) (codes "up_down_counter") table) _ choices e2 (λ up_down_counter u e3.
    after_ok (choice_at usual (chosen (of_kind at Histogram) Histogram) (codes "histogram") table) _ choices e3 (λ histogram h e4.
    after_ok (choice_at usual (chosen (of_kind at Gauge) Gauge) (codes "gauge") table) _ choices e4 (λ gauge g e5.
    let made : ByKind T = record { counter = counter; up_down_counter = up_down_counter; histogram = histogram; gauge = gauge } in
    let sound : (kind : Kind) → P kind (choice_for made kind) = λ kind. by_kind made
    (choice_made (P Counter) usual (chosen (of_kind at Counter) Counter) (first Counter) (each (of_kind at Counter) Counter) (codes "counter") table counter c)
    (choice_made (P UpDownCounter) usual (chosen (of_kind at UpDownCounter) UpDownCounter) (first UpDownCounter) (each (of_kind at UpDownCounter) UpDownCounter) (codes "up_down_counter") table up_down_counter u)
    (choice_made (P Histogram) usual (chosen (of_kind at Histogram) Histogram) (first Histogram) (each (of_kind at Histogram) Histogram) (codes "histogram") table histogram h)
    (choice_made (P Gauge) usual (chosen (of_kind at Gauge) Gauge) (first Gauge) (each (of_kind at Gauge) Gauge) (codes "gauge") table gauge g) kind in
    subst (λ (cs : ByKind T). (kind : Kind) → P kind (choice_for cs kind)) (ok_is made choices (Ok made) refl e5) sound)))))
  where
    by_kind : (made : ByKind T) → P Counter made.counter → P UpDownCounter made.up_down_counter → P Histogram made.histogram → P Gauge made.gauge
        → (kind : Kind) → P kind (choice_for made kind)
    by_kind made c u h g Counter = c
    by_kind made c u h g UpDownCounter = u
    by_kind made c u h g Histogram = h
    by_kind made c u h g Gauge = g

choices_made : {T : Type 0} (P : Kind → T → Type 0) (usual : T) (chosen : ConfigSpot → Kind → Data → Result T ViewFault) (at : ConfigSpot) → ((kind : Kind) → P kind usual)
    → ((spot : ConfigSpot) (kind : Kind) (d : Data) (t : T) → chosen spot kind d ≡ Ok t → P kind t)
    → (name : List ℕ) (table : Members) (choices : ByKind T) → choices_field usual chosen at name table ≡ Ok choices → (kind : Kind) → P kind (choice_for choices kind)
unfolding choices_field
choices_made {T} P usual chosen at first each name table choices e = within (get_member name table) e
  where
    usual_made : (kind : Kind) → P kind (choice_for (for_all usual) kind)
    usual_made Counter = first Counter
    usual_made UpDownCounter = first UpDownCounter
    usual_made Histogram = first Histogram
    usual_made Gauge = first Gauge

    within : (o : Option Data) → choices_within usual chosen at o ≡ Ok choices → (kind : Kind) → P kind (choice_for choices kind)
    within None e1 = subst (λ (cs : ByKind T). (kind : Kind) → P kind (choice_for cs kind)) (ok_is (for_all usual) choices (Ok (for_all usual)) refl e1) usual_made
    within (Some d) e1 = after_ok (table_of (faults_at at) d) _ choices e1 (λ inner _ e2. table_made P usual chosen at first each inner choices e2)

usual_fits : (kind : Kind) → is_unfit kind aggregations.Default ≡ false
usual_fits Counter = refl
usual_fits UpDownCounter = refl
usual_fits Histogram = refl
usual_fits Gauge = refl

-- what holds of a reader's name
record IsSoundName (before : List Reader) (name : List ℕ) : Type 0 where
  named : 0 < length name
  short : IsFreeText name
  new : has_reader before name ≡ false

name_made : (before : List Reader) (at : ConfigSpot) (table : Members) (name : List ℕ) → reader_name before at table ≡ Ok name → IsSoundName before name
unfolding reader_name
name_made before at table name e0 =
    after_ok (text_field (faults_at at) (codes "name") table) _ name e0 (λ text _ e1.
    let (full, e2) = require_ok (not (length text == 0)) (At BadName at) _ name e1 in
    after_ok (short_text (faults_at at) text) _ name e2 (λ held made e3.
    let (new, e4) = require_ok (not (has_reader before held)) (At DuplicateReader at) _ name e3 in
    let (same, short) = short_made at text held made in
    let some : 0 < length text = grind (arith, nat_tests) in
    let sound : IsSoundName before held = record { named = subst (λ (t : List ℕ). 0 < length t) same some; short = short; new = not-true (has_reader before held) new } in
    subst (IsSoundName before) (ok_is held name (Ok held) refl e4) sound))

pub reader_made : (before : List Reader) (table : Members) (reader : Reader) → reader_of before table ≡ Ok reader → IsSoundReader before reader
unfolding reader_of reader_choices
reader_made before table reader e0 =
    let at = places.Reader (length before) in
    after_ok (only (faults_at (field_at at fields.Unknown)) reader_fields table) _ reader e0 (λ _ _ e1.
    after_ok (reader_name before (field_at at fields.Name) table) _ reader e1 (λ name named e2.
    after_ok (reader_choices at table) _ reader e2 (λ choices chosen e3.
    after_ok (choices_field Cumulative (λ at _ d. temporality_of at d) (field_at at fields.Temporality) (codes "temporality") table) _ choices chosen (λ temporality _ c1.
    after_ok (choices_field aggregations.Default aggregation_for (field_at at fields.Aggregation) (codes "aggregation") table) _ choices c1 (λ aggregation fit c2.
    after_ok (choices_field 2000 (λ at _ d. limit_of at d) (field_at at fields.Limit) (codes "limit") table) _ choices c2 (λ limit limited c3.
    let own = name_made before (field_at at fields.Name) table name named in
    let same = ok_is (temporality, aggregation, limit) choices (Ok (temporality, aggregation, limit)) refl c3 in
    let made : Reader = record { name = name; temporality = choices.0; aggregation = choices.1; limit = choices.2 } in
    let fits : (kind : Kind) → is_unfit kind (choice_for aggregation kind) ≡ false =
    choices_made (λ kind a. is_unfit kind a ≡ false) aggregations.Default aggregation_for (field_at at fields.Aggregation) usual_fits fit_made (codes "aggregation") table aggregation fit in
    let limits : (kind : Kind) → IsLimit (choice_for limit kind) =
    choices_made (λ _ n. IsLimit n) 2000 (λ at _ d. limit_of at d) (field_at at fields.Limit) (λ _. (omega arith, omega arith)) (λ spot _. limit_made spot) (codes "limit") table limit limited in
    let sound : IsSoundReader before made = record {
      named = own.named;
      short = own.short;
      new = own.new;
      fits = subst (λ (cs : ByKind Aggregation). (kind : Kind) → is_unfit kind (choice_for cs kind) ≡ false) (second same) fits;
      limited = subst (λ (cs : ByKind ℕ). (kind : Kind) → IsLimit (choice_for cs kind)) (third same) limits;
    } in
    subst (IsSoundReader before) (ok_is made reader (Ok made) refl e3) sound))))))
  where
    second : {A B C : Type 0} {x y : A × B × C} → x ≡ y → x.1 ≡ y.1
    second e = cc

    third : {A B C : Type 0} {x y : A × B × C} → x ≡ y → x.2 ≡ y.2
    third e = cc
