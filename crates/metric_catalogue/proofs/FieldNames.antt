-- The names of fields in the code are those of the definitions.
use Rattle.std.proofs.Common.{◌≡◌, ℕ, Bool, true, false, List, [], ◌∷◌, map, take, codes, refl, sym, ap, ◌∙◌}
use Rattle.std.specs.Prelude.{◌==◌, if◌then◌else◌}
use Rattle.metric_catalogue.specs.declared.catalogue.TheConstants.{SHARED_TOP_FIELDS, TOP_FIELDS}
use Rattle.metric_catalogue.specs.declared.groups.TheConstants.{GROUP_FIELDS}
use Rattle.metric_catalogue.specs.declared.instruments.TheConstants.{INSTRUMENT_FIELDS, SHARED_INSTRUMENT_FIELDS}
use Rattle.metric_catalogue.specs.declared.keys.TheConstants.{KEY_FIELDS}
use Rattle.metric_catalogue.specs.declared.meters.TheConstants.{METER_FIELDS, SHARED_METER_FIELDS}
use Rattle.metric_catalogue.specs.declared.recorders.TheConstants.{BUDGET_FIELDS, RECORDER_FIELDS}
use Rattle.metric_catalogue.specs.declared.seats.TheConstants.{SEAT_FIELDS}
use Rattle.metric_catalogue.specs.declared.shared_keys.TheConstants.{SHARED_FIELDS}
use Rattle.metric_catalogue.specs.declared.values.TheConstants.{SPAN_FIELDS}
use Rattle.metric_catalogue.specs.Catalogues.{shared_top_fields, top_fields}
use Rattle.metric_catalogue.specs.Groups.{group_fields}
use Rattle.metric_catalogue.specs.Instruments.{instrument_fields}
use Rattle.metric_catalogue.specs.Keys.{key_fields}
use Rattle.metric_catalogue.specs.KeyValues.{span_fields}
use Rattle.metric_catalogue.specs.Meters.{meter_fields, shared_meter_fields}
use Rattle.metric_catalogue.specs.Recorders.{budget_fields, recorder_fields}
use Rattle.metric_catalogue.specs.Seats.{seat_fields}
use Rattle.metric_catalogue.specs.SharedKeys.{shared_fields}

pub budget_fields-are : map (λ name. name.now) BUDGET_FIELDS ≡ budget_fields
unfolding budget_fields
budget_fields-are = refl

-- the fields that each format has, and those that only a later one has
fields_if : Bool → Bool → List (List ℕ)
fields_if first third = codes "name" ∷ codes "kind" ∷ codes "unit" ∷ codes "description" ∷ codes "range" ∷ codes "boundaries" ∷ codes "key" ∷ (if first then [] else codes "allowed" ∷ (if third then codes "budget" else codes "spare") ∷ [])

pub first_fields-are : (format : ℕ) → (format == 1) ≡ true → map (λ name. name.now) (take 7 INSTRUMENT_FIELDS) ≡ instrument_fields format
unfolding instrument_fields fields_if
first_fields-are format first = let read : map (λ name. name.now) (take 7 INSTRUMENT_FIELDS) ≡ fields_if true (format == 3) = refl in read ∙ ap (λ (b : Bool). fields_if b (format == 3)) (sym first)

pub instrument_fields-are : (format : ℕ) → (format == 1) ≡ false → (format == 3) ≡ false → map (λ name. name.now) INSTRUMENT_FIELDS ≡ instrument_fields format
unfolding instrument_fields fields_if
instrument_fields-are format later second =
    let read : map (λ name. name.now) INSTRUMENT_FIELDS ≡ fields_if false false = refl in
    read ∙ ap (fields_if false) (sym second) ∙ ap (λ (b : Bool). fields_if b (format == 3)) (sym later)

pub shared_instrument_fields-are : (format : ℕ) → (format == 1) ≡ false → (format == 3) ≡ true → map (λ name. name.now) SHARED_INSTRUMENT_FIELDS ≡ instrument_fields format
unfolding instrument_fields fields_if
shared_instrument_fields-are format later third =
    let read : map (λ name. name.now) SHARED_INSTRUMENT_FIELDS ≡ fields_if false true = refl in
    read ∙ ap (fields_if false) (sym third) ∙ ap (λ (b : Bool). fields_if b (format == 3)) (sym later)

pub key_fields-are : map (λ name. name.now) KEY_FIELDS ≡ key_fields
unfolding key_fields
key_fields-are = refl

pub meter_fields-are : map (λ name. name.now) METER_FIELDS ≡ meter_fields
unfolding meter_fields
meter_fields-are = refl

pub shared_meter_fields-are : map (λ name. name.now) SHARED_METER_FIELDS ≡ shared_meter_fields
unfolding shared_meter_fields
shared_meter_fields-are = refl

pub group_fields-are : map (λ name. name.now) GROUP_FIELDS ≡ group_fields
unfolding group_fields
group_fields-are = refl

pub recorder_fields-are : map (λ name. name.now) RECORDER_FIELDS ≡ recorder_fields
unfolding recorder_fields
recorder_fields-are = refl

pub seat_fields-are : map (λ name. name.now) SEAT_FIELDS ≡ seat_fields
unfolding seat_fields
seat_fields-are = refl

pub shared_fields-are : map (λ name. name.now) SHARED_FIELDS ≡ shared_fields
unfolding shared_fields
shared_fields-are = refl

pub shared_top_fields-are : map (λ name. name.now) SHARED_TOP_FIELDS ≡ shared_top_fields
unfolding shared_top_fields
shared_top_fields-are = refl

pub span_fields-are : map (λ name. name.now) SPAN_FIELDS ≡ span_fields
unfolding span_fields
span_fields-are = refl

pub top_fields-are : map (λ name. name.now) TOP_FIELDS ≡ top_fields
unfolding top_fields
top_fields-are = refl

pub ruleset field_names = (budget_fields-are, first_fields-are, group_fields-are, instrument_fields-are, key_fields-are, meter_fields-are, recorder_fields-are, seat_fields-are, shared_fields-are, shared_instrument_fields-are, shared_meter_fields-are, shared_top_fields-are, span_fields-are, top_fields-are)
