-- What is read as a config is sound.
use Rattle.std.proofs.Common.{◌≡◌, ℕ, All, List, [], ◌∷◌, ◌++◌, length, Option, Some, None, Result, Ok, IfSome, refl, subst, codes}
use Rattle.std.proofs.lemmas.List.Elements.{All-nil, All-push}
use Rattle.toml.specs.Data.{Data, Members, get_member}
use Rattle.toml.specs.Parse.{parse_document}
use Rattle.metric_base.specs.Steps.{each, require_some, with_next}
use Rattle.metric_base.specs.StepLaws.{after_ok, in_turn_keeps, ok_is}
use Rattle.metric_table.specs.Fields.{list_of, only, short_text_of, text_of, texts_of}
use Rattle.metric_views.proofs.EachLaws.{EachAt-empty, each_made}
use Rattle.metric_views.specs.declared.config.Criteria.{Criteria}
use Rattle.metric_views.specs.declared.config.Settings.{Settings}
use Rattle.metric_views.specs.declared.config.Setup.{Setup}
use Rattle.metric_views.specs.declared.config.View.{View}
use Rattle.metric_views.specs.declared.fault.ConfigPlace.{ConfigPlace}
use Rattle.metric_views.specs.declared.fault.ConfigSpot.{ConfigSpot}
use Rattle.metric_views.specs.declared.fault.ConfigField.TheVariants as fields
use Rattle.metric_views.specs.declared.fault.ConfigPlace.TheVariants as places
use Rattle.metric_views.specs.declared.fault.ViewFault.{ViewFault}
use Rattle.metric_views.specs.declared.fault.ViewFault.TheVariants.{NotToml}
use Rattle.metric_views.specs.Configs.{config_of, setup_of_table, setup_of_tables, tables_of_top}
use Rattle.metric_views.specs.Faults.{faults_at, field_at}
use Rattle.metric_views.specs.Readers.{aggregation_of, limit_of, reader_of, readers_of}
use Rattle.metric_catalogue.specs.Sound.{IsFreeText}
use Rattle.metric_views.specs.Sound.{AreSoundCriteria, AreSoundSettings, IsLimit, IsSoundReader, IsSoundSetup, IsSoundView}
use Rattle.metric_views.specs.Views.{boundaries_at, criteria_of, instrument_criteria, keys_at, kind_at, list_settings, meter_criteria, name_at, optional_field, pattern_at, settings_of, stream_settings, text_at, value_within, view_fields, view_of, views_of}
use Rattle.metric_views.proofs.SoundReaders.{limit_made, reader_made, short_made}

-- What holds of each element that a step makes, holds of all of them.
all_made : {X Y E : Type 0} (P : Y → Type 0) (step : List Y → X → Result Y E) → ((before : List Y) (x : X) (y : Y) → step before x ≡ Ok y → P y)
    → (xs : List X) (ys : List Y) → each step [] xs ≡ Ok ys → All P ys
all_made {X} {Y} P step gives xs ys e = in_turn_keeps (All P) (with_next step) keeps [] xs ys e (All-nil P)
  where
    keeps : (before : List Y) (x : X) (after : List Y) → with_next step before x ≡ Ok after → All P before → All P after
    keeps before x after made so_far =
        after_ok (step before x) _ after made (λ y is last. subst (All P) (ok_is (before ++ y ∷ []) after (Ok (before ++ y ∷ [])) refl last) (All-push P before y so_far (gives before x y is)))

short_text_made : (at : ConfigSpot) (d : Data) (text : List ℕ) → short_text_of (faults_at at) d ≡ Ok text → IsFreeText text
unfolding short_text_of
short_text_made at d text e0 = after_ok (text_of (faults_at at) d) _ text e0 (λ read _ e1. (short_made at read text e1).1)

text_made : (at : ConfigSpot) (d : Data) (text : List ℕ) → text_at at d ≡ Ok text → IsFreeText text
unfolding text_at
text_made at d text e = short_text_made at d text e

keys_made : (at : ConfigSpot) (d : Data) (keys : List (List ℕ)) → keys_at at d ≡ Ok keys → All IsFreeText keys
unfolding keys_at texts_of
keys_made at d keys e0 =
    after_ok (list_of (faults_at at) 64 d) _ keys e0 (λ values _ e1. all_made IsFreeText (λ _ x. short_text_of (faults_at at) x) (λ _ x text is. short_text_made at x text is) values keys e1)

-- what holds of each value that is read, holds of the value of a field
field_made : {T : Type 0} (P : T → Type 0) (read : Data → Result T ViewFault) → ((d : Data) (t : T) → read d ≡ Ok t → P t)
    → (name : List ℕ) (table : Members) (o : Option T) → optional_field read name table ≡ Ok o → IfSome o P
unfolding optional_field
field_made {T} P read gives name table o e = within (get_member name table) e
  where
    within : (d : Option Data) → value_within read d ≡ Ok o → IfSome o P
    within None e1 = subst (λ (v : Option T). IfSome v P) (ok_is None o (Ok None) refl e1) tt
    within (Some d) e1 = after_ok (read d) _ o e1 (λ t is e2. subst (λ (v : Option T). IfSome v P) (ok_is (Some t) o (Ok (Some t)) refl e2) (gives d t is))

criteria_made : (at : ConfigPlace) (table : Members) (criteria : Criteria) → criteria_of at table ≡ Ok criteria → AreSoundCriteria criteria
unfolding criteria_of instrument_criteria meter_criteria
criteria_made at table criteria e0 =
    after_ok (instrument_criteria at table) _ criteria e0 (λ instrument i0 e1.
    after_ok (meter_criteria at table) _ criteria e1 (λ meter m0 e2.
    after_ok (optional_field (pattern_at (field_at at fields.InstrumentName)) (codes "instrument_name") table) _ instrument i0 (λ pattern _ i1.
    after_ok (optional_field (kind_at (field_at at fields.InstrumentType)) (codes "instrument_type") table) _ instrument i1 (λ kind _ i2.
    after_ok (optional_field (text_at (field_at at fields.InstrumentUnit)) (codes "instrument_unit") table) _ instrument i2 (λ unit united i3.
    after_ok (optional_field (text_at (field_at at fields.MeterName)) (codes "meter_name") table) _ meter m0 (λ name named m1.
    after_ok (optional_field (text_at (field_at at fields.MeterVersion)) (codes "meter_version") table) _ meter m1 (λ version versioned m2.
    after_ok (optional_field (text_at (field_at at fields.MeterSchemaUrl)) (codes "meter_schema_url") table) _ meter m2 (λ url located m3.
    let of_instrument = ok_is (pattern, kind, unit) instrument (Ok (pattern, kind, unit)) refl i3 in
    let of_meter = ok_is (name, version, url) meter (Ok (name, version, url)) refl m3 in
    let made : Criteria = record {
      instrument_name = pattern;
      instrument_type = kind;
      instrument_unit = unit;
      meter_name = name;
      meter_version = version;
      meter_schema_url = url;
    } in
    let sound : AreSoundCriteria made = record {
      instrument_unit = field_made IsFreeText (text_at (field_at at fields.InstrumentUnit)) (text_made (field_at at fields.InstrumentUnit)) (codes "instrument_unit") table unit united;
      meter_name = field_made IsFreeText (text_at (field_at at fields.MeterName)) (text_made (field_at at fields.MeterName)) (codes "meter_name") table name named;
      meter_version = field_made IsFreeText (text_at (field_at at fields.MeterVersion)) (text_made (field_at at fields.MeterVersion)) (codes "meter_version") table version versioned;
      meter_schema_url = field_made IsFreeText (text_at (field_at at fields.MeterSchemaUrl)) (text_made (field_at at fields.MeterSchemaUrl)) (codes "meter_schema_url") table url located;
    } in
    let same : made ≡ criteria = cc in
    subst AreSoundCriteria same sound))))))))

settings_made : (at : ConfigPlace) (table : Members) (settings : Settings) → settings_of at table ≡ Ok settings → AreSoundSettings settings
unfolding settings_of stream_settings list_settings
settings_made at table settings e0 =
    after_ok (stream_settings at table) _ settings e0 (λ stream s0 e1.
    after_ok (list_settings at table) _ settings e1 (λ lists l0 e2.
    after_ok (optional_field (limit_of (field_at at fields.Limit)) (codes "limit") table) _ settings e2 (λ limit limited e3.
    after_ok (optional_field (name_at (field_at at fields.StreamName)) (codes "stream_name") table) _ stream s0 (λ name _ s1.
    after_ok (optional_field (text_at (field_at at fields.Description)) (codes "description") table) _ stream s1 (λ description described s2.
    after_ok (optional_field (aggregation_of (field_at at fields.Aggregation)) (codes "aggregation") table) _ stream s2 (λ aggregation _ s3.
    after_ok (optional_field (boundaries_at (field_at at fields.Boundaries)) (codes "boundaries") table) _ lists l0 (λ boundaries _ l1.
    after_ok (optional_field (keys_at (field_at at fields.Keep)) (codes "keep") table) _ lists l1 (λ keep kept l2.
    after_ok (optional_field (keys_at (field_at at fields.Exclude)) (codes "exclude") table) _ lists l2 (λ exclude excluded l3.
    let of_stream = ok_is (name, description, aggregation) stream (Ok (name, description, aggregation)) refl s3 in
    let of_lists = ok_is (boundaries, keep, exclude) lists (Ok (boundaries, keep, exclude)) refl l3 in
    let made : Settings = record {
      stream_name = name;
      description = description;
      aggregation = aggregation;
      boundaries = boundaries;
      keep = keep;
      exclude = exclude;
      limit = limit;
    } in
    let sound : AreSoundSettings made = record {
      description = field_made IsFreeText (text_at (field_at at fields.Description)) (text_made (field_at at fields.Description)) (codes "description") table description described;
      keep = field_made (All IsFreeText) (keys_at (field_at at fields.Keep)) (keys_made (field_at at fields.Keep)) (codes "keep") table keep kept;
      exclude = field_made (All IsFreeText) (keys_at (field_at at fields.Exclude)) (keys_made (field_at at fields.Exclude)) (codes "exclude") table exclude excluded;
      limited = field_made IsLimit (limit_of (field_at at fields.Limit)) (limit_made (field_at at fields.Limit)) (codes "limit") table limit limited;
    } in
    let same : made ≡ settings = cc in
    subst AreSoundSettings same sound)))))))))

view_made : (number : ℕ) (table : Members) (view : View) → view_of number table ≡ Ok view → IsSoundView view
unfolding view_of
view_made number table view e0 =
    let at = places.View number in
    after_ok (only (faults_at (field_at at fields.Unknown)) view_fields table) _ view e0 (λ _ _ e1.
    after_ok (criteria_of at table) _ view e1 (λ criteria selected e2.
    after_ok (settings_of at table) _ view e2 (λ settings set e3.
    let made : View = record { criteria = criteria; settings = settings } in
    let sound : IsSoundView made = record { criteria = criteria_made at table criteria selected; settings = settings_made at table settings set } in
    subst IsSoundView (ok_is made view (Ok made) refl e3) sound)))

setup_made : (table : Members) (setup : Setup) → setup_of_table table ≡ Ok setup → IsSoundSetup setup
unfolding setup_of_table setup_of_tables
setup_made table setup e0 =
    after_ok (tables_of_top table) _ setup e0 (λ tables _ e1.
    after_ok (readers_of tables.0) _ setup e1 (λ readers read e2.
    after_ok (views_of tables.1) _ setup e2 (λ views viewed e3.
    let made : Setup = record { readers = readers; views = views } in
    let sound : IsSoundSetup made = record {
      readers = each_made IsSoundReader reader_of reader_made [] tables.0 readers read (EachAt-empty IsSoundReader);
      views = all_made IsSoundView (λ before inner. view_of (length before) inner) (λ before inner view is. view_made (length before) inner view is) tables.1 views viewed;
    } in
    subst IsSoundSetup (ok_is made setup (Ok made) refl e3) sound)))

pub config_made : (text : List ℕ) (setup : Setup) → config_of text ≡ Ok setup → IsSoundSetup setup
config_made text setup e0 = after_ok (require_some (parse_document text) NotToml) _ setup e0 (λ table _ e1. setup_made table setup e1)
