-- A dense table with one value more stands for one recording more.
use Rattle.std.proofs.Common.{◌≡◌, ℕ, ◌<◌, ℤ, Bool, true, false, ◌||◌, All, List, [], ◌∷◌, ◌++◌, Option, Some, length, get_or, refl, sym, ap, subst, ◌∙◌, arith, eq-eqb, get_or-set_same, get_or-set_other}
use Rattle.std.specs.Prelude.{◌==◌}
use Rattle.std.specs.Str.{bytes_eq}
use Rattle.std.proofs.Math.ListN.{set, length-set}
use Rattle.std.proofs.lemmas.Bool.{eqb-true, or_right, true≢false}
use Rattle.std.proofs.lemmas.List.{map_push}
use Rattle.std.proofs.lemmas.List.Elements.{All-append, All-cons, All-nil}
use Rattle.std.proofs.lemmas.List.Folds.{list_any-append}
use Rattle.std.proofs.lemmas.Option.{get_or_from_slice_get, slice_get_within}
use Rattle.metric_aggregate.specs.declared.aggregate.Aggregate as aggregate
use Rattle.metric_aggregate.specs.Aggregation.{Aggregation}
use Rattle.metric_aggregate.specs.Range.{in_range}
use Rattle.metric_history.specs.Aggregations.{stream_aggregation}
use Rattle.metric_history.specs.declared.entry.Entry.{Entry}
use Rattle.metric_history.specs.Points.{values}
use Rattle.metric_history.specs.Series.{all_series, has, place_found, rows, series}
use Rattle.metric_history.specs.SeriesLaws.{key_is_same, same_key}
use Rattle.metric_history.specs.Windows.{fits_stream}
use Rattle.metric_series.specs.Calls.{TakesRecording, entry_of}
use Rattle.metric_series.specs.declared.place.Place.TheVariants.{Held}
use Rattle.metric_series.specs.Ready.{Adds}
use Rattle.metric_series.specs.Tables.{HasRows}
use Rattle.metric_series.proofs.LongerWindow.{fits_where_found, place_found_is, rows-other, values_where_found}
use Rattle.metric_views.specs.declared.stream.Stream.{Stream}
use Rattle.metric_facts.specs.Products.{product_of}
use Rattle.metric_facts.specs.Ranks.{rank, rank_below}
use Rattle.metric_dense.specs.Ranks.{series_of, IsTaken}
use Rattle.metric_dense.specs.DenseTables.{AddsAt, DenseValue, IsReadyDense, JudgesAt, StandsDense}
use Rattle.metric_dense.proofs.Holding.{has_held, own_rank, own_series}

has_last : (keys : List (List ℕ)) (key : List ℕ) → has (keys ++ key ∷ []) key ≡ true
has_last keys key =
    list_any-append (λ (other : List ℕ). bytes_eq other key) keys (key ∷ [])
    ∙ ap (λ (b : Bool). has keys key || (b || false)) (key_is_same key)
    ∙ or_right (has keys key) true refl

module _ {A P : Type 0} (by : aggregate.Ghosts A P) (t : DenseValue A) (s : Stream) (window : List Entry) (known : StandsDense by t s window) (recorder : ℕ) (set' : List ℕ) (value : ℤ) (full : IsTaken t.keys set') where
  abbrev entry : Entry
  entry = entry_of recorder set' value

  abbrev place : ℕ
  place = rank s.kept t.keys set'

  all_taken : All (λ (e : Entry). IsTaken t.keys e.set) (window ++ entry ∷ [])
  all_taken =
      All-append (λ (e : Entry). IsTaken t.keys e.set) window (entry ∷ []) known.taken
      (All-cons (λ (e : Entry). IsTaken t.keys e.set) entry [] full (All-nil (λ (e : Entry). IsTaken t.keys e.set)))

  its_series : series_of s.kept t.keys place ≡ series s.kept entry
  its_series = own_series s.kept t.keys known.ranked set' full

  -- the recording falls into the series of its rank
  found : place_found s window entry ≡ Some (series_of s.kept t.keys place)
  found =
      place_found_is s window entry true
      (has_held s t.keys (window ++ entry ∷ []) known.ranked known.room all_taken (series s.kept entry)
      ∙ ap (λ (ks : List (List ℕ)). has ks (series s.kept entry)) (map_push (series s.kept) window entry)
      ∙ has_last (all_series s.kept window) (series s.kept entry))
      ∙ ap Some (sym its_series)

  -- the value fits where it fits the aggregate of that rank
  dense_fits : (a : A) → ((added : List ℤ) (v : ℤ) → by.stands a added → by.fits a v ≡ in_range (by.aggregation a) (added ++ v ∷ []))
      → HasRows by a s window (Some (series_of s.kept t.keys place)) → fits_stream s window entry ≡ by.fits a value
  dense_fits a law had =
      fits_where_found s window entry
      ∙ ap (λ (p : Option (List ℕ)). in_range (stream_aggregation s) (values (rows s window p) ++ value ∷ [])) found
      ∙ ap (λ (kind : Aggregation). in_range kind (values (rows s window (Some (series_of s.kept t.keys place))) ++ value ∷ [])) (sym had.aggregation)
      ∙ sym (law (values (rows s window (Some (series_of s.kept t.keys place)))) value had.stands)

  taker : (old new : A) → Adds by old new value → HasRows by old s window (Some (series_of s.kept t.keys place))
      → HasRows by new s (window ++ entry ∷ []) (Some (series_of s.kept t.keys place))
  taker old new adds had = record {
    aggregation = adds.aggregation ∙ had.aggregation;
    stands = subst (λ (vs : List ℤ). by.stands new vs) longer (adds.stands (values (rows s window (Some (series_of s.kept t.keys place)))) had.stands);
  }
    where
      longer : values (rows s window (Some (series_of s.kept t.keys place))) ++ value ∷ [] ≡ values (rows s (window ++ entry ∷ []) (Some (series_of s.kept t.keys place)))
      longer =
          subst (λ (p : Option (List ℕ)). values (rows s window p) ++ value ∷ [] ≡ values (rows s (window ++ entry ∷ []) p)) found (values_where_found s window entry)

  -- a set key of another rank is of another series
  other_series : (r : ℕ) → r < product_of s.kept t.keys → (r ≡ place → ⊥) → (b : Bool) → bytes_eq (series s.kept entry) (series_of s.kept t.keys r) ≡ b → b ≡ false
  other_series r below apart true e =
      let low : place < product_of s.kept t.keys = rank_below s.kept t.keys set' full.full in
      let one : series_of s.kept t.keys place ≡ series_of s.kept t.keys r = its_series ∙ same_key (series s.kept entry) (series_of s.kept t.keys r) e in
      absurd (apart (sym (own_rank s.kept t.keys known.ranked r below) ∙ ap (rank s.kept t.keys) (sym one) ∙ own_rank s.kept t.keys known.ranked place low))
  other_series r below apart false e = refl

  same_rows : (r : ℕ) (a : A) → r < product_of s.kept t.keys → (r ≡ place → ⊥) → HasRows by a s window (Some (series_of s.kept t.keys r))
      → HasRows by a s (window ++ entry ∷ []) (Some (series_of s.kept t.keys r))
  same_rows r a below apart had = record {
    aggregation = had.aggregation;
    stands = subst (λ (es : List Entry). by.stands a (values es))
        (sym (rows-other s window entry (series_of s.kept t.keys r) (other_series r below apart (bytes_eq (series s.kept entry) (series_of s.kept t.keys r)) refl))) had.stands;
  }

  -- the aggregate of that rank takes the value
  taken_at : (after : A) → ((d : A) → Adds by (get_or t.aggregates place d) after value) → place < length t.aggregates
      → StandsDense by (record t { aggregates = set t.aggregates place after }) s (window ++ entry ∷ [])
  taken_at after adds inside = record {
    kept = known.kept;
    ranked = known.ranked;
    room = known.room;
    places = length-set t.aggregates place after ∙ known.places;
    taken = all_taken;
    each = λ r d below. each r d (omega (arith, below, length-set t.aggregates place after)) (r == place) refl;
  }
    where
      itself : (q : ℕ) → (q == q) ≡ true
      itself q = eq-eqb q q refl

      each : (r : ℕ) (d : A) → r < length t.aggregates → (b : Bool) → (r == place) ≡ b
          → HasRows by (get_or (set t.aggregates place after) r d) s (window ++ entry ∷ []) (Some (series_of s.kept t.keys r))
      each r d below true e =
          let it : place ≡ r = sym (eqb-true r place e) in
          subst (λ (q : ℕ). HasRows by (get_or (set t.aggregates place after) q d) s (window ++ entry ∷ []) (Some (series_of s.kept t.keys q))) it
          (subst (λ (a : A). HasRows by a s (window ++ entry ∷ []) (Some (series_of s.kept t.keys place))) (sym (get_or-set_same t.aggregates place after d inside))
          (taker (get_or t.aggregates place d) after (adds d) (known.each place d inside)))
      each r d below false e =
          let apart : r ≡ place → ⊥ = λ same. true≢false (sym (ap (λ (q : ℕ). q == place) same ∙ itself place) ∙ e) in
          subst (λ (a : A). HasRows by a s (window ++ entry ∷ []) (Some (series_of s.kept t.keys r))) (sym (get_or-set_other t.aggregates place r after d apart))
          (same_rows r (get_or t.aggregates r d) (omega (arith, below, known.places)) apart (known.each r d below))

  -- whether the value fits the stream, by the aggregate of that rank
  pub dense_judges : (verdict : Bool) → ((a : A) (added : List ℤ) (v : ℤ) → by.stands a added → by.fits a v ≡ in_range (by.aggregation a) (added ++ v ∷ []))
      → (list : List A) (r : ℕ) → list ≡ t.aggregates → r ≡ rank t.kept t.keys set' → JudgesAt by list r value verdict → fits_stream s window entry ≡ verdict
  dense_judges verdict law list r aggregates is judges =
      at (subst (λ (q : ℕ). JudgesAt by t.aggregates q value verdict) (is ∙ ap (λ (kept : List Bool). rank kept t.keys set') known.kept)
      (subst (λ (all : List A). JudgesAt by all r value verdict) aggregates judges))
    where
      at : JudgesAt by t.aggregates place value verdict → fits_stream s window entry ≡ verdict
      at j =
          dense_fits j.aggregate (law j.aggregate)
          (subst (λ (a : A). HasRows by a s window (Some (series_of s.kept t.keys place))) (get_or_from_slice_get t.aggregates place j.aggregate j.aggregate j.found)
          (known.each place j.aggregate j.within))
          ∙ j.fits

  -- the table with the value
  dense_takes : (aggregates : List A) → AddsAt by t.aggregates aggregates (rank t.kept t.keys set') value
      → StandsDense by (record t { aggregates = aggregates }) s (window ++ entry ∷ [])
  dense_takes aggregates adds = at (subst (λ (kept : List Bool). AddsAt by t.aggregates aggregates (rank kept t.keys set') value) known.kept adds)
    where
      at : AddsAt by t.aggregates aggregates place value → StandsDense by (record t { aggregates = aggregates }) s (window ++ entry ∷ [])
      at a =
          subst (λ (all : List A). StandsDense by (record t { aggregates = all }) s (window ++ entry ∷ [])) (sym a.written)
          (taken_at a.after
          (λ d. subst (λ (b : A). Adds by b a.after value) (sym (get_or_from_slice_get t.aggregates place a.before d a.found)) a.adds)
          (slice_get_within t.aggregates place a.before a.found))

-- a table that is ready takes the value
pub dense_put : {A P : Type 0} (by : aggregate.Ghosts A P) (old now : DenseValue A) (set' : List ℕ) (value : ℤ) (index : ℕ) (aggregates : List A) → IsReadyDense by old now set' value (Held index)
    → AddsAt by now.aggregates aggregates index value → TakesRecording (StandsDense by old) (StandsDense by (record now { aggregates = aggregates })) set' value
dense_put {A} by old now set' value index aggregates ready adds = λ s window recorder known.
    let at : index ≡ rank old.kept old.keys set' = let held = ready.falls.at in cc in
    subst (λ (t : DenseValue A). StandsDense by (record t { aggregates = aggregates }) s (window ++ entry_of recorder set' value ∷ [])) (sym ready.same)
    (dense_takes by old s window known recorder set' value ready.falls.taken aggregates
    (subst (λ (r : ℕ). AddsAt by old.aggregates aggregates r value) at (subst (λ (t : DenseValue A). AddsAt by t.aggregates aggregates index value) ready.same adds)))
