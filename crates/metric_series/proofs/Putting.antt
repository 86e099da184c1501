-- A table that is ready for a value, and the table with the value.
use Rattle.std.proofs.Common.{◌≡◌, ℕ, ℤ, Bool, List, [], ◌∷◌, ◌++◌, Option, Some, None, sym, ap, subst, ◌∙◌, w64, SFits}
use Rattle.std.specs.Prelude.{slice_get}
use Rattle.std.specs.Map.{values_of, lookup, set_value}
use Rattle.std.specs.Str.{bytes_eq}
use Rattle.indexmap.specs.IndexMap.{set_value_at}
use Rattle.metric_aggregate.specs.declared.aggregate.Aggregate as aggregate
use Rattle.metric_aggregate.specs.Range.{in_range}
use Rattle.metric_combinations.specs.Restrictions.{restricted}
use Rattle.metric_history.specs.Series.{series}
use Rattle.metric_series.specs.Calls.{ForgetsAll, TakesRecording, entry_of}
use Rattle.metric_series.specs.Ready.{Adds, AddsAt, AddsRest, FitsAt, FitsRest, IsReadyTable}
use Rattle.metric_series.specs.Tables.{StandsTable, TableValue}
use Rattle.metric_series.specs.declared.place.Place.{Place}
use Rattle.metric_series.specs.declared.place.Place.TheVariants.{Held, New, Overflow, NewOverflow}
use Rattle.metric_series.proofs.Adding.{first_stands, held_stands, new_stands, one_in_range, rest_stands, stands_for_none}
use Rattle.metric_series.proofs.Placing.{found_at, found_last, written_at, written_last}

module _ {A P : Type 0} (by : aggregate.Ghosts A P) (old now : TableValue A P) (set : List ℕ) (value : ℤ) where
  module _ (index : ℕ) (r : IsReadyTable by old now set value (Held index)) where
    held_found : slice_get (values_of now.series) index ≡ Some r.falls.aggregate
    held_found =
        ap (λ (t : TableValue A P). slice_get (values_of t.series) index) r.prepared
        ∙ found_at (bytes_eq (restricted old.kept set)) old.series index r.falls.place
        ∙ r.falls.found

    pub held_fits_at : FitsAt by now.series index value
    held_fits_at = (r.falls.aggregate, held_found, r.falls.fits)

    -- a held series takes the value
    pub held_put : (entries : List (List ℕ × A)) → AddsAt by now.series entries index value → TakesRecording (StandsTable by old) (StandsTable by (record now { series = entries })) set value
    held_put entries adds = λ s window recorder known.
        let key : List ℕ = restricted old.kept set in
        let own : key ≡ series s.kept (entry_of recorder set value) = ap (λ (kept : List Bool). restricted kept set) known.kept in
        let at : lookup (bytes_eq key) old.series ≡ Some adds.before = r.falls.found ∙ sym held_found ∙ adds.found in
        let is : entries ≡ set_value (bytes_eq key) old.series adds.after =
        adds.written ∙ ap (λ (t : TableValue A P). set_value_at t.series index adds.after) r.prepared ∙ written_at (bytes_eq key) old.series index adds.after r.falls.place in
        subst (λ (t : TableValue A P). StandsTable by (record t { series = entries }) s (window ++ entry_of recorder set value ∷ [])) (sym r.prepared)
        (held_stands by old s window (entry_of recorder set value) key own known adds.before at adds.after entries adds.adds is)

  module _ (index : ℕ) (r : IsReadyTable by old now set value (New index)) where
    new_found : slice_get (values_of now.series) index ≡ Some r.prepared.0.empty
    new_found =
        ap (λ (es : List (List ℕ × A)). slice_get (values_of es) index) r.prepared.0.last
        ∙ ap (slice_get (values_of (old.series ++ (restricted old.kept set, r.prepared.0.empty) ∷ []))) r.falls.place
        ∙ found_last old.series (restricted old.kept set) r.prepared.0.empty

    pub new_fits_at : ((a : A) (added : List ℤ) (value : ℤ) → by.stands a added → by.fits a value ≡ in_range (by.aggregation a) (added ++ value ∷ [])) → SFits w64 value → FitsAt by now.series index value
    new_fits_at law in64 =
        (r.prepared.0.empty, new_found, law r.prepared.0.empty [] value r.prepared.0.made.stands ∙ one_in_range (by.aggregation r.prepared.0.empty) value in64)

    -- a series that is the next takes the value
    pub new_put : (entries : List (List ℕ × A)) → AddsAt by now.series entries index value → TakesRecording (StandsTable by old) (StandsTable by (record now { series = entries })) set value
    new_put entries adds = λ s window recorder known.
        let key : List ℕ = restricted old.kept set in
        let empty : A = r.prepared.0.empty in
        let own : key ≡ series s.kept (entry_of recorder set value) = ap (λ (kept : List Bool). restricted kept set) known.kept in
        let same : Some r.prepared.0.empty ≡ Some adds.before = sym new_found ∙ adds.found in
        let begun : Adds by r.prepared.0.empty adds.after value = subst (λ (o : Option A). at_some o) (sym same) adds.adds in
        let is : entries ≡ old.series ++ (key, adds.after) ∷ [] =
        adds.written
        ∙ ap (λ (es : List (List ℕ × A)). set_value_at es index adds.after) r.prepared.0.last
        ∙ ap (λ (i : ℕ). set_value_at (old.series ++ (key, empty) ∷ []) i adds.after) r.falls.place
        ∙ written_last old.series key empty adds.after in
        subst (λ (t : TableValue A P). StandsTable by (record t { series = entries }) s (window ++ entry_of recorder set value ∷ [])) (sym r.prepared.1)
        (new_stands by old s window (entry_of recorder set value) key own known r.falls.absent r.falls.room empty adds.after entries r.prepared.0.made begun is)
      where
        at_some : Option A → Type 0
        at_some (Some a) = Adds by a adds.after value
        at_some None = ⊥

  module _ (r : IsReadyTable by old now set value Overflow) where
    pub rest_fits_at : FitsRest by now.overflow value
    rest_fits_at = (r.falls.aggregate, ap (λ (t : TableValue A P). t.overflow) r.prepared ∙ r.falls.found, r.falls.fits)

    -- the overflow series takes the value
    pub rest_put : (after : Option A) → AddsRest by now.overflow after value → TakesRecording (StandsTable by old) (StandsTable by (record now { overflow = after })) set value
    rest_put after adds = λ s window recorder known.
        let key : List ℕ = restricted old.kept set in
        let own : key ≡ series s.kept (entry_of recorder set value) = ap (λ (kept : List Bool). restricted kept set) known.kept in
        let at : old.overflow ≡ Some adds.before = sym (ap (λ (t : TableValue A P). t.overflow) r.prepared) ∙ adds.found in
        subst (λ (t : TableValue A P). StandsTable by (record t { overflow = after }) s (window ++ entry_of recorder set value ∷ [])) (sym r.prepared)
        (subst (λ (o : Option A). StandsTable by (record old { overflow = o }) s (window ++ entry_of recorder set value ∷ [])) (sym adds.written)
        (rest_stands by old s window (entry_of recorder set value) key own known r.falls.absent r.falls.full adds.before adds.after at adds.adds))

  module _ (r : IsReadyTable by old now set value NewOverflow) where
    first_found : now.overflow ≡ Some r.prepared.0
    first_found = ap (λ (t : TableValue A P). t.overflow) r.prepared.2

    pub first_fits_at : ((a : A) (added : List ℤ) (value : ℤ) → by.stands a added → by.fits a value ≡ in_range (by.aggregation a) (added ++ value ∷ [])) → SFits w64 value → FitsRest by now.overflow value
    first_fits_at law in64 =
        (r.prepared.0, first_found, law r.prepared.0 [] value r.prepared.1.stands ∙ one_in_range (by.aggregation r.prepared.0) value in64)

    -- the overflow series takes the value as its first
    pub first_put : (after : Option A) → AddsRest by now.overflow after value → TakesRecording (StandsTable by old) (StandsTable by (record now { overflow = after })) set value
    first_put after adds = λ s window recorder known.
        let key : List ℕ = restricted old.kept set in
        let own : key ≡ series s.kept (entry_of recorder set value) = ap (λ (kept : List Bool). restricted kept set) known.kept in
        let same : Some r.prepared.0 ≡ Some adds.before = sym first_found ∙ adds.found in
        let begun : Adds by r.prepared.0 adds.after value = subst (λ (o : Option A). at_some o) (sym same) adds.adds in
        subst (λ (t : TableValue A P). StandsTable by (record t { overflow = after }) s (window ++ entry_of recorder set value ∷ [])) (sym r.prepared.2)
        (subst (λ (o : Option A). StandsTable by (record old { overflow = o }) s (window ++ entry_of recorder set value ∷ [])) (sym adds.written)
        (first_stands by old s window (entry_of recorder set value) key own known r.falls.absent r.falls.full r.prepared.0 adds.after r.falls.none r.prepared.1 begun))
      where
        at_some : Option A → Type 0
        at_some (Some a) = Adds by a adds.after value
        at_some None = ⊥

  same : now ≡ old → (now.kept ≡ old.kept) × (now.limit ≡ old.limit) × (now.parameters ≡ old.parameters)
  same e = (ap (λ (t : TableValue A P). t.kept) e, ap (λ (t : TableValue A P). t.limit) e, ap (λ (t : TableValue A P). t.parameters) e)

  -- what a table keeps that is made ready
  still : (place : Place) → IsReadyTable by old now set value place → (now.kept ≡ old.kept) × (now.limit ≡ old.limit) × (now.parameters ≡ old.parameters)
  still (Held index) r = same r.prepared
  still (New index) r = (ap (λ (t : TableValue A P). t.kept) r.prepared.1, ap (λ (t : TableValue A P). t.limit) r.prepared.1, ap (λ (t : TableValue A P). t.parameters) r.prepared.1)
  still Overflow r = same r.prepared
  still NewOverflow r = (ap (λ (t : TableValue A P). t.kept) r.prepared.2, ap (λ (t : TableValue A P). t.limit) r.prepared.2, ap (λ (t : TableValue A P). t.parameters) r.prepared.2)

  -- a table that was made ready, and has then forgotten all, stands for no recordings
  pub forgotten : (place : Place) (after : TableValue A P) → IsReadyTable by old now set value place → after.series ≡ [] → after.overflow ≡ None → after.kept ≡ now.kept → after.limit ≡ now.limit
      → after.parameters ≡ now.parameters → ForgetsAll (StandsTable by old) (StandsTable by after)
  forgotten place after r empty free kept limit parameters s window known =
      let e = still place r in
      stands_for_none by after s empty free (kept ∙ e.0 ∙ known.kept) (limit ∙ e.1 ∙ known.limit)
      (ap by.aggregation_of (parameters ∙ e.2) ∙ known.aggregation)
