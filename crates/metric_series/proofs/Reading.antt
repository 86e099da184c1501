-- What a table reports is what the definitions say of the recordings.
use Rattle.std.proofs.Common.{◌≡◌, ℕ, zero, suc, ℤ, Bool, true, false, not, ◌||◌, cond, List, [], ◌∷◌, ◌++◌, Option, Some, None, length, map, take, refl, sym, ap, subst, ◌∙◌, arith}
use Rattle.std.specs.Prelude.{filter, ◌==◌}
use Rattle.std.specs.List.{list_any}
use Rattle.std.specs.Map.{keys_of, lookup}
use Rattle.std.specs.Option.{option_to_list}
use Rattle.std.specs.Str.{bytes_eq}
use Rattle.std.proofs.lemmas.Bool.{ne_eqb, true≢false}
use Rattle.std.proofs.lemmas.List.{length-map}
use Rattle.metric_aggregate.specs.declared.aggregate.Aggregate as aggregate
use Rattle.metric_aggregate.specs.Aggregation.{Aggregation}
use Rattle.metric_aggregate.specs.Value.{value_of}
use Rattle.metric_history.specs.Aggregations.{stream_aggregation}
use Rattle.metric_history.specs.declared.batch.Point.{Point}
use Rattle.metric_history.specs.declared.entry.Entry.{Entry}
use Rattle.metric_history.specs.Points.{values, ascending, point, points, overflow}
use Rattle.metric_history.specs.Series.{all_series, belongs, distinct, has, held, rows}
use Rattle.metric_history.specs.SeriesLaws.{has-distinct, has_all_series}
use Rattle.metric_views.specs.declared.stream.Stream.{Stream}
use Rattle.metric_series.specs.Calls.{point_of}
use Rattle.metric_series.specs.Tables.{HasRest, HasRows, StandsTable, TableValue}

none_passes : (p : Entry → Bool) (entries : List Entry) → (length (filter p entries) == 0) ≡ not (list_any p entries)
none_passes p [] = refl
none_passes p (e ∷ entries) = at (p e) (none_passes p entries)
  where
    at : (b : Bool) → (length (filter p entries) == 0) ≡ not (list_any p entries) → (length (cond b (e ∷ filter p entries) (filter p entries)) == 0) ≡ not (b || list_any p entries)
    at true rest = ne_eqb (length (e ∷ filter p entries)) 0 (λ h. omega (arith, h))
    at false rest = rest

has_taken : (n : ℕ) (keys : List (List ℕ)) (key : List ℕ) → has (take n keys) key ≡ true → has keys key ≡ true
has_taken zero keys key h = absurd (true≢false (sym h))
has_taken (suc n) [] key h = h
has_taken (suc n) (k ∷ keys) key h = at (bytes_eq k key) h (has_taken n keys key)
  where
    at : (b : Bool) → (b || has (take n keys) key) ≡ true → (has (take n keys) key ≡ true → has keys key ≡ true) → (b || has keys key) ≡ true
    at true h rest = refl
    at false h rest = rest h

-- a held series has a recording
has_values : (s : Stream) (window : List Entry) (key : List ℕ) → has (held s window) key ≡ true → (length (values (rows s window (Some key))) == 0) ≡ false
has_values s window key there =
    let keys : List (List ℕ) = all_series s.kept window in
    let any : list_any (belongs s window (Some key)) window ≡ true =
    sym (has_all_series s.kept window key) ∙ sym (has-distinct (all_series s.kept window) key) ∙ has_taken s.limit (distinct (all_series s.kept window)) key there in
    ap (λ (n : ℕ). n == 0) (length-map (rows s window (Some key)) (λ (e : Entry). e.value))
    ∙ none_passes (belongs s window (Some key)) window
    ∙ ap not any

some_point : (kind : Aggregation) (place : Option (List ℕ)) (added : List ℤ) → (length added == 0) ≡ false → point_of kind place added ≡ Some (record { set = place; value = value_of kind added })
some_point kind place [] some = absurd (true≢false some)
some_point kind place (x ∷ xs) some = refl

perhaps_point : (kind : Aggregation) (place : Option (List ℕ)) (added : List ℤ) (b : Bool) → (length added == 0) ≡ not b
    → option_to_list (point_of kind place added) ≡ cond b (record { set = place; value = value_of kind added } ∷ []) []
perhaps_point kind place [] true e = absurd (true≢false e)
perhaps_point kind place [] false e = refl
perhaps_point kind place (x ∷ xs) true e = refl
perhaps_point kind place (x ∷ xs) false e = absurd (true≢false (sym e ∙ ne_eqb (length (x ∷ xs)) 0 (λ h. omega (arith, h))))

module _ {A P : Type 0} (by : aggregate.Ghosts A P) (t : TableValue A P) (s : Stream) (window : List Entry) (known : StandsTable by t s window) where
  -- what the aggregate of a held series gives is its point
  pub point_is : (key : List ℕ) (a : A) (found : Option Point) → has (keys_of t.series) key ≡ true → lookup (bytes_eq key) t.series ≡ Some a
      → ((added : List ℤ) → by.stands a added → found ≡ point_of (by.aggregation a) (Some key) added) → found ≡ Some (point s window (Some key))
  point_is key a found there at read =
      let had = known.each key a at in
      read (values (rows s window (Some key))) had.stands
      ∙ ap (λ (kind : Aggregation). point_of kind (Some key) (values (rows s window (Some key)))) had.aggregation
      ∙ some_point (stream_aggregation s) (Some key) (values (rows s window (Some key))) (has_values s window key (ap (λ (keys : List (List ℕ)). has keys key) (sym known.held) ∙ there))

  rest_is : option_to_list (point_of (stream_aggregation s) None (values (rows s window None))) ≡ overflow s window
  rest_is =
      perhaps_point (stream_aggregation s) None (values (rows s window None)) (list_any (belongs s window None) window)
      (ap (λ (n : ℕ). n == 0) (length-map (rows s window None) (λ (e : Entry). e.value)) ∙ none_passes (belongs s window None) window)

  -- what that of the overflow series gives is the overflow point
  pub overflow_is : (a : A) (found : Option Point) → t.overflow ≡ Some a → ((added : List ℤ) → by.stands a added → found ≡ point_of (by.aggregation a) None added)
      → option_to_list found ≡ overflow s window
  overflow_is a found at read =
      let had : HasRows by a s window None = (subst (λ (o : Option A). HasRest by o s window) at known.rest).0 in
      ap option_to_list (read (values (rows s window None)) had.stands ∙ ap (λ (kind : Aggregation). point_of kind None (values (rows s window None))) had.aggregation)
      ∙ rest_is

  -- where it has none, there is no overflow point
  pub no_overflow : t.overflow ≡ None → [] ≡ overflow s window
  no_overflow none =
      let no_rows : rows s window None ≡ [] = subst (λ (o : Option A). HasRest by o s window) none known.rest in
      ap (λ (es : List Entry). option_to_list (point_of (stream_aggregation s) None (values es))) (sym no_rows)
      ∙ rest_is

  -- the points of the series in ascending order, and the overflow point where there is one
  pub points_are : (sorted : List (List ℕ)) (found : List Point) (last : Option Point) → sorted ≡ ascending (keys_of t.series) → found ≡ map (λ key. point s window (Some key)) sorted
      → option_to_list last ≡ overflow s window → found ++ option_to_list last ≡ points s window
  points_are sorted found last order each rest =
      ap (λ (ps : List Point). found ++ ps) rest
      ∙ ap (λ (ps : List Point). ps ++ overflow s window) (each ∙ ap (map (λ key. point s window (Some key))) (order ∙ ap ascending known.held))
