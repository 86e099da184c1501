-- A table with one value more stands for one recording more.
use Rattle.std.proofs.Common.{◌≡◌, ℕ, zero, suc, ◌<◌, ◌≤◌, ℤ, Bool, true, false, ◌||◌, cond, List, [], ◌∷◌, ◌++◌, Option, Some, None, length, take, refl, sym, ap, subst, ◌∙◌, arith, w64, SFits}
use Rattle.std.specs.Prelude.{is_some}
use Rattle.std.specs.Cmp.Lexicographic.{nat_list_eq_equiv}
use Rattle.std.specs.List.{list_any}
use Rattle.std.specs.Map.{keys_of, lookup, set_value}
use Rattle.std.specs.Str.{bytes_eq}
use Rattle.std.proofs.lemmas.Bool.{true≢false}
use Rattle.std.proofs.lemmas.Int.{ints}
use Rattle.std.proofs.lemmas.List.{length_push, map_push}
use Rattle.std.proofs.lemmas.Map.{keys-set_value, lookup-set_value}
use Rattle.std.proofs.lemmas.Map.Entries.{length-keys_of}
use Rattle.std.proofs.lemmas.Map.Made.{is_some-lookup}
use Rattle.metric_aggregate.specs.declared.aggregate.Aggregate as aggregate
use Rattle.metric_aggregate.specs.Aggregation.{Aggregation}
use Rattle.metric_aggregate.specs.Bounds.{in_range-within}
use Rattle.metric_aggregate.specs.Range.{in_range}
use Rattle.metric_history.specs.Aggregations.{stream_aggregation}
use Rattle.metric_history.specs.declared.entry.Entry.{Entry}
use Rattle.metric_history.specs.Points.{values}
use Rattle.metric_views.specs.declared.stream.Stream.{Stream}
use Rattle.metric_history.specs.Series.{has, held, rows, series, place_found}
use Rattle.metric_history.specs.SeriesLaws.{same_key, key_is_same}
use Rattle.metric_history.specs.SumLaws.{rows_push}
use Rattle.metric_history.specs.Windows.{fits_stream}
use Rattle.metric_series.specs.Ready.{Adds, IsEmpty}
use Rattle.metric_series.specs.Tables.{HasRest, HasRows, StandsTable, TableValue}
use Rattle.metric_series.proofs.LongerWindow.{held-known, held-full, held-new, place_found_is, fits_where_found, values_where_found, rows-other, rows-new, rest-known, rest-room, rest-new}

has_flipped : (key : List ℕ) (keys : List (List ℕ)) → list_any (bytes_eq key) keys ≡ has keys key
has_flipped key [] = refl
has_flipped key (k ∷ keys) =
    ap (λ (b : Bool). b || list_any (bytes_eq key) keys) (nat_list_eq_equiv.symm key k) ∙ ap (λ (b : Bool). bytes_eq k key || b) (has_flipped key keys)

-- one value alone is in range
pub one_in_range : (kind : Aggregation) (value : ℤ) → SFits w64 value → in_range kind (value ∷ []) ≡ true
one_in_range kind value fits = in_range-within kind (value ∷ []) (omega (arith, ints)) (omega (arith, ints)) (omega arith)

module _ {A : Type 0} where
  pub lookup-held : (key : List ℕ) (es : List (List ℕ × A)) → is_some (lookup (bytes_eq key) es) ≡ has (keys_of es) key
  lookup-held key es = is_some-lookup (bytes_eq key) es ∙ has_flipped key (keys_of es)

  lookup-last : (test : List ℕ → Bool) (es : List (List ℕ × A)) (key : List ℕ) (a : A) → test key ≡ true → lookup test es ≡ None → lookup test (es ++ (key, a) ∷ []) ≡ Some a
  lookup-last test [] key a own none = ap (λ (b : Bool). cond b (Some a) None) own
  lookup-last test (e ∷ es) key a own none = at (test e.0) none (lookup-last test es key a own)
    where
      at : (b : Bool) → cond b (Some e.1) (lookup test es) ≡ None → (lookup test es ≡ None → lookup test (es ++ (key, a) ∷ []) ≡ Some a)
          → cond b (Some e.1) (lookup test (es ++ (key, a) ∷ [])) ≡ Some a
      at true h rest = absurd cc
      at false h rest = rest h

  lookup-others : (test : List ℕ → Bool) (es : List (List ℕ × A)) (key : List ℕ) (a : A) → test key ≡ false → lookup test (es ++ (key, a) ∷ []) ≡ lookup test es
  lookup-others test [] key a other = ap (λ (b : Bool). cond b (Some a) None) other
  lookup-others test (e ∷ es) key a other = ap (λ (o : Option A). cond (test e.0) (Some e.1) o) (lookup-others test es key a other)

module _ {A P : Type 0} (by : aggregate.Ghosts A P) where
  rows_added : (s : Stream) (window : List Entry) (entry : Entry) (place : Option (List ℕ)) (old new : A) → place_found s window entry ≡ place
      → Adds by old new entry.value → HasRows by old s window place → HasRows by new s (window ++ entry ∷ []) place
  rows_added s window entry place old new found adds had =
      let longer : values (rows s window place) ++ entry.value ∷ [] ≡ values (rows s (window ++ entry ∷ []) place) =
      ap (λ (p : Option (List ℕ)). values (rows s window p) ++ entry.value ∷ []) (sym found)
      ∙ values_where_found s window entry
      ∙ ap (λ (p : Option (List ℕ)). values (rows s (window ++ entry ∷ []) p)) found in
      record {
        aggregation = adds.aggregation ∙ had.aggregation;
        stands = subst (λ (vs : List ℤ). by.stands new vs) longer (adds.stands (values (rows s window place)) had.stands);
      }

  rows_same : (s : Stream) (window : List Entry) (entry : Entry) (place : Option (List ℕ)) (a : A) → rows s (window ++ entry ∷ []) place ≡ rows s window place
      → HasRows by a s window place → HasRows by a s (window ++ entry ∷ []) place
  rows_same s window entry place a same had =
      record { aggregation = had.aggregation; stands = subst (λ (es : List Entry). by.stands a (values es)) (sym same) had.stands }

  rest_same : (s : Stream) (window : List Entry) (entry : Entry) (o : Option A) → rows s (window ++ entry ∷ []) None ≡ rows s window None
      → HasRest by o s window → HasRest by o s (window ++ entry ∷ [])
  rest_same s window entry (Some a) same had = (rows_same s window entry None a same had.0, λ none. had.1 (sym same ∙ none))
  rest_same s window entry None same had = same ∙ had

  fits_found : (s : Stream) (window : List Entry) (entry : Entry) (place : Option (List ℕ)) (a : A)
      → ((added : List ℤ) (value : ℤ) → by.stands a added → by.fits a value ≡ in_range (by.aggregation a) (added ++ value ∷ [])) → place_found s window entry ≡ place
      → HasRows by a s window place → fits_stream s window entry ≡ by.fits a entry.value
  fits_found s window entry place a law found had =
      fits_where_found s window entry
      ∙ ap (λ (p : Option (List ℕ)). in_range (stream_aggregation s) (values (rows s window p) ++ entry.value ∷ [])) found
      ∙ ap (λ (kind : Aggregation). in_range kind (values (rows s window place) ++ entry.value ∷ [])) (sym had.aggregation)
      ∙ sym (law (values (rows s window place)) entry.value had.stands)

  -- a table of no series stands for no recordings
  pub stands_for_none : (t : TableValue A P) (s : Stream) → t.series ≡ [] → t.overflow ≡ None → t.kept ≡ s.kept → t.limit ≡ s.limit
      → by.aggregation_of t.parameters ≡ stream_aggregation s → StandsTable by t s []
  stands_for_none t s empty free kept limit aggregation = record {
    kept = kept;
    limit = limit;
    aggregation = aggregation;
    held = ap keys_of empty ∙ sym (none_taken s.limit);
    each = λ key a at. let never : None ≡ Some a = sym (ap (lookup (bytes_eq key)) empty) ∙ at in absurd cc;
    rest = subst (λ (o : Option A). HasRest by o s []) (sym free) refl;
  }
    where
      none_taken : (n : ℕ) → take {A = List ℕ} n [] ≡ []
      none_taken zero = refl
      none_taken (suc n) = refl

  module _ (t : TableValue A P) (s : Stream) (window : List Entry) (entry : Entry) (key : List ℕ) (own : key ≡ series s.kept entry) (known : StandsTable by t s window) where
    held_at : (b : Bool) → is_some (lookup (bytes_eq key) t.series) ≡ b → has (held s window) (series s.kept entry) ≡ b
    held_at b e = ap (has (held s window)) (sym own) ∙ ap (λ (keys : List (List ℕ)). has keys key) (sym known.held) ∙ sym (lookup-held key t.series) ∙ e

    module _ (a : A) (at : lookup (bytes_eq key) t.series ≡ Some a) where
      in_held : has (held s window) (series s.kept entry) ≡ true
      in_held = held_at true (ap is_some at)

      found_held : place_found s window entry ≡ Some key
      found_held =
          place_found_is s window entry true (ap (λ (keys : List (List ℕ)). has keys (series s.kept entry)) (held-known s window entry in_held) ∙ in_held) ∙ ap Some (sym own)

      -- the value falls into a held series
      pub held_fits : ((added : List ℤ) (value : ℤ) → by.stands a added → by.fits a value ≡ in_range (by.aggregation a) (added ++ value ∷ []))
          → fits_stream s window entry ≡ by.fits a entry.value
      held_fits law = fits_found s window entry (Some key) a law found_held (known.each key a at)

      pub held_stands : (new : A) (entries : List (List ℕ × A)) → Adds by a new entry.value → entries ≡ set_value (bytes_eq key) t.series new
          → StandsTable by (record t { series = entries }) s (window ++ entry ∷ [])
      held_stands new entries adds is = record {
        kept = known.kept;
        limit = known.limit;
        aggregation = known.aggregation;
        held = ap keys_of is ∙ keys-set_value (bytes_eq key) t.series new ∙ known.held ∙ sym (held-known s window entry in_held);
        each = each;
        rest = rest_same s window entry t.overflow (rest-known s window entry in_held) known.rest;
      }
        where
          own_rows : HasRows by new s (window ++ entry ∷ []) (Some key)
          own_rows = rows_added s window entry (Some key) a new found_held adds (known.each key a at)

          split : (other : List ℕ) (b : A) (same : Bool) → bytes_eq key other ≡ same → cond same (Some new) (lookup (bytes_eq other) t.series) ≡ Some b
              → HasRows by b s (window ++ entry ∷ []) (Some other)
          split other b true e h =
              let it : new ≡ b = cc in
              subst (λ (k : List ℕ). HasRows by b s (window ++ entry ∷ []) (Some k)) (same_key key other e)
              (subst (λ (x : A). HasRows by x s (window ++ entry ∷ []) (Some key)) it own_rows)
          split other b false e h =
              rows_same s window entry (Some other) b (rows-other s window entry other (ap (λ (k : List ℕ). bytes_eq k other) (sym own) ∙ e)) (known.each other b h)

          each : (other : List ℕ) (b : A) → lookup (bytes_eq other) entries ≡ Some b → HasRows by b s (window ++ entry ∷ []) (Some other)
          each other b h =
              let found = lookup-set_value nat_list_eq_equiv (bytes_eq key) (λ x y e. nat_list_eq_equiv.congr key x y e) other new t.series (ap is_some at) in
              split other b (bytes_eq key other) refl (sym found ∙ ap (lookup (bytes_eq other)) (sym is) ∙ h)

    module _ (at : lookup (bytes_eq key) t.series ≡ None) where
      not_held : has (held s window) (series s.kept entry) ≡ false
      not_held = held_at false (ap is_some at)

      module _ (room : length t.series < t.limit) where
        some_place : length (held s window) < s.limit
        some_place = omega (arith, room, known.limit, length-keys_of t.series, ap length known.held)

        held_longer : held s (window ++ entry ∷ []) ≡ held s window ++ key ∷ []
        held_longer = held-new s window entry some_place not_held ∙ ap (λ (k : List ℕ). held s window ++ k ∷ []) (sym own)

        found_new : place_found s window entry ≡ Some key
        found_new = place_found_is s window entry true last ∙ ap Some (sym own)
          where
            in_last : (keys : List (List ℕ)) (k : List ℕ) → has (keys ++ k ∷ []) k ≡ true
            in_last [] k = ap (λ (b : Bool). b || false) (key_is_same k)
            in_last (x ∷ keys) k = either (bytes_eq x k) (in_last keys k)
              where
                either : (b : Bool) → has (keys ++ k ∷ []) k ≡ true → (b || has (keys ++ k ∷ []) k) ≡ true
                either true e = refl
                either false e = e

            last : has (held s (window ++ entry ∷ [])) (series s.kept entry) ≡ true
            last = ap (λ (keys : List (List ℕ)). has keys (series s.kept entry)) (held-new s window entry some_place not_held) ∙ in_last (held s window) (series s.kept entry)

        no_rows : rows s window (Some key) ≡ []
        no_rows = rows-new s window key some_place (ap (has (held s window)) own ∙ not_held)

        -- the value is the first of a series
        pub new_fits : SFits w64 entry.value → fits_stream s window entry ≡ true
        new_fits fits =
            fits_where_found s window entry
            ∙ ap (λ (p : Option (List ℕ)). in_range (stream_aggregation s) (values (rows s window p) ++ entry.value ∷ [])) found_new
            ∙ ap (λ (es : List Entry). in_range (stream_aggregation s) (values es ++ entry.value ∷ [])) no_rows
            ∙ one_in_range (stream_aggregation s) entry.value fits

        pub new_stands : (empty first : A) (entries : List (List ℕ × A)) → IsEmpty by empty t.parameters → Adds by empty first entry.value
            → entries ≡ t.series ++ (key, first) ∷ [] → StandsTable by (record t { series = entries }) s (window ++ entry ∷ [])
        new_stands empty first entries made adds is = record {
          kept = known.kept;
          limit = known.limit;
          aggregation = known.aggregation;
          held = ap keys_of is ∙ map_push (λ (e : List ℕ × A). e.0) t.series (key, first) ∙ ap (λ (keys : List (List ℕ)). keys ++ key ∷ []) known.held ∙ sym held_longer;
          each = each;
          rest = rest_same s window entry t.overflow (rest-new s window entry some_place ∙ sym (rest-room s window some_place)) known.rest;
        }
          where
            one_row : entry.value ∷ [] ≡ values (rows s (window ++ entry ∷ []) (Some key))
            one_row =
                ap (λ (es : List Entry). values es ++ entry.value ∷ []) (sym no_rows)
                ∙ ap (λ (p : Option (List ℕ)). values (rows s window p) ++ entry.value ∷ []) (sym found_new)
                ∙ values_where_found s window entry
                ∙ ap (λ (p : Option (List ℕ)). values (rows s (window ++ entry ∷ []) p)) found_new

            own_rows : HasRows by first s (window ++ entry ∷ []) (Some key)
            own_rows = record {
              aggregation = adds.aggregation ∙ made.aggregation ∙ known.aggregation;
              stands = subst (λ (vs : List ℤ). by.stands first vs) one_row (adds.stands [] made.stands);
            }

            split : (other : List ℕ) (b : A) (same : Bool) → bytes_eq other key ≡ same → lookup (bytes_eq other) (t.series ++ (key, first) ∷ []) ≡ Some b
                → HasRows by b s (window ++ entry ∷ []) (Some other)
            split other b true e h =
                let it : other ≡ key = same_key other key e in
                let none : lookup (bytes_eq other) t.series ≡ None = ap (λ (k : List ℕ). lookup (bytes_eq k) t.series) it ∙ at in
                let last : lookup (bytes_eq other) (t.series ++ (key, first) ∷ []) ≡ Some first = lookup-last (bytes_eq other) t.series key first e none in
                let same : first ≡ b = cc in
                subst (λ (k : List ℕ). HasRows by b s (window ++ entry ∷ []) (Some k)) (sym it)
                (subst (λ (x : A). HasRows by x s (window ++ entry ∷ []) (Some key)) same own_rows)
            split other b false e h =
                rows_same s window entry (Some other) b
                (rows-other s window entry other (ap (λ (k : List ℕ). bytes_eq k other) (sym own) ∙ nat_list_eq_equiv.symm key other ∙ e))
                (known.each other b (sym (lookup-others (bytes_eq other) t.series key first e) ∙ h))

            each : (other : List ℕ) (b : A) → lookup (bytes_eq other) entries ≡ Some b → HasRows by b s (window ++ entry ∷ []) (Some other)
            each other b h = split other b (bytes_eq other key) refl (ap (lookup (bytes_eq other)) (sym is) ∙ h)

      module _ (full : t.limit ≤ length t.series) where
        no_place : s.limit ≤ length (held s window)
        no_place = omega (arith, full, known.limit, length-keys_of t.series, ap length known.held)

        found_rest : place_found s window entry ≡ None
        found_rest =
            place_found_is s window entry false (ap (λ (keys : List (List ℕ)). has keys (series s.kept entry)) (held-full s window entry no_place) ∙ not_held)

        at_rest : (o : Option A) → t.overflow ≡ o → HasRest by o s window
        at_rest o is = subst (λ (o : Option A). HasRest by o s window) is known.rest

        -- the value falls into the overflow series
        pub rest_fits : (a : A) → t.overflow ≡ Some a → ((added : List ℤ) (value : ℤ) → by.stands a added → by.fits a value ≡ in_range (by.aggregation a) (added ++ value ∷ []))
            → fits_stream s window entry ≡ by.fits a entry.value
        rest_fits a is law = fits_found s window entry None a law found_rest (at_rest (Some a) is).0

        -- as its first value
        pub first_fits : t.overflow ≡ None → SFits w64 entry.value → fits_stream s window entry ≡ true
        first_fits none fits =
            fits_where_found s window entry
            ∙ ap (λ (p : Option (List ℕ)). in_range (stream_aggregation s) (values (rows s window p) ++ entry.value ∷ [])) found_rest
            ∙ ap (λ (es : List Entry). in_range (stream_aggregation s) (values es ++ entry.value ∷ [])) (at_rest None none)
            ∙ one_in_range (stream_aggregation s) entry.value fits

        rest_longer : rows s (window ++ entry ∷ []) None ≡ rows s window None ++ entry ∷ []
        rest_longer =
            ap (λ (p : Option (List ℕ)). rows s (window ++ entry ∷ []) p) (sym found_rest)
            ∙ rows_push s window entry
            ∙ ap (λ (p : Option (List ℕ)). rows s window p ++ entry ∷ []) found_rest

        rest_with : (before after : A) → HasRows by before s window None → Adds by before after entry.value
            → StandsTable by (record t { overflow = Some after }) s (window ++ entry ∷ [])
        rest_with before after had adds = record {
          kept = known.kept;
          limit = known.limit;
          aggregation = known.aggregation;
          held = known.held ∙ sym (held-full s window entry no_place);
          each = λ other b h. rows_same s window entry (Some other) b (rows-other s window entry other (unlike other b h (bytes_eq (series s.kept entry) other) refl)) (known.each other b h);
          rest = (rows_added s window entry None before after found_rest adds had, λ none. some (sym rest_longer ∙ none));
        }
          where
            some : rows s window None ++ entry ∷ [] ≡ [] → ⊥
            some none = omega (arith, length_push (rows s window None) entry, ap length none)

            unlike : (other : List ℕ) (b : A) → lookup (bytes_eq other) t.series ≡ Some b → (same : Bool) → bytes_eq (series s.kept entry) other ≡ same → bytes_eq (series s.kept entry) other ≡ false
            unlike other b h true e =
                let there : has (held s window) other ≡ true = ap (λ (keys : List (List ℕ)). has keys other) (sym known.held) ∙ sym (lookup-held other t.series) ∙ ap is_some h in
                absurd (true≢false (sym there ∙ ap (has (held s window)) (sym (same_key (series s.kept entry) other e)) ∙ not_held))
            unlike other b h false e = e

        pub rest_stands : (before after : A) → t.overflow ≡ Some before → Adds by before after entry.value → StandsTable by (record t { overflow = Some after }) s (window ++ entry ∷ [])
        rest_stands before after is adds = rest_with before after (at_rest (Some before) is).0 adds

        pub first_stands : (empty first : A) → t.overflow ≡ None → IsEmpty by empty t.parameters → Adds by empty first entry.value
            → StandsTable by (record t { overflow = Some first }) s (window ++ entry ∷ [])
        first_stands empty first none made adds =
            rest_with empty first
            (record { aggregation = made.aggregation ∙ known.aggregation; stands = subst (λ (es : List Entry). by.stands empty (values es)) (sym (at_rest None none)) made.stands })
            adds
