-- What is shown after some batches.
use Rattle.std.proofs.Common.{◌≡◌, ◌≢◌, ◌==◌, ◌∙◌, ℕ, zero, suc, ◌+◌, ◌<◌, Bool, true, false, ◌||◌, ◌&&◌, List, [], ◌∷◌, ◌++◌}
use Rattle.std.proofs.Common.{Option, Some, None, length, map, take, drop, set, get_or, refl, sym, ap, arith}
use Rattle.std.specs.Prelude.{slice_get, slice_set}
use Rattle.std.specs.Option.{option_map}
use Rattle.std.proofs.Math.Bool.{or-false}
use Rattle.std.proofs.lemmas.Bool.{eq-eqb, ne_eqb}
use Rattle.std.proofs.lemmas.List.{get_or_default}
use Rattle.std.proofs.lemmas.List.Edits.{map_over_more}
use Rattle.std.proofs.lemmas.Option.{same_Some}
use Rattle.metric_export.specs.Handings.{has_points}
use Rattle.metric_history.specs.declared.batch.Batch.{Batch}
use Rattle.metric_periodic.specs.Outlets.{AreRefused, CollectsTold, Gathers, Showing}
use Rattle.metric_periodic.specs.Shown.{Notes, noted}
use Rattle.metric_periodic.specs.declared.each.RefusedInstrument.{RefusedInstrument}
use Rattle.metric_periodic.specs.declared.ended.Uncollected.{Uncollected}
use Rattle.metric_periodic.specs.declared.ended.Uncollected.TheVariants.{All, Instruments}
use Rattle.metric_periodic.specs.declared.shown.Shown.{Shown}
use Rattle.metric_seat.specs.Seats.{ProviderValue}

and_kept : (e r : Bool) → (e && (r || true)) ≡ e
and_kept true true = refl
and_kept true false = refl
and_kept false r = refl

-- a list in which one place changes
each_at : {X : Type 0} (f : ℕ → X → X) (xs : List X) (k : ℕ) (x y : X) → slice_get xs k ≡ Some x → y ≡ f k x
    → ((i : ℕ) (z : X) → i ≢ k → f i z ≡ z) → (i : ℕ) → slice_get (slice_set xs k y) i ≡ option_map (f i) (slice_get xs i)
each_at f [] k x y there is other i = absurd cc
each_at f (w ∷ ws) zero x y there is other zero = ap Some (is ∙ ap (f 0) (sym (same_Some w x there)))
each_at {X} f (w ∷ ws) zero x y there is other (suc i) = kept (slice_get ws i)
  where
    kept : (z : Option X) → z ≡ option_map (f (suc i)) z
    kept None = refl
    kept (Some z) = ap Some (sym (other (suc i) z (λ same. omega (arith, same))))
each_at f (w ∷ ws) (suc k) x y there is other zero = ap Some (sym (other 0 w (λ same. omega (arith, same))))
each_at f (w ∷ ws) (suc k) x y there is other (suc i) =
    each_at (λ n. f (suc n)) ws k x y there is (λ n z differs. other (suc n) z (λ same. differs (omega (arith, same)))) i

-- what is noted of another instrument
noted_other : (is_refused : Bool) (batch : Batch) (instrument : ℕ) (old : Shown) → (batch.instrument == instrument) ≡ false
    → noted is_refused (batch ∷ []) instrument old ≡ old
noted_other is_refused batch instrument old other = rw (other, or-false old.this_run, and_kept old.ended_run is_refused) refl

-- and of its own
noted_own : (is_refused : Bool) (batch : Batch) (old : Shown)
    → record { this_run = old.this_run || has_points batch; ended_run = old.ended_run && is_refused } ≡ noted is_refused (batch ∷ []) batch.instrument old
noted_own is_refused batch old =
    rw (eq-eqb batch.instrument batch.instrument refl, or-false (has_points batch), or-false is_refused) refl

-- one batch
pub notes_one : (is_refused : Bool) (batch : Batch) (old : List Shown) (x y : Shown) → slice_get old batch.instrument ≡ Some x
    → y ≡ record { this_run = x.this_run || has_points batch; ended_run = x.ended_run && is_refused }
    → Notes is_refused (batch ∷ []) old (slice_set old batch.instrument y)
notes_one is_refused batch old x y there is =
    each_at (noted is_refused (batch ∷ [])) old batch.instrument x y there (is ∙ noted_own is_refused batch x)
    (λ i z differs. noted_other is_refused batch i z (ne_eqb batch.instrument i (λ same. differs (sym same))))

-- one of no instrument
pub notes_past : (is_refused : Bool) (batch : Batch) (old : List Shown) → slice_get old batch.instrument ≡ None
    → Notes is_refused (batch ∷ []) old old
notes_past is_refused batch old past instrument = sym (same (slice_get old instrument) refl)
  where
    same : (x : Option Shown) → slice_get old instrument ≡ x → option_map (noted is_refused (batch ∷ []) instrument) x ≡ x
    same None at = refl
    same (Some x) at = ap Some (noted_other is_refused batch instrument x (ne_eqb batch.instrument instrument
        (λ own. let clash : Some x ≡ None = sym at ∙ ap (slice_get old) (sym own) ∙ past in cc)))

-- one more that is written over what was there
pub written : {X : Type 0} (f : X → X) (xs ys : List X) (i : ℕ) (d y : X) → i < length xs → length ys ≡ length xs
    → ys ≡ map f (take i xs) ++ drop i xs → y ≡ f (get_or ys i d) → set ys i y ≡ map f (take (i + 1) xs) ++ drop (i + 1) xs
written f xs ys i d y within long is wrote =
    let there : i < length ys = omega (arith, long, within) in
    rw wrote (map_over_more f xs ys i (get_or ys i d) within is (get_or_default ys i d (get_or ys i d) there))

-- what a collection gave, as it is told
pub told_by : (p : ProviderValue) (now : ℕ) (old new : Showing) (batches : List Batch) (refused : List RefusedInstrument)
    (told : Option Uncollected) → Gathers p now old new batches refused → AreRefused refused told → CollectsTold p now old new batches told
told_by p now old new batches refused None gathers are = rw are at gathers
told_by p now old new batches refused (Some All) gathers are = absurd are
told_by p now old new batches refused (Some (Instruments told)) gathers are = (rw (← are.0) at gathers, rw (← are.0) at are.1)
