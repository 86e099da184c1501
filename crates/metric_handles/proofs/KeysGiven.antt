-- Attributes of keys that were compared at the start are refused for their values alone.
use Rattle.std.proofs.Common.{◌≡◌, ℕ, ℤ, ◌+◌, Bool, true, false, cond, ◌||◌, ◌&&◌, List, [], ◌∷◌, map, get_or, zero, suc, Option, Some, None, Result, Ok, Err, refl, sym, ap, subst, ◌∙◌}
use Rattle.std.proofs.lemmas.Bool.{and_from, eq-eqb, or_from}
use Rattle.std.proofs.lemmas.List.{length-map, map-set}
use Rattle.std.proofs.lemmas.List.Sorted.{IsPermutation-sym}
use Rattle.std.specs.Prelude.{not, IfErr, IfSome, slice_get, ◌==◌}
use Rattle.std.specs.List.{list_all, list_any, position_from, swap}
use Rattle.std.specs.List.Sorted.{IsPermutation, SwapsInRange, apply_swaps}
use Rattle.metric_base.specs.Steps.{◌>>=◌, require, require_none, require_some}
use Rattle.metric_base.specs.StepLaws.{after_ok, require_none_ok}
use Rattle.metric_combinations.specs.Combinations.{permits}
use Rattle.metric_contents.specs.declared.contents.Contents.{Contents}
use Rattle.metric_contents.specs.declared.contents.Instrument.{Instrument}
use Rattle.metric_contents.specs.declared.contents.Key.{Key}
use Rattle.metric_contents.specs.declared.contents.Kind.{Kind}
use Rattle.metric_contents.specs.declared.refusal.Refusal.{Refusal}
use Rattle.metric_contents.specs.declared.refusal.Refusal.TheVariants as refusals
use Rattle.metric_contents.specs.Encoding.{Given, IgnoresOrder, allowed_set, encode_of, has_declared_value, has_repeated_key, is_complete, is_declared, is_of, permitted, set_key, set_of}
use Rattle.metric_contents.specs.KeyNames.{is_key}
use Rattle.metric_facts.specs.declared.facts.Facts.{Facts}
use Rattle.metric_facts.specs.Facts.{in_bounds}
use Rattle.metric_plan.specs.Plans.{PlanValue, print_of}
use Rattle.metric_seat.specs.Recordings.{AnswersSeat, RefusesRecording, SeatSpares, told_at}
use Rattle.metric_seat.specs.Seats.{RecorderValue, is_recorder_of}
use Rattle.metric_handles.specs.Bounds.{BoundValue, HandleValue, bound_of}
use Rattle.metric_handles.specs.declared.fault.HandleFault.TheVariants as faults
use Rattle.metric_handles.specs.KeysGiven.{BindsKeys, IsNotOfKeys, IsOfValues, RecordsKeys, keys_of}
use Rattle.metric_handles.specs.Named.{handle_in, handle_of, is_missing, is_text, is_undeclared, keys_checked, number_of_kind, repeated_from}
use Rattle.metric_handles.proofs.Mapped.{list_any-map}

-- ---- what the comparison says of attributes with just these keys

once : (at : ℕ) (attrs : List Given) → repeated_from at (keys_of attrs) ≡ None → has_repeated_key attrs ≡ false
once at [] e = refl
once at (given ∷ attrs) e = by (list_any (is_text given.0) (keys_of attrs)) (list_any-map (is_text given.0) (λ (g : Given). g.0) attrs) (once (at + 1) attrs) e
  where
    by : (b : Bool) → b ≡ list_any (is_of given.0) attrs → (repeated_from (at + 1) (keys_of attrs) ≡ None → has_repeated_key attrs ≡ false)
        → cond b (Some at) (repeated_from (at + 1) (keys_of attrs)) ≡ None → (list_any (is_of given.0) attrs || has_repeated_key attrs) ≡ false
    by true same rest found = absurd cc
    by false same rest found = or_from _ _ (sym same) (rest found)

known : (keys : List Key) (at : ℕ) (attrs : List Given) → position_from (is_undeclared keys) at (keys_of attrs) ≡ None → list_all (is_declared keys) attrs ≡ true
known keys at [] e = refl
known keys at (given ∷ attrs) e = by (list_any (is_key given.0) keys) (known keys (at + 1) attrs) e
  where
    by : (b : Bool) → (position_from (is_undeclared keys) (at + 1) (keys_of attrs) ≡ None → list_all (is_declared keys) attrs ≡ true)
        → cond (not b) (Some at) (position_from (is_undeclared keys) (at + 1) (keys_of attrs)) ≡ None → (b && list_all (is_declared keys) attrs) ≡ true
    by true rest found = rest found
    by false rest found = absurd cc

there : (attrs : List Given) (at : ℕ) (keys : List Key) → position_from (is_missing (keys_of attrs)) at keys ≡ None → list_all (is_complete attrs) keys ≡ true
there attrs at [] e = refl
there attrs at (key ∷ keys) e = by key.optional (list_any (is_text key.name) (keys_of attrs)) (list_any-map (is_text key.name) (λ (g : Given). g.0) attrs) (there attrs (at + 1) keys) e
  where
    by : (o b : Bool) → b ≡ list_any (is_of key.name) attrs → (position_from (is_missing (keys_of attrs)) (at + 1) keys ≡ None → list_all (is_complete attrs) keys ≡ true)
        → cond (not o && not b) (Some at) (position_from (is_missing (keys_of attrs)) (at + 1) keys) ≡ None → ((o || list_any (is_of key.name) attrs) && list_all (is_complete attrs) keys) ≡ true
    by true b same rest found = rest found
    by false true same rest found = and_from _ _ (sym same) (rest found)
    by false false same rest found = absurd cc

-- ---- what is left to refuse them

steps : (repeated known valued complete : Bool) (set : List ℕ) (allowed : Option (List (List ℕ))) → repeated ≡ false → known ≡ true → complete ≡ true
    → IfErr ((require (not repeated) refusals.DuplicateKey >>= λ _. require known refusals.UnknownKey >>= λ _. require valued refusals.UnknownValue >>= λ _.
    require complete refusals.MissingKey >>= λ _. Ok set) >>= λ made. permitted allowed made) IsOfValues
steps true known valued complete set allowed r k c = absurd cc
steps false false valued complete set allowed r k c = absurd cc
steps false true false complete set allowed r k c = tt
steps false true true false set allowed r k c = absurd cc
steps false true true true set allowed r k c = by (permits allowed set)
  where
    by : (b : Bool) → IfErr (require b refusals.Combination >>= λ _. Ok set) IsOfValues
    by true = tt
    by false = tt

values_alone : (instrument : Instrument) (attrs : List Given) → keys_checked instrument.keys (keys_of attrs) ≡ Ok tt → IfErr (allowed_set instrument attrs) IsOfValues
unfolding keys_checked allowed_set set_of
values_alone instrument attrs e =
    let first = require_none_ok (repeated_from 0 (keys_of attrs)) faults.RepeatedKey _ tt e in
    let second = require_none_ok (position_from (is_undeclared instrument.keys) 0 (keys_of attrs)) faults.UnknownKey _ tt first.1 in
    steps (has_repeated_key attrs) (list_all (is_declared instrument.keys) attrs) (list_all (has_declared_value instrument.keys) attrs)
    (list_all (is_complete attrs) instrument.keys) (set_key instrument.keys attrs) instrument.allowed
    (once 0 attrs first.0) (known instrument.keys 0 attrs second.0)
    (there attrs 0 instrument.keys (none_of (position_from (is_missing (keys_of attrs)) 0 instrument.keys) second.1))
  where
    none_of : (o : Option ℕ) → require_none o faults.MissingKey ≡ Ok tt → o ≡ None
    none_of None e = refl
    none_of (Some at) e = absurd cc

at_number : (o : Option Instrument) (instrument : Instrument) (attrs : List Given) → require_some o faults.UnknownInstrument ≡ Ok instrument
    → IfErr (allowed_set instrument attrs) IsOfValues → IfErr (require_some o refusals.UnknownInstrument >>= λ i. allowed_set i attrs) IsOfValues
at_number None instrument attrs e rest = absurd cc
at_number (Some other) instrument attrs e rest =
    let same : instrument ≡ other = cc in
    subst (λ (i : Instrument). IfErr (allowed_set i attrs) IsOfValues) same rest

spares_keys : (contents : Contents) (kind : Kind) (meter name : List ℕ) (number : ℕ) (attrs : List Given)
    → handle_of contents kind meter name (keys_of attrs) ≡ Ok number → IfErr (encode_of contents.instruments number attrs) IsOfValues
unfolding handle_of encode_of
spares_keys contents kind meter name number attrs e =
    after_ok (number_of_kind contents kind meter name) _ number e (λ n named rest.
    after_ok (require_some (slice_get contents.instruments n) faults.UnknownInstrument) _ number rest (λ instrument found more.
    after_ok (keys_checked instrument.keys (keys_of attrs)) _ number more (λ done keys last.
    let at : n ≡ number = cc in
    subst (λ m. IfErr (encode_of contents.instruments m attrs) IsOfValues) at
    (at_number (slice_get contents.instruments n) instrument attrs found (values_alone instrument attrs keys)))))

-- ---- in any order

module _ {X Y : Type 0} (f : X → Y) where
  at_map : (xs : List X) (i : ℕ) (d : X) → get_or (map f xs) i (f d) ≡ f (get_or xs i d)
  at_map [] i d = refl
  at_map (x ∷ xs) zero d = refl
  at_map (x ∷ xs) (suc i) d = at_map xs i d

  map-swap : (xs : List X) (i j : ℕ) → map f (swap xs i j) ≡ swap (map f xs) i j
  map-swap [] i j = refl
  map-swap (x ∷ xs) i j = rw (map-set, map-set, at_map (x ∷ xs) j x, at_map (x ∷ xs) i x)

  map_swaps : (xs : List X) (moves : List (ℕ × ℕ)) → map f (apply_swaps xs moves) ≡ apply_swaps (map f xs) moves
  map_swaps xs [] = refl
  map_swaps xs (move ∷ moves) = map-swap (apply_swaps xs moves) move.0 move.1 ∙ ap (λ l. swap l move.0 move.1) (map_swaps xs moves)

  -- what gives a list in another order is what gives the list, in that order
  reordered : (xs : List X) (ys : List Y) → IsPermutation (map f xs) ys → (others : List X) × (map f others ≡ ys) × IsPermutation xs others
  reordered xs ys p = (
    apply_swaps xs p.moves,
    map_swaps xs p.moves ∙ sym p.is,
    record {
      moves = p.moves;
      below = subst (λ n. SwapsInRange n p.moves) (length-map xs f) p.below;
      is = refl;
    },
  )

encodes_keys : IgnoresOrder → (contents : Contents) (kind : Kind) (meter name : List ℕ) (keys : List (List ℕ)) (number : ℕ) (attrs : List Given)
    → handle_of contents kind meter name keys ≡ Ok number → IsPermutation keys (keys_of attrs) → IfErr (encode_of contents.instruments number attrs) IsOfValues
encodes_keys ignores contents kind meter name keys number attrs e p =
    let made = reordered (λ (given : Given). given.0) attrs keys (IsPermutation-sym _ _ p) in
    let same = ignores contents.instruments number attrs made.0 made.2 in
    subst (λ r. IfErr r IsOfValues) (sym same)
    (spares_keys contents kind meter name number made.0 (subst (λ ks. handle_of contents kind meter name ks ≡ Ok number) (sym made.1) e))

-- ---- what calls answer

abbrev bound_to : HandleValue → List ℕ → Result BoundValue Refusal
bound_to handle made = Ok (record { plan = handle.plan; instrument = handle.number; set = made })

pub binds_keys : IgnoresOrder → BindsKeys
binds_keys ignores plan kind meter name keys handle attrs e p =
    after_ok (handle_of plan.facts.contents kind meter name keys) _ handle e (λ number found made.
    let found_handle : HandleValue = record { plan = print_of plan; number = number } in
    let own : found_handle ≡ handle = cc in
    subst (λ (h : HandleValue). IfErr (bound_of plan h attrs) IsOfValues) own
    (of_plan number (λ n. encode_of plan.facts.contents.instruments n attrs >>= bound_to (record { plan = print_of plan; number = n }))
    (print_of plan == print_of plan) (eq-eqb (print_of plan) (print_of plan) refl)
    (by found_handle (encode_of plan.facts.contents.instruments number attrs)
    (encodes_keys ignores plan.facts.contents kind meter name keys number attrs found p))))
  where
    by : (handle : HandleValue) (r : Result (List ℕ) Refusal) → IfErr r IsOfValues → IfErr (r >>= bound_to handle) IsOfValues
    by handle (Ok made) v = tt
    by handle (Err refusal) v = v

    of_plan : (number : ℕ) (f : ℕ → Result BoundValue Refusal) (b : Bool) → b ≡ true → IfErr (f number) IsOfValues
        → IfErr ((require b refusals.Stranger >>= λ _. Ok number) >>= f) IsOfValues
    of_plan number f true own v = v
    of_plan number f false own v = absurd cc

-- what none of these can be is not of keys
not_of_keys : (P : Refusal → Type 0) → (P refusals.DuplicateKey → ⊥) → (P refusals.UnknownKey → ⊥) → (P refusals.MissingKey → ⊥)
    → (refusal : Refusal) → P refusal → IsNotOfKeys refusal
not_of_keys P duplicate unknown missing refusal p = (λ e. duplicate (subst P e p), λ e. unknown (subst P e p), λ e. missing (subst P e p))

module _ (spares_memory : Facts → Type 0) (plan : PlanValue) (seat : RecorderValue) (number : ℕ) (value : ℤ) where
  -- the steps of a recording whose set key may only be refused for its values
  abbrev admission_with : Bool → Option Facts → Result (List ℕ) Refusal → Result (List ℕ) Refusal
  admission_with ours own set =
      require ours refusals.Stranger >>= λ _. require_some own refusals.UnknownInstrument >>= λ facts. set >>= λ made. require (in_bounds facts value) refusals.ValueRange >>= λ _. Ok made

  answers : (ours : Bool) (own : Option Facts) (set : Result (List ℕ) Refusal) (refusal : Refusal) → slice_get plan.facts.instruments number ≡ own
      → IfErr set IsOfValues → AnswersSeat spares_memory (admission_with ours own set) plan seat number (Err refusal) → IsNotOfKeys refusal
  answers false own set refusal at v a = not_of_keys (λ r. r ≡ refusals.Stranger) (λ e. absurd cc) (λ e. absurd cc) (λ e. absurd cc) refusal a
  answers true None set refusal at v a = not_of_keys (λ r. r ≡ refusals.UnknownInstrument) (λ e. absurd cc) (λ e. absurd cc) (λ e. absurd cc) refusal a
  answers true (Some own) (Err first) refusal at v a = not_of_keys IsOfValues (λ x. x) (λ x. x) (λ x. x) refusal (subst IsOfValues (sym a) v)
  answers true (Some own) (Ok made) refusal at v a = by (in_bounds own value) a
    where
      by : (b : Bool) → AnswersSeat spares_memory (require b refusals.ValueRange >>= λ _. Ok made) plan seat number (Err refusal) → IsNotOfKeys refusal
      by false out = not_of_keys (λ r. r ≡ refusals.ValueRange) (λ e. absurd cc) (λ e. absurd cc) (λ e. absurd cc) refusal out
      by true within = not_of_keys (RefusesRecording spares_memory own seat.number (told_at seat number)) (λ x. x) (λ x. x) (λ x. x) refusal
          (subst (λ o. IfSome o (λ (facts : Facts). RefusesRecording spares_memory facts seat.number (told_at seat number) refusal)) at within)

pub records_keys : (keeps : Bool) (spares_memory : Facts → Type 0) → IgnoresOrder → RecordsKeys keeps spares_memory
records_keys keeps spares_memory ignores p kind meter name keys number attrs old new value (Ok done) e perm made = tt
records_keys keeps spares_memory ignores p kind meter name keys number attrs old new value (Err refusal) e perm made =
    answers (SeatSpares keeps spares_memory) p.plan old number value (is_recorder_of p old) (slice_get p.plan.facts.instruments number)
    (encode_of p.plan.facts.contents.instruments number attrs) refusal refl
    (encodes_keys ignores p.plan.facts.contents kind meter name keys number attrs e perm) made.answer
