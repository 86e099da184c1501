-- The entry that the maker gives a stream says what bounds it, and there is one exactly where the stream fits its
-- limit.
use Rattle.std.proofs.Common.{◌≡◌, ◌<◌, ◌≤◌, ℕ, Bool, true, false, cond, if◌then◌else◌, List, length, Option, Some, None, Result, Ok, Err, refl, sym, ap, subst, arith}
use Rattle.std.specs.Prelude.{nat_le, unwrap_or}
use Rattle.std.proofs.lemmas.Bool.{leb-true, leb-false}
use Rattle.std.proofs.lemmas.Option.{same_Some}
use Rattle.metric_contents.specs.declared.contents.Contents.{Contents}
use Rattle.metric_views.specs.declared.stream.Stream.{Stream}
use Rattle.metric_bounds.specs.Amounts.{total_of}
use Rattle.metric_bounds.specs.First.{Asks, Reports}
use Rattle.metric_bounds.specs.Safe.{SetsFit}
use Rattle.metric_bounds.specs.Sets.{count_or, listed_of, product_of, sets_of}
use Rattle.metric_make.specs.declared.fault.MakeFault.{MakeFault}
use Rattle.metric_make.specs.declared.fault.MakeFault.TheVariants.{Memory}
use Rattle.metric_cert.specs.declared.stream.By.TheVariants as by
use Rattle.metric_cert.specs.declared.stream.StreamSets.{StreamSets}
use Rattle.metric_make.specs.Finding.{limit_exceeded}
use Rattle.metric_make.specs.Making.{entry_by_list, entry_of, entry_past, entry_with}
use Rattle.metric_cert.specs.Valid.{IsEntryOf}

-- The entry is by a list within the limit.
record IsByList (stream : Stream) (listed : Option (List (List ℕ))) (entry : StreamSets) : Type 0 where
  list : List (List ℕ)
  is : listed ≡ Some list
  within : length list ≤ stream.limit
  entry_is : entry ≡ entry_with stream (by.List list) (length list)

by_list : (stream : Stream) (listed : Option (List (List ℕ))) (entry : StreamSets) → entry_by_list stream listed ≡ Some entry → IsByList stream listed entry
by_list stream None entry found = absurd cc
by_list stream (Some list) entry found = at (nat_le (length list) stream.limit) refl found
  where
    at : (b : Bool) → nat_le (length list) stream.limit ≡ b → (if b then Some (entry_with stream (by.List list) (length list)) else None) ≡ Some entry
        → IsByList stream (Some list) entry
    at true e found = record {
      list = list;
      is = refl;
      within = leb-true (length list) stream.limit e;
      entry_is = sym (same_Some (entry_with stream (by.List list) (length list)) entry found);
    }
    at false e found = absurd cc

counted : (contents : Contents) (stream : Stream) (listed : Option (List (List ℕ))) → listed_of contents stream ≡ listed → sets_of contents stream ≡ count_or (product_of contents stream) listed
unfolding sets_of
counted contents stream listed is = ap (count_or (product_of contents stream)) is

-- a stream sees more sets than its limit where neither the product nor a list is within it
sets_past : (contents : Contents) (stream : Stream) → stream.limit < product_of contents stream → entry_by_list stream (listed_of contents stream) ≡ None
    → stream.limit < sets_of contents stream
sets_past contents stream past none = choose (listed_of contents stream) (counted contents stream (listed_of contents stream) refl) none
  where
    choose : (o : Option (List (List ℕ))) → sets_of contents stream ≡ count_or (product_of contents stream) o → entry_by_list stream o ≡ None → stream.limit < sets_of contents stream
    choose None is none = omega (arith, is, past)
    choose (Some list) is none = at (nat_le (length list) stream.limit) refl none
      where
        at : (b : Bool) → nat_le (length list) stream.limit ≡ b → (if b then Some (entry_with stream (by.List list) (length list)) else None) ≡ None
            → stream.limit < sets_of contents stream
        at true e none = absurd cc
        at false e none = omega (arith, is, leb-false (length list) stream.limit e)

-- what is within the limit fits
pub product_fits : (contents : Contents) (stream : Stream) → sets_of contents stream ≤ product_of contents stream → product_of contents stream ≤ stream.limit → SetsFit contents stream
product_fits contents stream few within = omega (arith, few, within)

pub list_fits : (contents : Contents) (stream : Stream) (entry : StreamSets) → entry_by_list stream (listed_of contents stream) ≡ Some entry → SetsFit contents stream
list_fits contents stream entry found =
    let own = by_list stream (listed_of contents stream) entry found in
    omega (arith, counted contents stream (Some own.list) own.is, own.within)

pub budget_fits : (contents : Contents) (stream : Stream) (total : ℕ) → total ≡ total_of contents stream.instrument → total ≤ stream.limit → SetsFit contents stream
budget_fits contents stream total is within = omega (arith, is, within)

-- what is past the product and the list fits by the budgets alone
pub fits_past : (contents : Contents) (stream : Stream) → stream.limit < product_of contents stream → entry_by_list stream (listed_of contents stream) ≡ None → SetsFit contents stream
    → total_of contents stream.instrument ≤ stream.limit
fits_past contents stream past none fit = omega (arith, sets_past contents stream past none, fit)

-- what is found by the budgets, where neither the product nor a list is within the limit
pub budget_reports : (contents : Contents) (number : ℕ) (stream : Stream) (total : ℕ) (r : Result StreamSets MakeFault) → stream.limit < product_of contents stream
    → entry_by_list stream (listed_of contents stream) ≡ None → total ≡ total_of contents stream.instrument
    → r ≡ (if nat_le total stream.limit then Ok (entry_with stream by.Budget total) else Err (limit_exceeded number stream))
    → Reports Memory (Asks (SetsFit contents stream) (limit_exceeded number stream)) r
budget_reports contents number stream total r past none is given = choose (nat_le total stream.limit) refl given
  where
    choose : (b : Bool) → nat_le total stream.limit ≡ b → r ≡ (if b then Ok (entry_with stream by.Budget total) else Err (limit_exceeded number stream))
        → Reports Memory (Asks (SetsFit contents stream) (limit_exceeded number stream)) r
    choose true e given = rw given (budget_fits contents stream total is (leb-true total stream.limit e))
    choose false e given =
        let above = leb-false total stream.limit e in
        rw given (λ other. (λ fit. omega (arith, above, is, fits_past contents stream past none fit), refl))

entry_by_product : (contents : Contents) (stream : Stream) → product_of contents stream ≤ stream.limit
    → IsEntryOf contents stream (entry_with stream by.Product (product_of contents stream))
entry_by_product contents stream within = record { reader = refl; instrument = refl; view = refl; listed = tt; sets = refl; limited = within }

entry_listed : (contents : Contents) (stream : Stream) (entry : StreamSets) → entry_by_list stream (listed_of contents stream) ≡ Some entry → IsEntryOf contents stream entry
entry_listed contents stream entry found =
    let own = by_list stream (listed_of contents stream) entry found in
    subst (IsEntryOf contents stream) (sym own.entry_is) (record {
      reader = refl;
      instrument = refl;
      view = refl;
      listed = own.is;
      sets = sym (counted contents stream (Some own.list) own.is);
      limited = own.within;
    })

entry_by_budget : (contents : Contents) (stream : Stream) → total_of contents stream.instrument ≤ stream.limit
    → IsEntryOf contents stream (entry_with stream by.Budget (total_of contents stream.instrument))
entry_by_budget contents stream within = record { reader = refl; instrument = refl; view = refl; listed = tt; sets = refl; limited = within }

-- the entry of a stream that fits is true
pub true_entry : (contents : Contents) (stream : Stream) → SetsFit contents stream → IsEntryOf contents stream (entry_of contents stream)
true_entry contents stream fit = choose (nat_le (product_of contents stream) stream.limit) refl
  where
    past : stream.limit < product_of contents stream → (o : Option StreamSets) → entry_by_list stream (listed_of contents stream) ≡ o
        → IsEntryOf contents stream (unwrap_or o (entry_with stream by.Budget (total_of contents stream.instrument)))
    past above (Some entry) is = entry_listed contents stream entry is
    past above None is = entry_by_budget contents stream (fits_past contents stream above is fit)

    choose : (b : Bool) → nat_le (product_of contents stream) stream.limit ≡ b
        → IsEntryOf contents stream (cond b (entry_with stream by.Product (product_of contents stream)) (entry_past contents stream))
    choose true e = entry_by_product contents stream (leb-true (product_of contents stream) stream.limit e)
    choose false e = past (leb-false (product_of contents stream) stream.limit e) (entry_by_list stream (listed_of contents stream)) refl
