-- What the events of a run add to the accounts of its instruments.
use Rattle.std.proofs.Common.{◌≡◌, ℕ, zero, suc, ◌+◌, ◌<◌, ◌≤◌, Bool, true, false, cond, List, [], ◌∷◌, ◌++◌, Option, Some, length, take, replicate, get_or, set, ◌⊎◌, inl, inr, refl, sym, ap, subst, ◌∙◌, append_assoc, arith}
use Rattle.std.specs.Prelude.{slice_get, slice_index_or, ◌==◌, if◌then◌else◌}
use Rattle.std.proofs.lemmas.Bool.{ne_eqb, cases_eq}
use Rattle.std.proofs.lemmas.List.{append-nil, get_or-set_same, get_or-set_other, length-set, length-replicate, take_all, take_more}
use Rattle.std.proofs.lemmas.Option.{get_or_from_slice_get, slice_get-get_or, slice_get_past, slice_get_within}
use Rattle.metric_history.specs.declared.slip.Slip.{Slip}
use Rattle.metric_contents.specs.declared.contents.Contents.{Contents}
use Rattle.metric_history.specs.Encoded.{encoded}
use Rattle.metric_history.specs.Events.{instrument_of}
use Rattle.metric_history.specs.History.{History, answered}
use Rattle.metric_history.specs.Legal.{grown}
use Rattle.metric_history.specs.declared.batch.Batch.{Batch}
use Rattle.metric_history.specs.declared.event.Event.{Event}
use Rattle.metric_history.specs.declared.event.Event.TheVariants.{Record, Collect, Close, Grant}
use Rattle.metric_history.specs.declared.event.Reply.{Reply}
use Rattle.metric_history.specs.declared.event.Reply.TheVariants.{Accepted, Collected, Done, Granted, Refused}
use Rattle.metric_kit_commands.specs.Accounts.{AddsToAccount, AddsToAccounts, AreAccounts, IsAccount, IsEmptyAccount, batch_at, batches_at, place_of}
use Rattle.metric_kit_commands.specs.Audits.{AddsSlip, AddsSlips, AreSlipsOf, batches_by, batches_told, slip_in, slip_made, slips_by}
use Rattle.metric_kit_commands.specs.declared.accounts.Account.{Account}
use Rattle.metric_kit_commands.specs.declared.slips.MadeSlip.{MadeSlip}
use Rattle.metric_kit_commands.proofs.TellingLaws.{grown_more, none_yet}

-- a slip that is put is the one that is told
pub slips_added : (contents : Contents) (i : ℕ) (event : Event) (reply : Reply) (old new : List (List Slip)) (made : Option MadeSlip)
    → ((r : ℕ) → slip_in made r ≡ slips_by contents i r event reply) → AddsSlip old new made → AddsSlips contents i event reply old new
slips_added contents i event reply old new made by a = record {
  one_each = a.one_each;
  own = λ r within. a.own r within ∙ ap (λ (l : List Slip). slice_index_or old r [] ++ l) (by r);
}

-- ---- an event of another instrument adds nothing

other_slips : (contents : Contents) (i r : ℕ) (event : Event) (reply : Reply) → (instrument_of event ≡ i → ⊥) → slips_by contents i r event reply ≡ []
other_slips contents i r (Record recorder instrument attrs value) Accepted other =
    ap (λ (b : Bool). cond b (slip_made r recorder value (encoded contents i attrs)) []) (ne_eqb instrument i other)
other_slips contents i r (Collect q instrument now) Accepted other = refl
other_slips contents i r (Close instrument) Accepted other = refl
other_slips contents i r (Grant recorder instrument amount) Accepted other = refl
other_slips contents i r event (Collected b) other = refl
other_slips contents i r event Done other = refl
other_slips contents i r event Granted other = refl
other_slips contents i r event (Refused refusal) other = refl

nothing_more : {A : Type 0} (xs more : List A) → more ≡ [] → xs ≡ xs ++ more
nothing_more {A = A} xs more none = sym (append-nil xs) ∙ ap (λ (l : List A). xs ++ l) (sym none)

adds_nothing : (contents : Contents) (i place : ℕ) (event : Event) (reply : Reply) (account : Account) → (instrument_of event ≡ i → ⊥)
    → AddsToAccount contents i place event reply account account
adds_nothing contents i place event reply account other = record {
  slips = record {
    one_each = refl;
    own = λ r within. nothing_more (slice_index_or account.slips.items r []) _ (other_slips contents i r event reply other);
  };
  places = nothing_more account.places.items _ (ap (λ (t : Bool). cond t (place_of place reply) []) (ne_eqb (instrument_of event) i other));
}

some_same : {A : Type 0} (x y : A) (o : Option A) → o ≡ Some x → o ≡ Some y → x ≡ y
some_same x y o a b = let e : Some x ≡ Some y = sym a ∙ b in cc

-- where there is no such instrument
pub adds_elsewhere : (contents : Contents) (place : ℕ) (event : Event) (reply : Reply) (accounts : List Account) → length accounts ≤ instrument_of event
    → AddsToAccounts contents place event reply accounts accounts
adds_elsewhere contents place event reply accounts over = record {
  one_each = refl;
  own = λ i before after was found.
      subst (λ (a : Account). AddsToAccount contents i place event reply before a) (some_same before after (slice_get accounts i) was found)
      (adds_nothing contents i place event reply before (λ same. absurd (omega (arith, same, over, slice_get_within accounts i before was))));
}

-- where there is
pub adds_here : (contents : Contents) (place : ℕ) (event : Event) (reply : Reply) (old new : List Account) (own longer : Account) → instrument_of event < length old
    → own ≡ get_or old (instrument_of event) own → AddsToAccount contents (instrument_of event) place event reply own longer → new ≡ set old (instrument_of event) longer
    → AddsToAccounts contents place event reply old new
adds_here contents place event reply old new own longer within is adds set_to = subst (λ (l : List Account). AddsToAccounts contents place event reply old l) (sym set_to) (record {
  one_each = length-set old at longer;
  own = λ i before after was found. each i before after was found (cases_eq at i);
})
  where
    at : ℕ
    at = instrument_of event

    each : (i : ℕ) (before after : Account) → slice_get old i ≡ Some before → slice_get (set old at longer) i ≡ Some after → (at ≡ i) ⊎ (at ≡ i → ⊥)
        → AddsToAccount contents i place event reply before after
    each i before after was found (inl same) =
        let first : own ≡ before = is ∙ ap (λ (n : ℕ). get_or old n own) same ∙ get_or_from_slice_get old i before own was in
        let last : longer ≡ after =
        sym (get_or-set_same old at longer own within) ∙ ap (λ (n : ℕ). get_or (set old at longer) n own) same ∙ get_or_from_slice_get (set old at longer) i after own found in
        subst (λ (n : ℕ). AddsToAccount contents n place event reply before after) same
        (subst (λ (a : Account). AddsToAccount contents at place event reply a after) first
        (subst (λ (a : Account). AddsToAccount contents at place event reply own a) last adds))
    each i before after was found (inr other) =
        let kept : before ≡ after =
        sym (get_or_from_slice_get old i before own was) ∙ sym (get_or-set_other old at i longer own (λ same. other (sym same)))
        ∙ get_or_from_slice_get (set old at longer) i after own found in
        subst (λ (a : Account). AddsToAccount contents i place event reply before a) kept (adds_nothing contents i place event reply before other)

-- the same at a place that is its number
pub adds_at : (contents : Contents) (place : ℕ) (event : Event) (reply : Reply) (old : List Account) (at : ℕ) (own longer : Account) → at ≡ instrument_of event → at < length old
    → own ≡ get_or old at own → AddsToAccount contents (instrument_of event) place event reply own longer → AddsToAccounts contents place event reply old (set old at longer)
adds_at contents place event reply old at own longer is within read adds =
    subst (λ (n : ℕ). AddsToAccounts contents place event reply old (set old n longer)) (sym is)
    (adds_here contents place event reply old (set old (instrument_of event) longer) own longer (omega (arith, within, is)) (read ∙ ap (λ (n : ℕ). get_or old n own) is) adds refl)

-- ---- a run, event by event

batches_at-append : (replies : List Reply) (places more : List ℕ) → batches_at replies (places ++ more) ≡ batches_at replies places ++ batches_at replies more
batches_at-append replies [] more = refl
batches_at-append replies (place ∷ places) more =
    ap (λ (l : List Batch). batch_at (slice_get replies place) ++ l) (batches_at-append replies places more)
    ∙ sym (append_assoc (batch_at (slice_get replies place)) (batches_at replies places) (batches_at replies more))

nowhere : (replies : List Reply) (t : Bool) → batches_at replies (cond t [] []) ≡ []
nowhere replies true = refl
nowhere replies false = refl

-- the batch of a reply at its place
placed : (replies : List Reply) (place i : ℕ) (event : Event) (reply : Reply) → slice_get replies place ≡ Some reply
    → batches_at replies (if instrument_of event == i then place_of place reply else []) ≡ batches_by i event reply
placed replies place i event (Collected b) found = at (instrument_of event == i)
  where
    at : (t : Bool) → batches_at replies (cond t (place ∷ []) []) ≡ cond t (b ∷ []) []
    at true = ap (λ (o : Option Reply). batch_at o ++ []) found
    at false = refl
placed replies place i event Accepted found = nowhere replies (instrument_of event == i)
placed replies place i event Done found = nowhere replies (instrument_of event == i)
placed replies place i event Granted found = nowhere replies (instrument_of event == i)
placed replies place i event (Refused refusal) found = nowhere replies (instrument_of event == i)

account_more : (contents : Contents) (replies : List Reply) (h : History) (i place : ℕ) (event : Event) (reply : Reply) (old new : Account)
    → slice_get replies place ≡ Some reply → IsAccount contents replies h i old → AddsToAccount contents i place event reply old new
    → IsAccount contents replies (answered event reply ∷ h) i new
account_more contents replies h i place event reply old new found told a = record {
  slips = record {
    one_each = a.slips.one_each ∙ told.slips.one_each;
    own = λ r within.
        a.slips.own r within
        ∙ ap (λ (l : List Slip). l ++ slips_by contents i r event reply) (told.slips.own r (omega (arith, within, a.slips.one_each)));
  };
  batches =
      ap (batches_at replies) a.places
      ∙ batches_at-append replies old.places.items _
      ∙ ap (λ (l : List Batch). batches_at replies old.places.items ++ l) (placed replies place i event reply found)
      ∙ ap (λ (l : List Batch). l ++ batches_by i event reply) told.batches;
}

-- after one event more
pub accounts_more : (contents : Contents) (old new : List Account) (events : List Event) (replies : List Reply) (n : ℕ) (event : Event) (reply : Reply)
    → n < length events → length replies ≡ length events → event ≡ get_or events n event → reply ≡ get_or replies n reply
    → AreAccounts contents replies (grown [] (take n events) (take n replies)) old → AddsToAccounts contents n event reply old new
    → AreAccounts contents replies (grown [] (take (n + 1) events) (take (n + 1) replies)) new
accounts_more contents old new events replies n event reply some long e p told a =
    rw (grown_more [] events replies n event reply some (omega (arith, some, long)) e p) (record {
      one_each = a.one_each ∙ told.one_each;
      own = λ i after found.
          let before : Account = get_or old i after in
          let was : slice_get old i ≡ Some before = slice_get-get_or old i after (omega (arith, slice_get_within new i after found, a.one_each)) in
          account_more contents replies (grown [] (take n events) (take n replies)) i n event reply before after at (told.own i before was) (a.own i before after was found);
    })
  where
    at : slice_get replies n ≡ Some reply
    at = slice_get-get_or replies n reply (omega (arith, some, long)) ∙ ap (λ (r : Reply). Some r) (sym p)

-- after the last event
pub accounts_end : (contents : Contents) (accounts : List Account) (events : List Event) (replies : List Reply) (n : ℕ) → length events ≤ n → length replies ≡ length events
    → AreAccounts contents replies (grown [] (take n events) (take n replies)) accounts → AreAccounts contents replies (grown [] events replies) accounts
accounts_end contents accounts events replies n over long told =
    rw (take_all n events over, take_all n replies (omega (arith, over, long))) at told

-- they do not depend on how they are spelt
pub accounts_as : (contents others : Contents) (replies more : List Reply) (events : List Event) (accounts given : List Account) → contents ≡ others → replies ≡ more → given ≡ accounts
    → AreAccounts contents replies (grown [] events replies) accounts → AreAccounts others more (grown [] events more) given
accounts_as contents others replies more events accounts given c r g told =
    subst (λ (k : Contents). AreAccounts k more (grown [] events more) given) c
    (subst (λ (l : List Reply). AreAccounts contents l (grown [] events l) given) r
    (subst (λ (l : List Account). AreAccounts contents replies (grown [] events replies) l) (sym g) told))

-- ---- before the first event

-- what holds of each element and of one more
pub each_more : {A : Type 0} (P : A → Type 0) (xs : List A) (x : A) → ((i : ℕ) (y : A) → slice_get xs i ≡ Some y → P y) → P x
    → (i : ℕ) (y : A) → slice_get (xs ++ x ∷ []) i ≡ Some y → P y
each_more P [] x all p zero y e = let same : x ≡ y = cc in subst P same p
each_more P [] x all p (suc i) y e = absurd cc
each_more P (z ∷ xs) x all p zero y e = all zero y e
each_more P (z ∷ xs) x all p (suc i) y e = each_more P xs x (λ j. all (suc j)) p i y e

empty_told : (contents : Contents) (replies : List Reply) (i : ℕ) (account : Account) → IsEmptyAccount (length contents.recorders) account → IsAccount contents replies [] i account
empty_told contents replies i account none = record {
  slips = subst (λ (l : List (List Slip)). AreSlipsOf contents [] i l) (sym none.slips) (record {
    one_each = length-replicate (length contents.recorders) [];
    own = λ r within. none_yet [] (length contents.recorders) r;
  });
  batches = ap (batches_at replies) none.places;
}

pub accounts_begin : (contents : Contents) (replies : List Reply) (accounts : List Account) (recorders : ℕ) → recorders ≡ length contents.recorders → length accounts ≡ length contents.instruments
    → ((i : ℕ) (account : Account) → slice_get accounts i ≡ Some account → IsEmptyAccount recorders account) → AreAccounts contents replies [] accounts
accounts_begin contents replies accounts recorders counted one_each each = record {
  one_each = one_each;
  own = λ i account found. empty_told contents replies i account (subst (λ (n : ℕ). IsEmptyAccount n account) counted (each i account found));
}

-- one place more
pub batches_more : (replies : List Reply) (places : List ℕ) (n d : ℕ) (old new : List Batch) → n < length places → old ≡ batches_at replies (take n places)
    → new ≡ old ++ batch_at (slice_get replies (get_or places n d)) → new ≡ batches_at replies (take (n + 1) places)
batches_more replies places n d old new some before more =
    more
    ∙ ap (λ (l : List Batch). l ++ batch_at (slice_get replies (get_or places n d))) before
    ∙ sym (ap (batches_at replies) (take_more places n d some) ∙ batches_at-append replies (take n places) (get_or places n d ∷ [])
    ∙ ap (λ (l : List Batch). batches_at replies (take n places) ++ l) (append-nil (batch_at (slice_get replies (get_or places n d)))))

-- a place that there is not
pub no_batch : (replies : List Reply) (place : ℕ) (batches : List Batch) → length replies ≤ place → batches ≡ batches ++ batch_at (slice_get replies place)
no_batch replies place batches over = nothing_more batches _ (ap batch_at (slice_get_past replies place over))

pub ruleset account_laws = (slips_added, adds_elsewhere)
