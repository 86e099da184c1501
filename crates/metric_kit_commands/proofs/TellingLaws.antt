-- What an event adds to slips, and how a run grows by an event.
use Rattle.std.proofs.Common.{◌≡◌, ℕ, zero, suc, ◌+◌, ◌<◌, ◌≤◌, ℤ, Bool, cond, List, [], ◌∷◌, ◌++◌, Option, Some, None, Result, Ok, Err, length, take, drop, replicate, get_or, set, ◌⊎◌, inl, inr, refl, sym, ap, subst, ◌∙◌, arith}
use Rattle.std.specs.Prelude.{slice_index_or, ◌==◌}
use Rattle.std.proofs.lemmas.Bool.{eq-eqb, ne_eqb, cases_eq}
use Rattle.std.proofs.lemmas.List.{append-nil, get_or-set_same, get_or-set_other, length-set, length-replicate, get_or_default, take_all, drop_all}
use Rattle.metric_history.specs.declared.slip.Slip.{Slip}
use Rattle.metric_contents.specs.declared.contents.Contents.{Contents}
use Rattle.metric_contents.specs.declared.attributes.OwnedAttr.{OwnedAttr}
use Rattle.metric_contents.specs.declared.refusal.Refusal.{Refusal}
use Rattle.metric_history.specs.Encoded.{encoded}
use Rattle.metric_history.specs.History.{History, answered}
use Rattle.metric_history.specs.Legal.{AllLegal, grown}
use Rattle.metric_history.specs.declared.event.Event.{Event}
use Rattle.metric_history.specs.declared.event.Reply.{Reply}
use Rattle.metric_facts.specs.Facts.{RunFacts}
use Rattle.metric_kit_commands.specs.declared.slips.MadeSlip.{MadeSlip}
use Rattle.metric_kit_commands.specs.Audits.{AddsSlip, slip_made}

-- one event more
pub grown_more : (h : History) (events : List Event) (replies : List Reply) (n : ℕ) (event : Event) (reply : Reply) → n < length events → n < length replies
    → event ≡ get_or events n event → reply ≡ get_or replies n reply
    → grown h (take (n + 1) events) (take (n + 1) replies) ≡ answered event reply ∷ grown h (take n events) (take n replies)
grown_more h [] replies n event reply some other e r = absurd (omega (arith, some))
grown_more h (x ∷ events) [] n event reply some other e r = absurd (omega (arith, other))
grown_more h (x ∷ events) (y ∷ replies) zero event reply some other e r = rw (e, r) refl
grown_more h (x ∷ events) (y ∷ replies) (suc n) event reply some other e r =
    let next : suc (n + 1) ≡ suc n + 1 = omega arith in
    subst (λ (m : ℕ). grown h (take m (x ∷ events)) (take m (y ∷ replies)) ≡ answered event reply ∷ grown h (take (suc n) (x ∷ events)) (take (suc n) (y ∷ replies))) next
    (grown_more (answered x y ∷ h) events replies n event reply (omega (arith, some)) (omega (arith, other)) e r)

-- an event that makes no slip
pub adds_none : (slips : List (List Slip)) → AddsSlip slips slips None
adds_none slips = record { one_each = refl; own = λ r within. sym (append-nil (slice_index_or slips r [])) }

-- one whose recorder is none of so many
pub adds_other : (slips : List (List Slip)) (made : MadeSlip) → length slips ≤ made.recorder → AddsSlip slips slips (Some made)
adds_other slips made over = record {
  one_each = refl;
  own = λ r within.
      sym (append-nil (slice_index_or slips r []))
      ∙ ap (λ (b : Bool). slice_index_or slips r [] ++ cond b (made.slip ∷ []) []) (sym (ne_eqb made.recorder r (λ same. absurd (omega (arith, same, over, within)))));
}

-- one whose recorder has a list
pub adds_own : (slips new : List (List Slip)) (made : MadeSlip) (own longer : List Slip) → made.recorder < length slips → own ≡ get_or slips made.recorder own
    → longer ≡ own ++ made.slip ∷ [] → new ≡ set slips made.recorder longer → AddsSlip slips new (Some made)
adds_own slips new made own longer within is more set_to = subst (λ (l : List (List Slip)). AddsSlip slips l (Some made)) (sym set_to) (record {
  one_each = length-set slips made.recorder longer;
  own = λ r below. at r (cases_eq made.recorder r);
})
  where
    at : (r : ℕ) → (made.recorder ≡ r) ⊎ (made.recorder ≡ r → ⊥)
        → slice_index_or (set slips made.recorder longer) r [] ≡ slice_index_or slips r [] ++ cond (made.recorder == r) (made.slip ∷ []) []
    at r (inl same) = rw (← same, eq-eqb made.recorder made.recorder refl)
        (get_or-set_same slips made.recorder longer [] within ∙ more
        ∙ ap (λ (l : List Slip). l ++ made.slip ∷ []) (is ∙ get_or_default slips made.recorder own [] within))
    at r (inr other) =
        get_or-set_other slips made.recorder r longer [] (λ same. other (sym same))
        ∙ sym (append-nil (slice_index_or slips r []))
        ∙ ap (λ (b : Bool). slice_index_or slips r [] ++ cond b (made.slip ∷ []) []) (sym (ne_eqb made.recorder r other))

-- no list has anything yet
pub none_yet : {A : Type 0} (d : A) (count r : ℕ) → slice_index_or (replicate count d) r d ≡ d
none_yet d zero r = refl
none_yet d (suc count) zero = refl
none_yet d (suc count) (suc r) = none_yet d count r

-- a list that is written back whole
pub list_kept : {A : Type 0} (old new : List A) (len : ℕ) → len ≡ length old → length new ≡ length old → take len (new ++ drop (length new) old) ≡ new
list_kept {A = A} old new len counted same =
    ap (take len) (ap (λ (l : List A). new ++ l) (drop_all (length new) old (omega (arith, same))) ∙ append-nil new)
    ∙ take_all len new (omega (arith, counted, same))

-- each event has its reply
pub one_reply_each : (facts : RunFacts) (start : ℕ) (h : History) (events : List Event) (replies : List Reply) → AllLegal facts start h events replies
    → length replies ≡ length events
one_reply_each facts start h [] [] legal = refl
one_reply_each facts start h [] (reply ∷ replies) legal = absurd legal
one_reply_each facts start h (event ∷ events) [] legal = absurd legal
one_reply_each facts start h (event ∷ events) (reply ∷ replies) legal =
    ap suc (one_reply_each facts start (answered event reply ∷ h) events replies legal.1)

-- the slip of a recording whose attributes name a set key
pub slip_named : (contents : Contents) (i r recorder : ℕ) (attrs : List OwnedAttr) (value : ℤ) (set : List ℕ) (answer : Result (List ℕ) Refusal)
    → answer ≡ encoded contents i attrs → answer ≡ Ok set → cond (recorder == r) (record { set = set; value = value } ∷ []) [] ≡ slip_made r recorder value (encoded contents i attrs)
slip_named contents i r recorder attrs value set answer is named = rw (← is, named) refl

pub slip_unnamed : (contents : Contents) (i r recorder : ℕ) (attrs : List OwnedAttr) (value : ℤ) (refusal : Refusal) (answer : Result (List ℕ) Refusal)
    → answer ≡ encoded contents i attrs → answer ≡ Err refusal → [] ≡ slip_made r recorder value (encoded contents i attrs)
slip_unnamed contents i r recorder attrs value refusal answer is named = rw (← is, named) refl

pub ruleset added = (adds_none, adds_other, adds_own)
