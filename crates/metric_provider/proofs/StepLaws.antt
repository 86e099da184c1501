-- One lane more.
use Rattle.std.proofs.Common.{◌≡◌, ◌≤◌, ◌<◌, ◌≢◌, ◌==◌, if◌then◌else◌, OnErr, OnOk, ℕ, ◌+◌, ◌-◌, List, [], ◌∷◌, ◌++◌, map, Option, Some, None, Result, Ok, Err, refl, sym, subst, arith}
use Rattle.metric_contents.specs.declared.refusal.Refusal.{Refusal}
use Rattle.metric_facts.specs.declared.facts.Facts.{Facts}
use Rattle.metric_history.specs.declared.batch.Batch.{Batch}
use Rattle.metric_lanes.specs.declared.gathered.Asked.{Asked}
use Rattle.metric_lanes.specs.declared.gathered.Gathered.{Gathered}
use Rattle.metric_provider.specs.Steps.{Closes, Closing, Collects, Does, Granting, Grants, GrantsNothing, IsBatchOf, JoinsAll, JoinsAnswer, Refusing, Reporting, Spares, Step, TakesNothing, Telling, Ungranting, close_down, close_up, grant_down, grant_up, nested, parts_of, refuse_down, refuse_up, report_down, report_up, tell_down, tell_up, ungrant_down, ungrant_up}

follows : {D S : Type 0} (does : D → D → S → Type 0) (d m e : D) (ss ts : List S) → Does does d ss m → Does does m ts e → Does does d (ss ++ ts) e
follows {D} {S} does d m e [] ts did rest = subst (λ (x : D). Does does x ts e) (sym did) rest
follows {D} {S} does d m e (s ∷ ss) ts did rest = (did.0, did.1, follows does did.0 m e ss ts did.2 rest)

-- ---- the end

pub closes_none : {H D : Type 0} (does : D → D → Step H → Type 0) (d e : D) (at count : ℕ) → at ≡ count → does d e Step.Inside → Closes does d at count (Ok tt) e
closes_none {H} does d e at count here inside = record { visits = []; each = omega (arith, here); steps = (e, inside, refl); answer = refl }

pub closes_more : {H D : Type 0} (does : D → D → Step H → Type 0) (d d1 d2 d3 d4 : D) (at count : ℕ) (held left : H) (answer same : Result (Unit {0}) Refusal)
    → does d d1 (Step.Lock at held) → does d1 d2 (Step.Close held left answer) → Closes does d2 (at + 1) count same d3 → does d3 d4 (Step.Unlock left)
    → Closes does d at count answer d4
closes_more {H} {D} does d d1 d2 d3 d4 at count held left answer same lock close rest unlock =
    let v : Closing H = record { held = held; left = left; answer = answer } in
    record {
      visits = v ∷ rest.visits;
      each = omega (arith, rest.each);
      steps = (d1, lock, (d2, close, follows does d2 d3 d4 (nested close_up close_down (at + 1) rest.visits) (Step.Unlock left ∷ []) rest.steps (d4, unlock, refl)));
      answer = refl;
    }

-- ---- the spare

pub spares_none : {H D : Type 0} (does : D → D → Step H → Type 0) (d e : D) (at count : ℕ) (own : Facts) (left : ℕ) → at ≡ count → does d e Step.Inside
    → Spares does d at count own left left e
spares_none {H} does d e at count own left here inside = record { visits = []; each = omega (arith, here); steps = (e, inside, refl); answer = omega (arith) }

pub spares_more : {H D : Type 0} (does : D → D → Step H → Type 0) (d d1 d2 d3 d4 : D) (at count : ℕ) (own : Facts) (before granted less result : ℕ) (held : H)
    → does d d1 (Step.Lock at held) → does d1 d2 (Step.Granted held own (Ok granted)) → less ≡ before - granted → Spares does d2 (at + 1) count own less result d3
    → does d3 d4 (Step.Unlock held) → Spares does d at count own before result d4
spares_more {H} {D} does d d1 d2 d3 d4 at count own before granted less result held lock tell is rest unlock =
    let v : Telling H = record { held = held; granted = granted } in
    record {
      visits = v ∷ rest.visits;
      each = omega (arith, rest.each);
      steps = (d1, lock, (d2, tell, follows does d2 d3 d4 (nested (tell_up own) tell_down (at + 1) rest.visits) (Step.Unlock held ∷ []) rest.steps (d4, unlock, refl)));
      answer = omega (arith, rest.answer, is);
    }

-- ---- a collection

-- all lanes have reported
pub collects_none : {H D : Type 0} (does : D → D → Step H → Type 0) (d e : D) (at count : ℕ) (own : Facts) (question : Asked) (before : Option Gathered) (told : Batch)
    → at ≡ count → does d e Step.Inside → IsBatchOf before told → Collects does d at count own question before told e
collects_none {H} does d e at count own question (Some all) told here inside is =
    record { visits = []; each = omega (arith, here); steps = (e, inside, refl); all = all; joins = refl; batch = is }
collects_none {H} does d e at count own question None told here inside is = absurd is

joins_more : (before : Option Gathered) (answer : Result Gathered Refusal) (part with all : Gathered) (rest : List Gathered)
    → answer ≡ Ok part → JoinsAnswer before answer with → JoinsAll (Some with) rest all → JoinsAll before (part ∷ rest) all
joins_more None answer part with all rest is one joins = (with, subst (λ (r : Result Gathered Refusal). JoinsAnswer None r with) is one, joins)
joins_more (Some a) answer part with all rest is one joins = (with, subst (λ (r : Result Gathered Refusal). JoinsAnswer (Some a) r with) is one, joins)

pub collects_more : {H D : Type 0} (does : D → D → Step H → Type 0) (d d1 d2 d3 d4 d5 : D) (at count : ℕ) (own : Facts) (question : Asked) (before : Option Gathered)
    (answer : Result Gathered Refusal) (with : Gathered) (told : Batch) (held left : H)
    → does d d1 (Step.Lock at held) → does d1 d2 (Step.Report held own question answer) → JoinsAnswer before answer with
    → Collects does d2 (at + 1) count own question (Some with) told d3 → does d3 d4 (Step.Advance held left question.reader told.time) → does d4 d5 (Step.Unlock left)
    → Collects does d at count own question before told d5
collects_more {H} {D} does d d1 d2 d3 d4 d5 at count own question before (Ok part) with told held left lock report one rest advance unlock =
    let v : Reporting H = record { held = held; left = left; part = part } in
    record {
      visits = v ∷ rest.visits;
      each = omega (arith, rest.each);
      steps = (
        d1,
        lock,
        (
          d2,
          report,
          follows does d2 d3 d5 (nested (report_up own question) (report_down question.reader told.time) (at + 1) rest.visits)
              (Step.Advance held left question.reader told.time ∷ Step.Unlock left ∷ []) rest.steps (d4, advance, (d5, unlock, refl)),
        ),
      );
      all = rest.all;
      joins = joins_more before (Ok part) part with rest.all (parts_of rest.visits) refl one rest.joins;
      batch = rest.batch;
    }
collects_more {H} {D} does d d1 d2 d3 d4 d5 at count own question None (Err refusal) with told held left lock report one rest advance unlock = absurd one
collects_more {H} {D} does d d1 d2 d3 d4 d5 at count own question (Some a) (Err refusal) with told held left lock report one rest advance unlock = absurd one

pub quiet_inside : {H D : Type 0} (does : D → D → Step H → Type 0) (d e : D) (at : ℕ) (own : Facts) (question : Asked) → does d e Step.Inside → TakesNothing does d at own question e
quiet_inside does d e at own question inside = record { visits = []; steps = (e, inside, refl) }

pub quiet_more : {H D : Type 0} (does : D → D → Step H → Type 0) (d d1 d2 d3 d4 : D) (at : ℕ) (own : Facts) (question : Asked) (held : H) (answer : Result Gathered Refusal)
    → does d d1 (Step.Lock at held) → does d1 d2 (Step.Report held own question answer) → TakesNothing does d2 (at + 1) own question d3 → does d3 d4 (Step.Unlock held)
    → TakesNothing does d at own question d4
quiet_more {H} does d d1 d2 d3 d4 at own question held answer lock report rest unlock =
    let v : Refusing H = record { held = held; answer = answer } in
    record {
      visits = v ∷ rest.visits;
      steps = (d1, lock, (d2, report, follows does d2 d3 d4 (nested (refuse_up own question) refuse_down (at + 1) rest.visits) (Step.Unlock held ∷ []) rest.steps (d4, unlock, refl)));
    }

pub on_err : {T E : Type 0} (r : Result T E) (P : Type 0) → P → OnErr r P
on_err (Ok x) P is = tt
on_err (Err e) P is = is

-- ---- a grant

pub grants_none : {H D : Type 0} (does : D → D → Step H → Type 0) (d e : D) (at count : ℕ) (own : Facts) (left lane recorder amount : ℕ)
    → at ≡ count → does d e Step.Inside → amount ≤ left → Grants does d at count own left lane recorder amount e
grants_none {H} does d e at count own left lane recorder amount here inside enough = record { visits = []; each = omega (arith, here); steps = (e, inside, refl); enough = omega (arith, enough) }

here_is : {X : Type 0} (at lane : ℕ) (xs ys : X) → at ≡ lane → xs ≡ (if at == lane then xs else ys)
here_is at lane xs ys here = grind arith

other_is : {X : Type 0} (at lane : ℕ) (xs ys : X) → at ≢ lane → ys ≡ (if at == lane then xs else ys)
other_is at lane xs ys other = grind arith

grants_more : {H D : Type 0} (does : D → D → Step H → Type 0) (d d1 d2 d3 e : D) (at count : ℕ) (own : Facts) (before granted less lane recorder amount : ℕ) (found held left : H) (down : List (Step H))
    → down ≡ (if at == lane then (Step.Grant held left own recorder amount (Ok tt) ∷ Step.Unlock left ∷ []) else (Step.Unlock held ∷ []))
    → does d d1 (Step.Lock at found) → does d1 d2 (Step.MayGrant found held own recorder (Ok granted)) → less ≡ before - granted
    → Grants does d2 (at + 1) count own less lane recorder amount d3 → Does does d3 down e
    → Grants does d at count own before lane recorder amount e
grants_more {H} {D} does d d1 d2 d3 e at count own before granted less lane recorder amount found held left down here lock may is rest after =
    let v : Granting H = record { found = found; held = held; left = left; granted = granted } in
    let inner : List (Step H) = nested (grant_up own recorder) (grant_down own lane recorder amount) (at + 1) rest.visits in
    record {
      visits = v ∷ rest.visits;
      each = omega (arith, rest.each);
      steps = (d1, lock, (d2, may, subst (λ (ss : List (Step H)). Does does d2 (inner ++ ss) e) here (follows does d2 d3 e inner down rest.steps after)));
      enough = omega (arith, rest.enough, is);
    }

pub grants_other : {H D : Type 0} (does : D → D → Step H → Type 0) (d d1 d2 d3 d4 : D) (at count : ℕ) (own : Facts) (before granted less lane recorder amount : ℕ) (found held : H) → at ≢ lane
    → does d d1 (Step.Lock at found) → does d1 d2 (Step.MayGrant found held own recorder (Ok granted)) → less ≡ before - granted
    → Grants does d2 (at + 1) count own less lane recorder amount d3 → does d3 d4 (Step.Unlock held)
    → Grants does d at count own before lane recorder amount d4
grants_other {H} does d d1 d2 d3 d4 at count own before granted less lane recorder amount found held other lock may is rest unlock =
    grants_more does d d1 d2 d3 d4 at count own before granted less lane recorder amount found held held (Step.Unlock held ∷ [])
    (other_is at lane (Step.Grant held held own recorder amount (Ok tt) ∷ Step.Unlock held ∷ []) (Step.Unlock held ∷ []) other) lock may is rest (d4, unlock, refl)

pub grants_here : {H D : Type 0} (does : D → D → Step H → Type 0) (d d1 d2 d3 d4 d5 : D) (at count : ℕ) (own : Facts) (before granted less lane recorder amount : ℕ) (found held left : H)
    (answer : Result (Unit {0}) Refusal) → at ≡ lane
    → does d d1 (Step.Lock at found) → does d1 d2 (Step.MayGrant found held own recorder (Ok granted)) → less ≡ before - granted
    → Grants does d2 (at + 1) count own less lane recorder amount d3 → does d3 d4 (Step.Grant held left own recorder amount answer) → does d4 d5 (Step.Unlock left)
    → OnOk answer (Grants does d at count own before lane recorder amount d5)
grants_here does d d1 d2 d3 d4 d5 at count own before granted less lane recorder amount found held left (Err refusal) here lock may is rest grant unlock = tt
grants_here {H} does d d1 d2 d3 d4 d5 at count own before granted less lane recorder amount found held left (Ok tt) here lock may is rest grant unlock =
    grants_more does d d1 d2 d3 d5 at count own before granted less lane recorder amount found held left (Step.Grant held left own recorder amount (Ok tt) ∷ Step.Unlock left ∷ [])
    (here_is at lane (Step.Grant held left own recorder amount (Ok tt) ∷ Step.Unlock left ∷ []) (Step.Unlock held ∷ []) here) lock may is rest (d4, grant, (d5, unlock, refl))

pub ungranted_inside : {H D : Type 0} (does : D → D → Step H → Type 0) (d e : D) (at : ℕ) (own : Facts) (recorder amount : ℕ) → does d e Step.Inside
    → GrantsNothing does d at own recorder amount e
ungranted_inside does d e at own recorder amount inside = record { visits = []; steps = (e, inside, refl) }

pub ungranted_more : {H D : Type 0} (does : D → D → Step H → Type 0) (d d1 d2 d3 d4 : D) (at : ℕ) (own : Facts) (recorder amount : ℕ) (found held : H) (answer : Result ℕ Refusal)
    → does d d1 (Step.Lock at found) → does d1 d2 (Step.MayGrant found held own recorder answer) → GrantsNothing does d2 (at + 1) own recorder amount d3 → does d3 d4 (Step.Unlock held)
    → GrantsNothing does d at own recorder amount d4
ungranted_more {H} does d d1 d2 d3 d4 at own recorder amount found held answer lock may rest unlock =
    let v : Ungranting H = record { found = found; held = held; answer = answer; tried = None } in
    record {
      visits = v ∷ rest.visits;
      steps = (
        d1,
        lock,
        (
          d2,
          may,
          follows does d2 d3 d4 (nested (ungrant_up own recorder) (ungrant_down own recorder amount) (at + 1) rest.visits) (Step.Unlock held ∷ []) rest.steps (d4, unlock, refl),
        ),
      );
    }

-- a lane behind that of the recorder, in which nothing was tried
abbrev untried : {H : Type 0} → Granting H → Ungranting H
untried v = record { found = v.found; held = v.held; answer = Ok v.granted; tried = None }

ungranted_nested : {H : Type 0} (own : Facts) (lane recorder amount at : ℕ) (visits : List (Granting H)) → lane < at
    → nested (grant_up own recorder) (grant_down own lane recorder amount) at visits ≡ nested (ungrant_up own recorder) (ungrant_down own recorder amount) at (map untried visits)
ungranted_nested own lane recorder amount at [] past = refl
ungranted_nested {H} own lane recorder amount at (v ∷ vs) past =
    let inner : List (Step H) = nested (ungrant_up own recorder) (ungrant_down own recorder amount) (at + 1) (map untried vs) in
    let other : at ≢ lane = omega (arith, past) in
    subst (λ (ss : List (Step H)). grant_up own recorder at v ++ (ss ++ grant_down own lane recorder amount at v) ≡ grant_up own recorder at v ++ (inner ++ Step.Unlock v.held ∷ []))
    (sym (ungranted_nested own lane recorder amount (at + 1) vs (omega (arith, past))))
    (subst (λ (ss : List (Step H)). grant_up own recorder at v ++ (inner ++ ss) ≡ grant_up own recorder at v ++ (inner ++ Step.Unlock v.held ∷ []))
    (other_is at lane (Step.Grant v.held v.left own recorder amount (Ok tt) ∷ Step.Unlock v.left ∷ []) (Step.Unlock v.held ∷ []) other) refl)

-- refused in its own lane, after all lanes behind it
pub ungranted_here : {H D : Type 0} (does : D → D → Step H → Type 0) (d d1 d2 d3 d4 d5 : D) (at count : ℕ) (own : Facts) (granted less lane recorder amount : ℕ) (found held left : H)
    (answer : Result (Unit {0}) Refusal) → at ≡ lane
    → does d d1 (Step.Lock at found) → does d1 d2 (Step.MayGrant found held own recorder (Ok granted)) → Grants does d2 (at + 1) count own less lane recorder amount d3
    → does d3 d4 (Step.Grant held left own recorder amount answer) → does d4 d5 (Step.Unlock left)
    → OnErr answer (GrantsNothing does d at own recorder amount d5)
ungranted_here does d d1 d2 d3 d4 d5 at count own granted less lane recorder amount found held left (Ok done) here lock may rest grant unlock = tt
ungranted_here {H} does d d1 d2 d3 d4 d5 at count own granted less lane recorder amount found held left (Err refusal) here lock may rest grant unlock =
    let v : Ungranting H = record { found = found; held = held; answer = Ok granted; tried = Some (left, refusal) } in
    let inner : List (Step H) = nested (ungrant_up own recorder) (ungrant_down own recorder amount) (at + 1) (map untried rest.visits) in
    let did : Does does d2 inner d3 = subst (λ (ss : List (Step H)). Does does d2 ss d3) (ungranted_nested own lane recorder amount (at + 1) rest.visits (omega (arith, here))) rest.steps in
    record {
      visits = v ∷ map untried rest.visits;
      steps = (d1, lock, (d2, may, follows does d2 d3 d5 inner (Step.Grant held left own recorder amount (Err refusal) ∷ Step.Unlock left ∷ []) did (d4, grant, (d5, unlock, refl))));
    }
