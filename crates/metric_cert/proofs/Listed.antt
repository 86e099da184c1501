-- What the values of a list that are left are read as.
use Rattle.std.proofs.Common.{◌≡◌, ◌≢◌, ◌<◌, ◌≤◌, ◌+◌, ◌∙◌, ℕ, List, [], ◌∷◌, ◌++◌, length, get_or, drop, map, Result, Ok, Err, refl, sym, ap, subst}
use Rattle.std.proofs.lemmas.List.{drop_all, drop_more}
use Rattle.std.specs.Result.{IsErrAnd}
use Rattle.toml.specs.Data.{Data, Members}
use Rattle.toml.specs.View.{view}
use Rattle.toml.specs.declared.value.Value.{Value}
use Rattle.metric_base.specs.Steps.{Gives, each, with_fault}
use Rattle.metric_cert.specs.declared.fault.CertFault.{CertFault}
use Rattle.metric_cert.specs.declared.fault.CertFault.TheVariants.{Memory}
use Rattle.metric_cert.specs.declared.fault.CertList.{CertList}
use Rattle.metric_cert.specs.declared.fault.CertPlace.TheVariants as places
use Rattle.metric_cert.specs.Places.{at}
use Rattle.metric_cert.specs.Reading.{entry_as, table_as}

-- the values that are left, from the next on
rest_at : (values : List Value) (n : ℕ) (v : Value) → n < length values → v ≡ get_or values n v → map view (drop n values) ≡ view v ∷ map view (drop (n + 1) values)
rest_at values n v within is =
    ap (λ (vs : List Value). map view vs) (drop_more values n v within) ∙ ap (λ (w : Value). view w ∷ map view (drop (n + 1) values)) (sym is)

-- one value more
pub next_read : {X : Type 0} (step : List X → Data → Result X CertFault) (values : List Value) (n : ℕ) (v : Value) (before after : List X) (x : X) (all : Result (List X) CertFault)
    → n < length values → v ≡ get_or values n v → step before (view v) ≡ Ok x → after ≡ before ++ x ∷ []
    → each step before (map view (drop n values)) ≡ all → each step after (map view (drop (n + 1) values)) ≡ all
next_read {X = X} step values n v before after x all within is one grown read =
    let rest = rest_at values n v within is in
    let more : each step before (view v ∷ map view (drop (n + 1) values)) ≡ each step (before ++ x ∷ []) (map view (drop (n + 1) values)) = rw one refl in
    ap (λ (xs : List X). each step xs (map view (drop (n + 1) values))) grown ∙ sym more
    ∙ ap (λ (ds : List Data). each step before ds) (sym rest) ∙ read

-- the first fault
fault_read : {X : Type 0} (step : List X → Data → Result X CertFault) (values : List Value) (n : ℕ) (v : Value) (before : List X) (e : CertFault)
    → n < length values → v ≡ get_or values n v → step before (view v) ≡ Err e → each step before (map view (drop n values)) ≡ Err e
fault_read {X = X} step values n v before e within is one =
    let rest = rest_at values n v within is in
    let failed : each step before (view v ∷ map view (drop (n + 1) values)) ≡ Err e = rw one refl in
    ap (λ (ds : List Data). each step before ds) rest ∙ failed

pub fault_given : {X : Type 0} (step : List X → Data → Result X CertFault) (values : List Value) (n : ℕ) (v : Value) (before : List X) (r all : Result (List X) CertFault) (e : CertFault)
    → n < length values → v ≡ get_or values n v → IsErrAnd r (λ f. f ≡ e) → (e ≢ Memory → step before (view v) ≡ Err e)
    → each step before (map view (drop n values)) ≡ all → Gives Memory r all
fault_given step values n v before (Ok xs) all e within is told one read = absurd told
fault_given step values n v before (Err f) all e within is told one read =
    λ other. sym read ∙ fault_read step values n v before e within is (one (λ same. other (told ∙ same))) ∙ ap (λ (g : CertFault). Err g) (sym told)

-- a table that is read at the place behind those before
pub read_behind : {X : Type 0} (list : CertList) (step : Members → Result X CertFault) (before : List X) (n : ℕ) (d : Data) (r : Result X CertFault)
    → n ≡ length before → with_fault (at (places.Entry list n)) (table_as step d) ≡ r → entry_as list step before d ≡ r
read_behind list step before n d r same read =
    subst (λ (m : ℕ). with_fault (at (places.Entry list m)) (table_as step d) ≡ r) same read

-- no value more
pub all_read : {X : Type 0} (step : List X → Data → Result X CertFault) (values : List Value) (n : ℕ) (before : List X) (all : Result (List X) CertFault)
    → length values ≤ n → each step before (map view (drop n values)) ≡ all → all ≡ Ok before
all_read step values n before all past read =
    sym read ∙ ap (λ (vs : List Value). each step before (map view vs)) (drop_all n values past)
