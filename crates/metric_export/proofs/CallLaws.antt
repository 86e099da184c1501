-- What the calls of an exporter come to over a whole run.
use Rattle.std.proofs.Common.{◌≡◌, Bool, true, false, List, [], ◌∷◌, ◌++◌, ◌⊎◌, inl, inr, Result, Ok, Err, refl, sym, ◌∙◌, subst}
use Rattle.std.specs.List.{AllByRecursion}
use Rattle.metric_export.specs.States.{Answers}
use Rattle.metric_export.specs.Calls.{Call, FailedIn, FailedInSome, IsFaultOfDevice, IsRun, Leaves, StaysShutDown}
use Rattle.metric_export.specs.declared.fault.ExportFault.{ExportFault}
use Rattle.metric_export.specs.declared.fault.ExportFault.TheVariants as fault
use Rattle.metric_export.specs.declared.state.ExporterState.{ExporterState}
use Rattle.metric_export.specs.declared.state.ExporterState.TheVariants.{Open, Broken, ShutDown}

-- ---- an exporter that was shut down

shut_answer : (s : ExporterState) (failed : Type 0) (r : Result (Unit {0}) ExportFault) → s ≡ ShutDown → Answers s failed r
    → r ≡ Err fault.ShutDown
shut_answer s failed (Ok done) e a = absurd cc
shut_answer s failed (Err fault.Write) e (inl a) = absurd cc
shut_answer s failed (Err fault.Write) e (inr a) = let b : s ≡ Open = a.0 in absurd cc
shut_answer s failed (Err fault.ShutDown) e a = refl
shut_answer s failed (Err fault.Memory) e a = absurd cc
shut_answer s failed (Err fault.Kept) e a = absurd cc
shut_answer s failed (Err fault.OtherPlan) e a = absurd cc
shut_answer s failed (Err fault.OtherReader) e a = absurd cc

shut_after : (is_shutdown : Bool) (s s' : ExporterState) (r : Result (Unit {0}) ExportFault) → s ≡ ShutDown → r ≡ Err fault.ShutDown
    → Leaves is_shutdown s s' r → s' ≡ ShutDown
shut_after true s s' r e f l = l
shut_after false s s' (Ok done) e f l = l ∙ e
shut_after false s s' (Err fault.Write) e f l = absurd cc
shut_after false s s' (Err fault.ShutDown) e f l = l ∙ e
shut_after false s s' (Err fault.Memory) e f l = l ∙ e
shut_after false s s' (Err fault.Kept) e f l = l ∙ e
shut_after false s s' (Err fault.OtherPlan) e f l = l ∙ e
shut_after false s s' (Err fault.OtherReader) e f l = l ∙ e

shut_from : (calls : List Call) → IsRun ShutDown calls → AllByRecursion (λ call. call.answer ≡ Err fault.ShutDown) calls
shut_from [] run = tt
shut_from (call ∷ calls) run =
    let answer : call.answer ≡ Err fault.ShutDown = shut_answer _ _ _ run.0 run.1.0.0 in
    (answer, shut_from calls (subst (λ (s : ExporterState). IsRun s calls) (shut_after _ _ _ _ run.0 answer run.1.0.1) run.1.1))

shuts_down : (is_shutdown : Bool) (s s' : ExporterState) (r : Result (Unit {0}) ExportFault) → is_shutdown ≡ true
    → Leaves is_shutdown s s' r → s' ≡ ShutDown
shuts_down true s s' r e l = l
shuts_down false s s' r e l = absurd cc

pub stays_shut_down : StaysShutDown
stays_shut_down state [] shutdown later run shuts =
    shut_from later (subst (λ (s : ExporterState). IsRun s later) (shuts_down _ _ _ _ shuts run.1.0.1) run.1.1)
stays_shut_down state (call ∷ calls) shutdown later run shuts = stays_shut_down call.after calls shutdown later run.1.1 shuts

-- ---- a device that failed

write_answer : (s : ExporterState) (failed : Type 0) (r : Result (Unit {0}) ExportFault) → r ≡ Err fault.Write → Answers s failed r
    → (s ≡ Broken) ⊎ ((s ≡ Open) × failed)
write_answer s failed (Ok done) e a = absurd cc
write_answer s failed (Err fault.Write) e a = a
write_answer s failed (Err fault.ShutDown) e a = absurd cc
write_answer s failed (Err fault.Memory) e a = absurd cc
write_answer s failed (Err fault.Kept) e a = absurd cc
write_answer s failed (Err fault.OtherPlan) e a = absurd cc
write_answer s failed (Err fault.OtherReader) e a = absurd cc

-- an exporter is broken after a call only where it was before, or the device failed in the call
broken_after : (earlier failed : Type 0) (is_shutdown : Bool) (s s' : ExporterState) (r : Result (Unit {0}) ExportFault) → (s ≡ Broken → earlier)
    → Answers s failed r → Leaves is_shutdown s s' r → s' ≡ Broken → earlier ⊎ failed
broken_after earlier failed true s s' r known a l e = absurd cc
broken_after earlier failed false s s' (Ok done) known a l e = absurd cc
broken_after earlier failed false s s' (Err fault.Write) known (inl a) l e = inl (known a)
broken_after earlier failed false s s' (Err fault.Write) known (inr a) l e = inr a.1
broken_after earlier failed false s s' (Err fault.ShutDown) known a l e = absurd cc
broken_after earlier failed false s s' (Err fault.Memory) known a l e = absurd cc
broken_after earlier failed false s s' (Err fault.Kept) known a l e = absurd cc
broken_after earlier failed false s s' (Err fault.OtherPlan) known a l e = absurd cc
broken_after earlier failed false s s' (Err fault.OtherReader) known a l e = absurd cc

regrouped : (a b c : Type 0) → (a ⊎ b) ⊎ c → a ⊎ (b ⊎ c)
regrouped a b c (inl (inl x)) = inl x
regrouped a b c (inl (inr x)) = inr (inl x)
regrouped a b c (inr x) = inr (inr x)

blamed : (earlier : Type 0) (state : ExporterState) (calls : List Call) (last : Call) → (state ≡ Broken → earlier)
    → IsRun state (calls ++ last ∷ []) → last.answer ≡ Err fault.Write → earlier ⊎ FailedInSome (calls ++ last ∷ [])
blamed earlier state [] last known run write =
    elim (write_answer _ _ _ write run.1.0.0) [ inl broken ↦ inl (known (sym run.0 ∙ broken)) | inr failed ↦ inr (inl failed.1) ]
blamed earlier state (call ∷ calls) last known run write =
    regrouped _ _ _ (blamed (earlier ⊎ FailedIn call) call.after calls last
    (broken_after earlier (FailedIn call) _ _ _ _ (λ broken. known (sym run.0 ∙ broken)) run.1.0.0 run.1.0.1) run.1.1 write)

pub faults_of_device : IsFaultOfDevice
faults_of_device calls last run write =
    elim (blamed ⊥ Open calls last (λ e. absurd cc) run write) [ inl none ↦ absurd none | inr failed ↦ failed ]
