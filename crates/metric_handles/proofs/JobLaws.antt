-- What a job makes on an instrument, by its first need and the others.
use Rattle.std.proofs.Common.{◌≡◌, ◌≢◌, ◌+◌, ℕ, Bool, cond, List, ◌∷◌, ap, zero-add, ◌∙◌, ◌==◌}
use Rattle.std.proofs.lemmas.Bool.{eq-eqb, ne_eqb}
use Rattle.std.proofs.lemmas.List.Sums.{sum_by-cons}
use Rattle.metric_handles.specs.declared.jobs.Need.{Need}
use Rattle.metric_handles.specs.Jobs.{needed_in}

needed : (need : Need) (job : List Need) (instrument : ℕ) → needed_in (need ∷ job) instrument ≡ cond (need.instrument == instrument) need.count 0 + needed_in job instrument
needed need job instrument = sum_by-cons (λ (n : Need). cond (n.instrument == instrument) n.count 0) need job

pub needed_here : (need : Need) (job : List Need) (instrument : ℕ) → need.instrument ≡ instrument → needed_in (need ∷ job) instrument ≡ need.count + needed_in job instrument
needed_here need job instrument same = needed need job instrument ∙ ap (λ (b : Bool). cond b need.count 0 + needed_in job instrument) (eq-eqb need.instrument instrument same)

pub needed_else : (need : Need) (job : List Need) (instrument : ℕ) → need.instrument ≢ instrument → needed_in (need ∷ job) instrument ≡ needed_in job instrument
needed_else need job instrument other =
    needed need job instrument ∙ ap (λ (b : Bool). cond b need.count 0 + needed_in job instrument) (ne_eqb need.instrument instrument other) ∙ zero-add (needed_in job instrument)
