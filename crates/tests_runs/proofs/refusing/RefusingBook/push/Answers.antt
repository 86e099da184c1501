-- nothing was recorded, so the recording fits, and memory may run out
use mir.Val.{SFits}
use Rattle.std.proofs.Common.{◌≡◌, List, Err, ap, sym, subst, refl, ◌∙◌, true, rules, w64}
use Rattle.std.specs.Prelude.{slice_index}
use Rattle.metric_history.specs.Journals.{MayAnswer}
use Rattle.metric_contents.specs.declared.refusal.Refusal.TheVariants.{Memory}
use Rattle.metric_history.specs.declared.entry.Entry.{Entry}
use Rattle.metric_history.specs.Windows.{fits_all}
use Rattle.tests_runs.specs.Refusing.{RefusingValue}
use Rattle.tests_runs.proofs.FirstFits.{first_fits, high_of, low_of}
use Rattle.tests_runs.proofs.refusing.RefusingBook.push.Goals as goal

pub returns-then-self-2-clause-answer : goal.returns-then-self-2-clause-answer
returns-then-self-2-clause-answer c = λ facts journal marks stands.
    let fits : SFits w64 c.args.entry.value = search rules in
    let fresh : c.args.self.now.is_new ≡ true = sym (ap (λ (v : RefusingValue). v.is_new) c.self.view_is) ∙ c.if-self.true in
    let first = first_fits facts (slice_index marks) c.args.entry (low_of c.args.entry.value fits.sfits) (high_of c.args.entry.value fits.sfits) in
    let here = subst (λ (entries : List Entry). fits_all facts (slice_index marks) entries c.args.entry ≡ true) (sym (stands.none fresh)) first in
    subst (λ b. MayAnswer b (Err Memory)) (sym here) refl
