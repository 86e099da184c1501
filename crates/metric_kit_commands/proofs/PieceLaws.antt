-- Events that are run in pieces, and the texts of their replies.
use Rattle.std.proofs.Common.{◌≡◌, ℕ, ◌+◌, false, List, [], ◌∷◌, ◌++◌, Option, Result, Ok, Err, OnOk, refl, sym, ap, subst, ◌∙◌, append_assoc}
use Rattle.std.specs.Io.KnownBytes.{Appends}
use Rattle.std.specs.List.{enumerate_from, flat_map, list_any}
use Rattle.std.proofs.KnownBytes.{Appends-nil, Appends-trans}
use Rattle.std.proofs.lemmas.Grind.{flat_map-append}
use Rattle.metric_history.specs.Journals.{Standing}
use Rattle.metric_core.specs.CoreStands.{CoreStands, CoreValue}
use Rattle.metric_facts.specs.Facts.{RunFacts}
use Rattle.metric_history.specs.History.{History, answered}
use Rattle.metric_history.specs.Legal.{AllLegal, grown}
use Rattle.metric_history.specs.declared.event.Event.{Event}
use Rattle.metric_history.specs.declared.event.Reply.{Reply}
use Rattle.metric_io.specs.Prefix.{AppendsPrefix, prefix_so_far}
use Rattle.metric_plan.specs.Plans.{PlanValue}
use Rattle.metric_kit_commands.specs.DueRuns.{all_due_kept, all_due_legal}
use Rattle.metric_kit_commands.specs.Replies.{formed_text, is_want_of_memory}
use Rattle.metric_kit_commands.specs.Runs.{due_history, due_replies, due_reply}
use Rattle.metric_kit_commands.specs.Written.{parts_text}
use Rattle.metric_kit_commands.specs.WrittenRuns.{due_text}
use Rattle.metric_kit_commands.proofs.AnswerLaws.{one_run}
use Rattle.metric_kit_commands.specs.TextLaws.{prefix_of_first, prefix_of_second}

-- numbers that a text does not have
pub unnumbered : {T : Type 0} (text : T → List ℕ) (k : ℕ) (parts : List T) → flat_map (λ (placed : ℕ × T). text placed.1) (enumerate_from k parts) ≡ flat_map text parts
unnumbered text k [] = refl
unnumbered text k (x ∷ parts) = ap (λ (l : List ℕ). text x ++ l) (unnumbered text (k + 1) parts)

formed_text-append : (text : Reply → List ℕ) (first second : List Reply) → formed_text text (first ++ second) ≡ formed_text text first ++ formed_text text second
unfolding parts_text
formed_text-append text first second =
    unnumbered text 0 (first ++ second)
    ∙ flat_map-append text first second
    ∙ ap (λ (l : List ℕ). l ++ flat_map text second) (sym (unnumbered text 0 first))
    ∙ ap (λ (l : List ℕ). flat_map (λ (placed : ℕ × Reply). text placed.1) (enumerate_from 0 first) ++ l) (sym (unnumbered text 0 second))

due_replies-append : (facts : RunFacts) (start : ℕ) (h : History) (first second : List Event)
    → due_replies facts start h (first ++ second) ≡ due_replies facts start h first ++ due_replies facts start (due_history facts start h first) second
unfolding due_replies due_history
due_replies-append facts start h [] second = refl
due_replies-append facts start h (event ∷ first) second =
    ap (λ (l : List Reply). due_reply facts start h event ∷ l) (due_replies-append facts start (answered event (due_reply facts start h event) ∷ h) first second)

due_history-append : (facts : RunFacts) (start : ℕ) (h : History) (first second : List Event)
    → due_history facts start h (first ++ second) ≡ due_history facts start (due_history facts start h first) second
unfolding due_history
due_history-append facts start h [] second = refl
due_history-append facts start h (event ∷ first) second = due_history-append facts start (answered event (due_reply facts start h event) ∷ h) first second

grown-due : (facts : RunFacts) (start : ℕ) (h : History) (events : List Event) → grown h events (due_replies facts start h events) ≡ due_history facts start h events
unfolding due_replies due_history
grown-due facts start h [] = refl
grown-due facts start h (event ∷ events) = grown-due facts start (answered event (due_reply facts start h event) ∷ h) events

due_text-append : (text : PlanValue → Reply → List ℕ) (plan : PlanValue) (start : ℕ) (h : History) (first second : List Event)
    → due_text text plan start h (first ++ second) ≡ due_text text plan start h first ++ due_text text plan start (due_history plan.facts start h first) second
due_text-append text plan start h first second =
    ap (formed_text (text plan)) (due_replies-append plan.facts start h first second)
    ∙ formed_text-append (text plan) (due_replies plan.facts start h first) (due_replies plan.facts start (due_history plan.facts start h first) second)

-- legal replies other than out of memory are the ones that are due
pub is_due : (facts : RunFacts) (start : ℕ) (h : History) (events : List Event) (replies : List Reply) → AllLegal facts start h events replies
    → list_any is_want_of_memory replies ≡ false → replies ≡ due_replies facts start h events
is_due facts start h events replies legal remembered =
    one_run facts start h events replies (due_replies facts start h events) legal (all_due_legal facts start h events) remembered (all_due_kept facts start h events)

-- the history after them
pub due_after : (facts : RunFacts) (start : ℕ) (h : History) (events : List Event) (replies : List Reply) → AllLegal facts start h events replies
    → list_any is_want_of_memory replies ≡ false → grown h events replies ≡ due_history facts start h events
due_after facts start h events replies legal remembered =
    ap (grown h events) (is_due facts start h events replies legal remembered) ∙ grown-due facts start h events

-- The first events were run, and the texts of their replies written.
pub record RunSoFar {B : Type 0} (text : PlanValue → Reply → List ℕ) (standing : B → Standing) (old now : Option (List ℕ)) (plan : PlanValue) (start : ℕ) (core : CoreValue B)
    (events rest : List Event) : Type 0 where
  pub done : List Event
  pub whole : events ≡ done ++ rest
  pub written : Appends old now (due_text text plan start [] done)
  pub stands : CoreStands standing core (due_history plan.facts start [] done)

-- one piece more
pub piece_more : {B : Type 0} (text : PlanValue → Reply → List ℕ) (stands : B → Standing) (old now later : Option (List ℕ)) (plan : PlanValue) (start : ℕ) (core after : CoreValue B)
    (events rest piece others : List Event) (so_far : RunSoFar text stands old now plan start core events rest) → rest ≡ piece ++ others
    → ((h : History) → CoreStands stands core h → Appends now later (due_text text plan start h piece))
    → ((h : History) → CoreStands stands core h → CoreStands stands after (due_history plan.facts start h piece))
    → RunSoFar text stands old later plan start after events others
piece_more text stands old now later plan start core after events rest piece others so_far parted writes runs = record {
  done = so_far.done ++ piece;
  whole = so_far.whole ∙ ap (λ (l : List Event). so_far.done ++ l) parted ∙ sym (append_assoc so_far.done piece others);
  written = subst (Appends old later) (sym (due_text-append text plan start [] so_far.done piece))
      (Appends-trans old now later (due_text text plan start [] so_far.done) (due_text text plan start (due_history plan.facts start [] so_far.done) piece) so_far.written
      (writes (due_history plan.facts start [] so_far.done) so_far.stands));
  stands = subst (CoreStands stands after) (sym (due_history-append plan.facts start [] so_far.done piece)) (runs (due_history plan.facts start [] so_far.done) so_far.stands);
}

-- a prefix of the next piece is one of the whole
pub piece_prefix : {B : Type 0} (text : PlanValue → Reply → List ℕ) (stands : B → Standing) (old now later : Option (List ℕ)) (plan : PlanValue) (start : ℕ) (core : CoreValue B)
    (events rest piece others : List Event) (so_far : RunSoFar text stands old now plan start core events rest) → rest ≡ piece ++ others
    → ((h : History) → CoreStands stands core h → AppendsPrefix now later (due_text text plan start h piece))
    → AppendsPrefix old later (due_text text plan start [] events)
piece_prefix text stands old now later plan start core events rest piece others so_far parted writes =
    let h = due_history plan.facts start [] so_far.done in
    let both : due_text text plan start [] ((so_far.done ++ piece) ++ others) ≡ (due_text text plan start [] so_far.done ++ due_text text plan start h piece)
    ++ due_text text plan start (due_history plan.facts start [] (so_far.done ++ piece)) others =
    due_text-append text plan start [] (so_far.done ++ piece) others
    ∙ ap (λ (l : List ℕ). l ++ due_text text plan start (due_history plan.facts start [] (so_far.done ++ piece)) others) (due_text-append text plan start [] so_far.done piece) in
    let all : events ≡ (so_far.done ++ piece) ++ others =
    so_far.whole ∙ ap (λ (l : List Event). so_far.done ++ l) parted ∙ sym (append_assoc so_far.done piece others) in
    subst (AppendsPrefix old later) (sym (ap (due_text text plan start []) all ∙ both))
    (prefix_of_first old later _ _ (prefix_of_second old now later _ _ so_far.written (writes h so_far.stands)))

-- what is written of the replies that are due
pub text_is_due : (text : PlanValue → Reply → List ℕ) (plan told : PlanValue) (start : ℕ) (h : History) (events : List Event) (replies shown : List Reply)
    → told ≡ plan → shown ≡ replies → replies ≡ due_replies plan.facts start h events → formed_text (text told) shown ≡ due_text text plan start h events
text_is_due text plan told start h events replies shown same all due =
    ap (λ (p : PlanValue). formed_text (text p) shown) same ∙ ap (formed_text (text plan)) (all ∙ due)

-- where it is done, what follows
pub on_done : {X E : Type 0} (r : Result X E) {P Q : Type 0} → (P → Q) → OnOk r P → OnOk r Q
on_done (Ok x) f p = f p
on_done (Err e) f p = tt

-- before the first piece
pub run_begins : {B : Type 0} (text : PlanValue → Reply → List ℕ) (standing : B → Standing) (old : Option (List ℕ)) (plan : PlanValue) (start : ℕ) (core : CoreValue B) (events : List Event)
    → CoreStands standing core [] → RunSoFar text standing old old plan start core events events
unfolding parts_text due_replies due_history
run_begins text standing old plan start core events stands = record { done = []; whole = refl; written = Appends-nil old; stands = stands }

-- The first events were run, and what was tallied tells of their replies.
pub record TalliedSoFar {B T : Type 0} (tells : T → T → List Reply → Type 0) (standing : B → Standing) (begun now : T) (plan : PlanValue) (start : ℕ) (core : CoreValue B)
    (events rest : List Event) : Type 0 where
  pub done : List Event
  pub whole : events ≡ done ++ rest
  pub told : tells begun now (due_replies plan.facts start [] done)
  pub stands : CoreStands standing core (due_history plan.facts start [] done)

pub tally_begins : {B T : Type 0} (tells : T → T → List Reply → Type 0) (standing : B → Standing) (begun : T) (plan : PlanValue) (start : ℕ) (core : CoreValue B) (events : List Event)
    → CoreStands standing core [] → tells begun begun [] → TalliedSoFar tells standing begun begun plan start core events events
unfolding due_replies due_history
tally_begins tells standing begun plan start core events stands none = record { done = []; whole = refl; told = none; stands = stands }

pub piece_tallied : {B T : Type 0} (tells : T → T → List Reply → Type 0) (standing : B → Standing) (begun now next : T) (plan : PlanValue) (start : ℕ) (core after : CoreValue B)
    (events rest piece others : List Event) (replies : List Reply) (so_far : TalliedSoFar tells standing begun now plan start core events rest) → rest ≡ piece ++ others
    → ((h : History) → CoreStands standing core h → replies ≡ due_replies plan.facts start h piece)
    → ((h : History) → CoreStands standing core h → CoreStands standing after (due_history plan.facts start h piece))
    → ((told : List Reply) → tells begun now told → tells begun next (told ++ replies))
    → TalliedSoFar tells standing begun next plan start after events others
piece_tallied tells standing begun now next plan start core after events rest piece others replies so_far parted due runs adds =
    let h = due_history plan.facts start [] so_far.done in
    record {
      done = so_far.done ++ piece;
      whole = so_far.whole ∙ ap (λ (l : List Event). so_far.done ++ l) parted ∙ sym (append_assoc so_far.done piece others);
      told = subst (tells begun next)
          (ap (λ (l : List Reply). due_replies plan.facts start [] so_far.done ++ l) (due h so_far.stands) ∙ sym (due_replies-append plan.facts start [] so_far.done piece))
          (adds (due_replies plan.facts start [] so_far.done) so_far.told);
      stands = subst (CoreStands standing after) (sym (due_history-append plan.facts start [] so_far.done piece)) (runs h so_far.stands);
    }

-- what was written so far is a prefix of all
pub written_so_far : {B : Type 0} (text : PlanValue → Reply → List ℕ) (standing : B → Standing) (old now : Option (List ℕ)) (plan : PlanValue) (start : ℕ) (core : CoreValue B)
    (events rest : List Event) (so_far : RunSoFar text standing old now plan start core events rest) → AppendsPrefix old now (due_text text plan start [] events)
written_so_far text standing old now plan start core events rest so_far =
    prefix_so_far old now _ (due_text text plan start [] so_far.done) (due_text text plan start (due_history plan.facts start [] so_far.done) rest) so_far.written
    (ap (due_text text plan start []) so_far.whole ∙ due_text-append text plan start [] so_far.done rest)
