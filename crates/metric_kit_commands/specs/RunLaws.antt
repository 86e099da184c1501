-- The three ways in which a command ends.
use Rattle.std.proofs.Common.{◌≡◌, ℕ, List, Option, Some, None, Result, Ok, Err, IfErr, IfSome, IsErrAnd, OnOk, ◌≤◌, ◌+◌, inl, inr, refl, sym, subst, ◌∙◌}
use Rattle.std.specs.Io.KnownBytes.{Appends, Keeps}
use Rattle.metric_io.specs.Input.{IsReadFault}
use Rattle.metric_io.specs.Prefix.{AppendsPrefix}
use Rattle.metric_io.specs.Input.{most_reads}
use Rattle.metric_io.specs.declared.whole.ReadFault.{ReadFault}
use Rattle.metric_io.specs.declared.whole.ReadFault.TheVariants as reading
use Rattle.metric_kit_commands.specs.declared.fault.KitFault.{KitFault}
use Rattle.metric_kit_commands.specs.declared.fault.KitFault.TheVariants.{Read, Write, Memory}
use Rattle.metric_kit_commands.specs.Commands.{IfDue, RunsCommand, SinkRun, SourceRun}
use Rattle.metric_kit_commands.specs.Faults.{IsOfInput, from_read}
use Rattle.metric_kit_commands.specs.Written.{IsSinkFault}

-- what holds of the bytes that were taken holds of those that the source told
of_told : (seen : Option (List ℕ)) (all given : List ℕ) (Holds : List ℕ → Type 0)
    → IfSome seen (λ xs. all ≡ xs) → given ≡ all → Holds given → IfSome seen Holds
of_told None all given Holds e d holds = tt
of_told (Some xs) all given Holds e d holds = subst Holds (d ∙ e) holds

-- so a text that is due of them is due of those
due_of : (seen : Option (List ℕ)) (IsText : List ℕ → List ℕ → Type 0) (all given text : List ℕ) (Holds : List ℕ → Type 0)
    → IfSome seen (λ xs. all ≡ xs) → given ≡ all → IsText given text → Holds text → IfDue IsText seen Holds
due_of seen IsText all given text Holds told same due holds =
    of_told seen all given (λ bytes. (text : List ℕ) × IsText bytes text × Holds text) told same (text, due, holds)

-- The input was not read.
pub unread : (IsText : List ℕ → List ℕ → Type 0) (IsFirstFault : List ℕ → KitFault → Type 0) (source : SourceRun) (sink : SinkRun)
    (fault : ReadFault) (r : Result (Unit {0}) KitFault)
    → IsErrAnd r (λ kit. kit ≡ from_read fault)
    → (fault ≡ reading.Read → IsReadFault source.counts source.counts_after source.input)
    → Keeps sink.contents sink.contents_after → source.counts_after.reads ≤ source.counts.reads + most_reads
    → RunsCommand IsText IsFirstFault source sink r
unread IsText IsFirstFault source sink fault (Ok done) e blamed kept asked = absurd e
unread IsText IsFirstFault source sink reading.Read (Err kit) e blamed kept asked = record {
  done = tt;
  prefix = inl kept;
  nothing = λ _ _. kept;
  first = λ other _ _. absurd (other e);
  read = λ _. blamed refl;
  write = λ w. absurd cc;
  asked = asked;
}
unread IsText IsFirstFault source sink reading.Memory (Err kit) e blamed kept asked = record {
  done = tt;
  prefix = inl kept;
  nothing = λ _ _. kept;
  first = λ _ _ other. absurd (other e);
  read = λ w. absurd cc;
  write = λ w. absurd cc;
  asked = asked;
}

one_fault : (r : Result (Unit {0}) KitFault) (a b : KitFault) → r ≡ Err a → r ≡ Err b → a ≡ b
one_fault r a b p q = cc

-- The input has a fault.
pub refused : (IsText : List ℕ → List ℕ → Type 0) (IsFirstFault : List ℕ → KitFault → Type 0) (source : SourceRun) (sink : SinkRun)
    (fault : KitFault) (r : Result (Unit {0}) KitFault) (all given : List ℕ)
    → IsErrAnd r (λ kit. kit ≡ fault) → IfSome source.input (λ xs. all ≡ xs) → given ≡ all → IsFirstFault given fault → IsOfInput fault
    → Keeps sink.contents sink.contents_after → source.counts_after.reads ≤ source.counts.reads + most_reads
    → RunsCommand IsText IsFirstFault source sink r
refused IsText IsFirstFault source sink fault (Ok done) all given e told same first own kept asked = absurd e
refused IsText IsFirstFault source sink fault (Err kit) all given e told same first own kept asked =
    let of_kit : IsOfInput kit = subst IsOfInput (sym e) own in
    record {
      done = tt;
      prefix = inl kept;
      nothing = λ _ _. kept;
      first = λ _ _ _. of_told source.input all given (λ bytes. IsFirstFault bytes kit) told same (subst (IsFirstFault given) (sym e) first);
      read = λ w. absurd (subst IsOfInput (one_fault (Err kit) kit Read refl w) of_kit);
      write = λ w. absurd (subst IsOfInput (one_fault (Err kit) kit Write refl w) of_kit);
      asked = asked;
    }

-- The answer was written, or a part of it.
pub answered : (IsText : List ℕ → List ℕ → Type 0) (IsFirstFault : List ℕ → KitFault → Type 0) (source : SourceRun) (sink : SinkRun)
    (r : Result (Unit {0}) KitFault) (all given text : List ℕ)
    → IfSome source.input (λ xs. all ≡ xs) → given ≡ all → IsText given text
    → OnOk r (Appends sink.contents sink.contents_after text) → AppendsPrefix sink.contents sink.contents_after text
    → IfErr r (IsSinkFault sink.failures sink.failures_after) → source.counts_after.reads ≤ source.counts.reads + most_reads
    → RunsCommand IsText IsFirstFault source sink r
answered IsText IsFirstFault source sink (Ok done) all given text told same due whole prefix broken asked = record {
  done = due_of source.input IsText all given text (λ text. Appends sink.contents sink.contents_after text) told same due whole;
  prefix = tt;
  nothing = tt;
  first = tt;
  read = λ w. absurd cc;
  write = λ w. absurd cc;
  asked = asked;
}
answered IsText IsFirstFault source sink (Err Write) all given text told same due whole prefix broken asked = record {
  done = tt;
  prefix = inr (due_of source.input IsText all given text (λ text. AppendsPrefix sink.contents sink.contents_after text) told same due prefix);
  nothing = λ other _. absurd (other refl);
  first = λ _ other _. absurd (other refl);
  read = λ w. absurd cc;
  write = λ _. broken;
  asked = asked;
}
answered IsText IsFirstFault source sink (Err Memory) all given text told same due whole prefix broken asked = record {
  done = tt;
  prefix = inr (due_of source.input IsText all given text (λ text. AppendsPrefix sink.contents sink.contents_after text) told same due prefix);
  nothing = λ _ other. absurd (other refl);
  first = λ _ _ other. absurd (other refl);
  read = λ w. absurd cc;
  write = λ w. absurd cc;
  asked = asked;
}
answered IsText IsFirstFault source sink (Err other) all given text told same due whole prefix broken asked = absurd broken
