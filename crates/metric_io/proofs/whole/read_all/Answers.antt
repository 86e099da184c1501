-- A turn loses at the source what it adds to the bytes so far, and is counted. What a wrong turn breaks is named, so
-- that its refusal costs no search for an offer.
use Rattle.std.proofs.Common.{◌≡◌, ◌∙◌, ap, arith, rules, take, Err}
use Rattle.std.proofs.lemmas.Grind.{common_steps}
use Rattle.std.proofs.KnownBytes.{Consumes-kept, Consumes-trans}
use Rattle.metric_io.specs.Counts.{counts_after}
use Rattle.metric_io.specs.declared.counts.ReadCounts.{ReadCounts}
use Rattle.metric_io.specs.declared.devices.SourceFault.{SourceFault}
use Rattle.metric_io.proofs.whole.read_all.Goals as goal

pub loop-turn-preserved : goal.loop-turn-preserved
loop-turn-preserved g c =
    let before = c.loop-turn.invariant in
    let read = c.in-Ok.ensures in
    let reads = ap (λ (counts : ReadCounts). counts.reads) read.counts in
    let extended = c.in_ok-extend_from_slice.ensures in
    let given : take c.in-Ok.given c.deref.result.now ≡ take c.in-Ok.given c.read.new.buf = grind (arith, common_steps) in
    record {
      taken = rw (extended.items, given) (Consumes-trans _ _ _ _ _ before.taken read.bytes.0);
      small = search rules;
      room = search rules;
      failures = ap (λ (counts : ReadCounts). counts.failures) read.counts ∙ before.failures;
      reads = omega (arith, reads, before.reads);
      asked = omega (arith, reads, before.asked);
      gave = search rules;
    }

pub loop-turn-preserved-in-Err-Interrupted : goal.loop-turn-preserved-in-Err-Interrupted
loop-turn-preserved-in-Err-Interrupted g c =
    let before = c.loop-turn.invariant in
    let read = c.in-Err-Interrupted.ensures in
    let after = λ (fault : SourceFault). counts_after (g.R.Source.counts c.loop-turn.source) (Err fault) in
    let counts = read.counts ∙ ap after c.in-Err-Interrupted.field-0-is in
    let reads = ap (λ (counts : ReadCounts). counts.reads) counts in
    let interruptions = ap (λ (counts : ReadCounts). counts.interruptions) counts in
    record {
      taken = Consumes-kept _ _ _ _ before.taken read.bytes;
      small = before.small;
      room = search rules;
      failures = ap (λ (counts : ReadCounts). counts.failures) counts ∙ before.failures;
      reads = omega (arith, reads, before.reads);
      asked = omega (arith, reads, before.asked);
      gave = omega (arith, interruptions, before.gave);
    }

pub returns-then-len-given-clause-read : goal.returns-then-len-given-clause-read
returns-then-len-given-clause-read g c = grind (arith, common_steps)

pub returns-clause-read : goal.returns-clause-read
returns-clause-read g c = grind (arith, common_steps)
