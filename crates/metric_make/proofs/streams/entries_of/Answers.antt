-- one stream more
use Rattle.std.proofs.Common.{◌≡◌, ◌<◌, [], length, drop, Some, None, refl, sym, subst, ◌∙◌, arith}
use Rattle.std.specs.List.{enumerate_from}
use Rattle.std.proofs.lemmas.List.{drop_all}
use Rattle.std.proofs.lemmas.List.Elements.{All-get_or}
use Rattle.std.proofs.lemmas.List.FromFn.{length-enumerate_from, length-range_with_len}
use Rattle.metric_resolve.specs.Applying.{all_instruments}
use Rattle.metric_bounds.specs.First.{Each}
use Rattle.metric_make.specs.declared.fault.MakeFault.TheVariants.{Memory}
use Rattle.metric_make.specs.Finding.{LimitsFind, StreamFinds}
use Rattle.metric_make.specs.Making.{IsNamed, entry_of}
use Rattle.metric_cert.specs.Valid.{IsBoundAt}
use Rattle.metric_make.proofs.Finds.{numbered_failed, numbered_passed, reports_on}
use Rattle.metric_make.proofs.Numbered.{bound_total}
use Rattle.metric_make.proofs.Pairs.{AllZip-length, mapped_more}
use Rattle.metric_make.proofs.streams.entries_of.Goals as goal

pub bounds-bounds-stream : goal.bounds-bounds-stream
bounds-bounds-stream c =
    let contents = c.args.catalogue.now in
    let streams = c.args.streams.now in
    let s = c.index-streams-number.result in
    let within : c.loop-number.number < length streams = omega arith in
    let own = subst (IsNamed contents) (sym c.index-streams-number.is) (All-get_or (IsNamed contents) streams c.loop-number.number s within c.requires.named) in
    let long = AllZip-length (IsBoundAt contents streams) (all_instruments contents) c.args.bounds.now c.requires.bounds in
    omega (arith, own.known, length-range_with_len 0 (length contents.instruments))

pub entry_of-requires-clause-flags : goal.entry_of-requires-clause-flags
entry_of-requires-clause-flags c =
    let contents = c.args.catalogue.now in
    let streams = c.args.streams.now in
    let s = c.index-streams-number.result in
    let within : c.loop-number.number < length streams = omega arith in
    let own = subst (IsNamed contents) (sym c.index-streams-number.is) (All-get_or (IsNamed contents) streams c.loop-number.number s within c.requires.named) in
    own.flags

pub entry_of-requires-clause-total : goal.entry_of-requires-clause-total
entry_of-requires-clause-total c =
    let contents = c.args.catalogue.now in
    let streams = c.args.streams.now in
    let s = c.index-streams-number.result in
    let within : c.loop-number.number < length streams = omega arith in
    let own = subst (IsNamed contents) (sym c.index-streams-number.is) (All-get_or (IsNamed contents) streams c.loop-number.number s within c.requires.named) in
    bound_total contents streams c.args.bounds.now c.requires.bounds s.instrument own.known _

pub returns-in_err-entry-clause-found : goal.returns-in_err-entry-clause-found
returns-in_err-entry-clause-found c =
    let contents = c.args.catalogue.now in
    let streams = c.args.streams.now in
    let n = c.loop-number.number in
    let within : n < length streams = omega arith in
    let e = c.in_err-entry.field-0.0 in
    reports_on Memory (LimitsFind contents streams) c.from_residual.result e c.from_residual.ensures.1
    (λ other. c.loop-number.invariant.found (Some e)
    (numbered_failed (StreamFinds contents) n streams c.index-streams-number.result within c.index-streams-number.is e (c.in_err-entry.ensures.found other)))

pub loop-number-preserved : goal.loop-number-preserved
loop-number-preserved c =
    let contents = c.args.catalogue.now in
    let streams = c.args.streams.now in
    let n = c.loop-number.number in
    let s = c.index-streams-number.result in
    let within : n < length streams = omega arith in
    record {
      entries = c.in_ok-push.ensures.ok ∙ mapped_more (entry_of contents) streams n s c.loop-number.entries c.in_ok-entry.entry within c.index-streams-number.is c.loop-number.invariant.entries c.in_ok-entry.ensures.entry;
      found = λ r rest. c.loop-number.invariant.found r
          (numbered_passed (StreamFinds contents) n streams s within c.index-streams-number.is c.in_ok-entry.ensures.found r rest);
    }

pub returns-clause-found : goal.returns-clause-found
returns-clause-found c =
    let contents = c.args.catalogue.now in
    let streams = c.args.streams.now in
    let n = c.loop-number.number in
    let long = length-enumerate_from 0 streams in
    let gone : drop n (enumerate_from 0 streams) ≡ [] = drop_all n (enumerate_from 0 streams) (omega arith) in
    c.loop-number.invariant.found None (subst (λ xs. Each (StreamFinds contents) xs None) (sym gone) refl)
