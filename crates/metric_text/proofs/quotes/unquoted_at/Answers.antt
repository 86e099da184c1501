-- a run of plain bytes, and then an escape with the next run
use Rattle.std.proofs.Common.{◌∙◌}
use Rattle.metric_text.proofs.Escapes.{Tells-ok_or, unquoted_start, unquoted_more, unquoted_last, shorter_after, begins}
use Rattle.metric_text.proofs.quotes.unquoted_at.Goals as goal

pub loop-byte-init : goal.loop-byte-init
loop-byte-init c = record {
  read = unquoted_start c.in_ok-text.text.items c.split_plain.result.0.now c.split_plain.result.1.now c.args.bytes.now
      c.in_ok-text.ensures.items c.split_plain.ensures.plain c.split_plain.ensures.rest;
  begins = begins c.args.bytes.now c.split_plain.result.1.now c.split_plain.ensures.rest;
}

pub loop-byte-smaller : goal.loop-byte-smaller
loop-byte-smaller c =
    shorter_after c.in-Some.byte c.loop-byte.rest.now c.in-Some.others.now c.split_plain-in-Some.result.1.now c.in-Some.ensures c.split_plain-in-Some.ensures.rest

pub loop-byte-preserved : goal.loop-byte-preserved
loop-byte-preserved c = record {
  read = unquoted_more c.loop-byte.text.items c.push_byte.new.out.items c.extend_from_slice.new.self.items
      c.in-Some.byte c.loop-byte.rest.now c.in-Some.others.now c.split_plain-in-Some.result.0.now c.split_plain-in-Some.result.1.now c.args.bytes.now
      c.in-Some.ensures c.in_ok-push_byte.ensures c.in_ok-extend_from_slice.ensures.items
      c.split_plain-in-Some.ensures.plain c.split_plain-in-Some.ensures.rest c.loop-byte.invariant.read;
  begins = begins c.in-Some.others.now c.split_plain-in-Some.result.1.now c.split_plain-in-Some.ensures.rest;
}

pub returns : goal.returns
returns c =
    Tells-ok_or _ c.closed_at.result c.ok_or.result _ c.ok_or.ensures.value
    (c.closed_at.ensures ∙ unquoted_last c.loop-byte.text.items c.loop-byte.rest.now c.args.bytes.now c.loop-byte.invariant.begins c.in_default.ensures c.loop-byte.invariant.read)
