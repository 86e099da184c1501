-- a run of plain bytes, and then an escape with the next run
use Rattle.metric_text.proofs.Escapes.{escaped_start, escaped_more, shorter}
use Rattle.metric_text.proofs.quotes.push_escaped.Goals as goal

pub loop-byte-init : goal.loop-byte-init
loop-byte-init c =
    escaped_start c.args.out.now.items c.extend_from_slice.new.self.items c.split_plain.result.0.now c.split_plain.result.1.now c.args.text.now
    c.in_ok-extend_from_slice.ensures.items c.split_plain.ensures.plain c.split_plain.ensures.rest

pub loop-byte-smaller : goal.loop-byte-smaller
loop-byte-smaller c =
    shorter c.in-Some.byte.now c.loop-byte.rest.now c.in-Some.others.now c.split_plain-in-Some.result.1.now c.in-Some.ensures.cases.0 c.split_plain-in-Some.ensures.rest

pub loop-byte-preserved : goal.loop-byte-preserved
loop-byte-preserved c =
    escaped_more c.args.out.now.items c.loop-byte.out.items c.push_escape.new.out.items c.extend_from_slice-in-Some.new.self.items
    c.in-Some.byte.now c.loop-byte.rest.now c.in-Some.others.now c.split_plain-in-Some.result.0.now c.split_plain-in-Some.result.1.now c.args.text.now
    c.in-Some.ensures.cases.0 c.in_ok-push_escape.ensures c.in_ok-extend_from_slice-2.ensures.items
    c.split_plain-in-Some.ensures.plain c.split_plain-in-Some.ensures.rest c.loop-byte.invariant
