-- the stream among those of its instrument
use Rattle.std.proofs.Common.{◌++◌, ◌∷◌, [], List, get_or, slice_set, ap, ◌∙◌, arith}
use Rattle.metric_views.specs.declared.stream.Stream.{Stream}
use Rattle.metric_facts.specs.declared.facts.FactsFields.{FactsFields as Facts}
use Rattle.metric_facts.specs.declared.facts.NumberedStream.{NumberedStream}
use Rattle.metric_facts.proofs.FactsLaws.{with_stream-at, with_stream-none}
use Rattle.metric_facts.proofs.instruments.add_stream.Goals as goal

pub returns-then-at-all : goal.returns-then-at-all
returns-then-at-all c = with_stream-none 0 c.args.number c.args.by_product c.args.stream.now c.args.all.now (omega (arith, c.if-at-all.true))

pub returns : goal.returns
returns c =
    let all = c.args.all.now in
    let s = c.args.stream.now in
    let own : Facts = get_or all s.instrument c.index-all-at.result in
    ap (λ (streams : List NumberedStream). slice_set all s.instrument (record own { streams = streams }))
    (c.in_ok-push.ensures.ok ∙ ap (λ (t : Stream). own.streams ++ record { number = c.args.number; by_product = c.args.by_product; stream = t } ∷ []) c.in_ok-stream.ensures)
    ∙ with_stream-at 0 c.args.number c.args.by_product s all s.instrument own own (omega arith) (omega (arith, c.if-at-all.false)) (ap (get_or all s.instrument) c.index-all-at.is)
