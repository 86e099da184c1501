-- one stream more
use Rattle.std.proofs.Common.{Bool, List, take, ap, sym, ◌∙◌}
use Rattle.std.proofs.lemmas.List.{with_items_is}
use Rattle.metric_views.specs.declared.stream.Stream.{Stream}
use Rattle.metric_facts.specs.declared.facts.FactsFields.{FactsFields as Facts}
use Rattle.metric_facts.specs.Facts.{facts_from, is_by_product, with_stream}
use Rattle.metric_facts.proofs.FactsLaws.{facts_more}
use Rattle.metric_facts.proofs.instruments.all_facts.Goals as goal

pub loop-number-preserved : goal.loop-number-preserved
loop-number-preserved c =
    let declared = c.args.catalogue.now in
    let streams = c.args.streams.now in
    let flags = c.args.by_product.now in
    let number = c.loop-number.number in
    let s = c.index-streams-number.result in
    let before : List Facts = facts_from c.args.plan c.args.certified flags declared.recorders c.args.readers.now (take number streams) 0 declared.instruments in
    with_items_is c.loop-number.all c.add_stream.new.all (c.add_stream.auto.all ∙ c.as_mut_slice.ensures.len)
    ∙ c.in_ok-add_stream.ensures
    ∙ ap (λ (own : Bool). with_stream 0 number own s c.as_mut_slice.result.now) c.is_by_product-own.ensures
    ∙ ap (with_stream 0 number (is_by_product flags number) s) (c.as_mut_slice.ensures.value ∙ c.loop-number.invariant)
    ∙ ap (λ (t : Stream). with_stream 0 number (is_by_product flags number) t before) c.index-streams-number.is
    ∙ sym (facts_more c.args.plan c.args.certified flags declared.recorders c.args.readers.now streams number s 0 declared.instruments c.loop-number-test.true)
