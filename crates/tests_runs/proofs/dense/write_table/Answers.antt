-- a stream by product has room for each series that it can have
use Rattle.std.proofs.Common.{◌<◌, All, IsTrue, List, length, sym, ap, subst, ◌∙◌, arith, rules}
use Rattle.std.proofs.lemmas.List.Elements.{All-get_or}
use Rattle.metric_facts.specs.Products.{IsDense}
use Rattle.metric_facts.specs.declared.facts.Facts.{Facts}
use Rattle.metric_facts.specs.declared.facts.KeyFacts.{KeyFacts}
use Rattle.metric_facts.specs.declared.facts.NumberedStream.{NumberedStream}
use Rattle.tests_runs.proofs.dense.write_table.Goals as goal

pub dense_table-requires : goal.dense_table-requires
dense_table-requires g c =
    let streams = c.as_slice-streams.result.now in
    let keys = c.as_slice-keys.result.now in
    let dense : All (λ (s : NumberedStream). IsTrue s.by_product → IsDense keys s.stream) streams =
    subst (λ (ss : List NumberedStream). All (λ (s : NumberedStream). IsTrue s.by_product → IsDense keys s.stream) ss) (sym (c.as_slice-streams.ensures ∙ ap (λ (f : Facts). f.streams) c.deref-2.ensures))
    (subst (λ (ks : List KeyFacts). All (λ (s : NumberedStream). IsTrue s.by_product → IsDense ks s.stream) c.args.facts.now.streams) (sym (c.as_slice-keys.ensures ∙ ap (λ (f : Facts). f.keys) c.deref.ensures)) c.requires) in
    let some : 0 < length c.as_slice-streams.result.now = omega arith in
    let flagged : IsTrue c.numbered-item.result.by_product = search rules in
    subst (λ (s : NumberedStream). IsTrue s.by_product → IsDense keys s.stream) (sym c.numbered-item.is)
    (All-get_or (λ (s : NumberedStream). IsTrue s.by_product → IsDense keys s.stream) streams 0 c.numbered-item.result some dense)
    flagged
