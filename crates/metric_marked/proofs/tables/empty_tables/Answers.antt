-- one stream more has a table
use Rattle.std.proofs.Common.{◌≡◌, ◌+◌, List, [], ◌∷◌, ◌++◌, All, IsTrue, true, take, refl, sym, ap, subst, ◌∙◌}
use Rattle.std.proofs.lemmas.List.{take_all, take_more}
use Rattle.std.proofs.lemmas.List.Elements.{All-get_or}
use Rattle.metric_facts.specs.Facts.{is_full_set}
use Rattle.metric_facts.specs.Products.{IsDense}
use Rattle.metric_facts.specs.declared.facts.Facts.{Facts}
use Rattle.metric_facts.specs.declared.facts.KeyFacts.{KeyFacts}
use Rattle.metric_facts.specs.declared.facts.NumberedStream.{NumberedStream}
use Rattle.metric_marked.specs.Marks.{HaveRoom, StandAll, TakeAll}
use Rattle.metric_marked.specs.declared.stream_table.StreamTable.{StreamTable}
use Rattle.metric_marked.proofs.StepLaws.{length-stand}
use Rattle.metric_marked.proofs.TableLaws.{room-push, stands-push, takes-push}
use Rattle.metric_marked.proofs.tables.empty_tables.Goals as goal

pub empty_series-requires : goal.empty_series-requires
empty_series-requires c =
    let streams = c.as_slice-streams.result.now in
    let keys = c.as_slice-keys.result.now in
    let dense : All (λ (s : NumberedStream). IsTrue s.by_product → IsDense keys s.stream) streams =
    subst (λ (ss : List NumberedStream). All (λ (s : NumberedStream). IsTrue s.by_product → IsDense keys s.stream) ss) (sym (c.as_slice-streams.ensures ∙ ap (λ (f : Facts). f.streams) c.deref-2.ensures))
    (subst (λ (ks : List KeyFacts). All (λ (s : NumberedStream). IsTrue s.by_product → IsDense ks s.stream) c.args.facts.now.streams) (sym (c.as_slice-keys.ensures ∙ ap (λ (f : Facts). f.keys) c.deref.ensures)) c.requires) in
    subst (λ (s : NumberedStream). IsTrue s.by_product → IsDense keys s.stream) (sym c.numbered-item.is)
    (All-get_or (λ (s : NumberedStream). IsTrue s.by_product → IsDense keys s.stream) streams c.loop-numbered.numbered-index c.numbered-item.result c.loop-numbered-test.true dense)

pub loop-numbered-preserved : goal.loop-numbered-preserved
loop-numbered-preserved c =
    let i = c.loop-numbered.numbered-index in
    let s = c.numbered-item.result in
    let streams = c.as_slice-streams.result.now in
    let next : take (c.loop-numbered.numbered-index + 1) c.as_slice-streams.result.now ≡ take c.loop-numbered.numbered-index c.as_slice-streams.result.now ++ c.numbered-item.result ∷ [] =
    take_more streams i s c.loop-numbered-test.true ∙ ap (λ x. take i streams ++ x ∷ []) (sym c.numbered-item.is) in
    record {
      stand = subst (λ ss. StandAll c.push.new.self.items ss (λ _. [])) (sym next)
          (subst (λ tables. StandAll tables (take i streams ++ s ∷ []) (λ _. [])) (sym {A = List StreamTable} c.in_ok-push.ensures.items)
          (stands-push c.loop-numbered.tables.items (take i streams) (λ _. []) _ s c.loop-numbered.invariant.stand (record { number = refl; reader = refl; stands = c.in_ok-empty_series.ensures.stands })));
      takes = λ set full. subst (λ tables. TakeAll tables set) (sym {A = List StreamTable} c.in_ok-push.ensures.items)
          (takes-push c.loop-numbered.tables.items _ set (c.loop-numbered.invariant.takes set full) (c.in_ok-empty_series.ensures.takes set full));
      room = λ all. subst HaveRoom (sym {A = List StreamTable} c.in_ok-push.ensures.items)
          (room-push c.loop-numbered.tables.items _ (c.loop-numbered.invariant.room all)
          (c.in_ok-empty_series.ensures.room
          (subst (λ (n : NumberedStream). IsTrue n.by_product) (sym c.numbered-item.is) (All-get_or (λ (n : NumberedStream). IsTrue n.by_product) streams i s c.loop-numbered-test.true all))));
    }

pub returns-clause-stand : goal.returns-clause-stand
returns-clause-stand c =
    subst (λ (ss : List NumberedStream). StandAll c.loop-numbered.tables.items ss (λ _. [])) (c.as_slice-streams.ensures ∙ ap (λ (f : Facts). f.streams) c.deref-2.ensures)
    (subst (λ (ss : List NumberedStream). StandAll c.loop-numbered.tables.items ss (λ _. [])) (take_all c.loop-numbered.numbered-index c.as_slice-streams.result.now c.loop-numbered-test.false) c.loop-numbered.invariant.stand)

pub returns-clause-takes : goal.returns-clause-takes
returns-clause-takes c = λ set full.
    c.loop-numbered.invariant.takes set (subst (λ (ks : List KeyFacts). is_full_set ks set ≡ true) (sym (c.as_slice-keys.ensures ∙ ap (λ (f : Facts). f.keys) c.deref.ensures)) full)

pub returns-clause-room : goal.returns-clause-room
returns-clause-room c = λ all.
    c.loop-numbered.invariant.room
    (subst (λ (ss : List NumberedStream). All (λ (s : NumberedStream). IsTrue s.by_product) ss) (sym (c.as_slice-streams.ensures ∙ ap (λ (f : Facts). f.streams) c.deref-2.ensures)) all)

pub returns-clause-count : goal.returns-clause-count
returns-clause-count c =
    length-stand c.loop-numbered.tables.items c.args.facts.now.streams (λ _. [])
    (subst (λ (ss : List NumberedStream). StandAll c.loop-numbered.tables.items ss (λ _. [])) (c.as_slice-streams.ensures ∙ ap (λ (f : Facts). f.streams) c.deref-2.ensures)
    (subst (λ (ss : List NumberedStream). StandAll c.loop-numbered.tables.items ss (λ _. [])) (take_all c.loop-numbered.numbered-index c.as_slice-streams.result.now c.loop-numbered-test.false) c.loop-numbered.invariant.stand))
