-- one table more is ready
use Rattle.std.proofs.Common.{◌≡◌, ◌+◌, ◌∙◌, ℤ, true, false, List, length, get_or, Err, ap, refl, sym, subst, arith, rules, w64, SFits}
use Rattle.std.proofs.lemmas.Int.{to_z-of_z}
use Rattle.std.proofs.lemmas.List.{take_all, length-append}
use Rattle.metric_series.specs.Calls.{JudgesValue, is_in_range}
use Rattle.metric_marked.specs.StreamSeries.{stream_series}
use Rattle.metric_series.specs.declared.fault.SeriesFault.{SeriesFault}
use Rattle.metric_series.specs.declared.fault.SeriesFault.TheVariants.{Memory, SumRange}
use Rattle.metric_series.specs.declared.place.Place.{Place}
use Rattle.metric_marked.specs.Marks.{TableStands}
use Rattle.metric_marked.specs.Stepwise.{AreInRange, IsReadyFor}
use Rattle.metric_marked.specs.declared.stream_table.StreamTable.{StreamTable}
use Rattle.metric_marked.proofs.StepLaws.{each-after, each-pushed, in_range-stepped, judges-all, judges-one}
use Rattle.metric_marked.proofs.TableLaws.{room-at, takes-at}
use Rattle.metric_marked.proofs.tables.ready_all.Goals as goal

pub ready-requires : goal.ready-requires
ready-requires c =
    let i = c.loop-stream.stream-index in
    let d = c.stream-item.result in
    let same : get_or c.loop-stream.tables i d ≡ get_or c.args.tables.now i d =
    subst (λ n. get_or c.loop-stream.tables n d ≡ get_or c.args.tables.now n d) c.loop-stream.invariant.one_each
    (each-after (IsReadyFor c.args.entry.now) c.args.tables.now c.loop-stream.tables c.loop-stream.places.items d c.loop-stream.invariant.ready
    (omega (arith, c.loop-stream.invariant.one_each))) in
    subst (λ (t : StreamTable). stream_series.takes t.table c.args.entry.now.set) (sym same)
    (takes-at c.args.tables.now i d c.args.entry.now.set c.requires.takes c.loop-stream-test.true)

pub returns-in-Err-clause-out_of_range : goal.returns-in-Err-clause-out_of_range
returns-in-Err-clause-out_of_range c = λ is.
    let in64 : SFits w64 c.args.entry.now.value = search rules in
    let i = c.loop-stream.stream-index in
    let d = c.stream-item.result in
    let range : c.in-Err.fault ≡ SumRange = cc in
    let t = get_or c.loop-stream.tables i d in
    let own : JudgesValue (TableStands t) c.args.entry.now.set c.args.entry.now.value (is_in_range {X = Place} (Err c.in-Err.fault)) =
    subst (λ (v : ℤ). JudgesValue (TableStands t) c.args.entry.now.set v (is_in_range {X = Place} (Err c.in-Err.fault))) (to_z-of_z w64 c.args.entry.now.value in64) c.in-Err.ensures.in_range in
    let unfit : JudgesValue (TableStands t) c.args.entry.now.set c.args.entry.now.value false =
    subst (λ (f : SeriesFault). JudgesValue (TableStands t) c.args.entry.now.set c.args.entry.now.value (is_in_range {X = Place} (Err f))) range own in
    let same : t ≡ get_or c.args.tables.now i d =
    subst (λ n. get_or c.loop-stream.tables n d ≡ get_or c.args.tables.now n d) c.loop-stream.invariant.one_each
    (each-after (IsReadyFor c.args.entry.now) c.args.tables.now c.loop-stream.tables c.loop-stream.places.items d c.loop-stream.invariant.ready
    (omega (arith, c.loop-stream.invariant.one_each))) in
    judges-one c.args.entry.now c.args.tables.now i d c.loop-stream-test.true
    (subst (λ (x : StreamTable). JudgesValue (TableStands x) c.args.entry.now.set c.args.entry.now.value false) same unfit)

pub returns-in-Err-clause-memory : goal.returns-in-Err-clause-memory
returns-in-Err-clause-memory c = λ roomy is.
    let i = c.loop-stream.stream-index in
    let d = c.stream-item.result in
    let memory : c.in-Err.fault ≡ Memory = cc in
    let same : get_or c.loop-stream.tables i d ≡ get_or c.args.tables.now i d =
    subst (λ n. get_or c.loop-stream.tables n d ≡ get_or c.args.tables.now n d) c.loop-stream.invariant.one_each
    (each-after (IsReadyFor c.args.entry.now) c.args.tables.now c.loop-stream.tables c.loop-stream.places.items d c.loop-stream.invariant.ready
    (omega (arith, c.loop-stream.invariant.one_each))) in
    c.in-Err.ensures.room
    (subst (λ (t : StreamTable). stream_series.has_room t.table) (sym same) (room-at c.args.tables.now i d roomy c.loop-stream-test.true))
    (ap (λ (fault : SeriesFault). Err fault) memory)

pub loop-stream-preserved : goal.loop-stream-preserved
loop-stream-preserved c =
    let in64 : SFits w64 c.args.entry.now.value = search rules in
    let back = to_z-of_z w64 c.args.entry.now.value in64 in
    let i = c.loop-stream.stream-index in
    let d = c.stream-item.result in
    let t = get_or c.loop-stream.tables i d in
    let same : t ≡ get_or c.args.tables.now i d =
    subst (λ n. get_or c.loop-stream.tables n d ≡ get_or c.args.tables.now n d) c.loop-stream.invariant.one_each
    (each-after (IsReadyFor c.args.entry.now) c.args.tables.now c.loop-stream.tables c.loop-stream.places.items d c.loop-stream.invariant.ready
    (omega (arith, c.loop-stream.invariant.one_each))) in
    let ready : stream_series.is_ready t.table c.ready.new.self c.args.entry.now.set c.args.entry.now.value c.in-Ok.place =
    subst (λ (v : ℤ). stream_series.is_ready t.table c.ready.new.self c.args.entry.now.set v c.in-Ok.place) back c.in-Ok.ensures.ok in
    let own : JudgesValue (TableStands t) c.args.entry.now.set c.args.entry.now.value true =
    subst (λ (v : ℤ). JudgesValue (TableStands t) c.args.entry.now.set v true) back c.in-Ok.ensures.in_range in
    record {
      ready = each-pushed (IsReadyFor c.args.entry.now) c.args.tables.now c.loop-stream.tables c.loop-stream.places.items c.push_reserved.new.self.items i d _ c.in-Ok.place
          c.loop-stream.invariant.ready c.loop-stream.invariant.one_each c.loop-stream-test.true
          (record { same = record { number = refl; reader = refl; places = c.in-Ok.ensures.places }; ready = ready }) c.push_reserved.ensures.items;
      one_each = ap length c.push_reserved.ensures.items ∙ length-append c.loop-stream.places.items _ ∙ ap (λ n. n + 1) c.loop-stream.invariant.one_each;
      in_range = in_range-stepped c.args.entry.now c.args.tables.now i d c.loop-stream.invariant.in_range c.loop-stream-test.true
          (subst (λ (x : StreamTable). JudgesValue (TableStands x) c.args.entry.now.set c.args.entry.now.value true) same own);
      room = c.push_reserved.ensures.capacity ∙ c.loop-stream.invariant.room;
    }

pub returns-clause-in_range : goal.returns-clause-in_range
returns-clause-in_range c =
    judges-all c.args.entry.now c.args.tables.now
    (subst (λ (xs : List StreamTable). AreInRange c.args.entry.now xs) (take_all c.loop-stream.stream-index c.args.tables.now c.loop-stream-test.false) c.loop-stream.invariant.in_range)
