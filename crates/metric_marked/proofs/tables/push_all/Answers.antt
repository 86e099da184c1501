-- what was made ready is taken back, or put in
use Rattle.std.proofs.Common.{◌≡◌, Err, List, sym, ap, subst}
use Rattle.metric_series.specs.Calls.{is_in_range}
use Rattle.metric_series.specs.declared.fault.SeriesFault.{SeriesFault}
use Rattle.metric_series.specs.declared.place.Place.{Place}
use Rattle.metric_marked.specs.Marks.{JudgesAll, TakeAll}
use Rattle.metric_marked.specs.Stepwise.{AreReady, EachAt, Puts, Restores}
use Rattle.metric_marked.specs.declared.stream_table.StreamTable.{StreamTable}
use Rattle.metric_marked.proofs.StepLaws.{judges-refused, kept, readied, restored, taken}
use Rattle.metric_marked.proofs.TableLaws.{keeps-same}
use Rattle.metric_marked.proofs.tables.push_all.Goals as goal

pub returns-in-Err-clause-err : goal.returns-in-Err-clause-err
returns-in-Err-clause-err c =
    restored c.args.entry.now c.args.tables.now c.ready_all.new.tables c.unready_all.new.tables c.ready_all.new.places.items c.in-Err.ensures.ready
    (subst (λ (ps : List Place). EachAt Restores c.ready_all.new.tables c.unready_all.new.tables ps) c.deref.ensures.value c.unready_all.ensures)

pub returns-in-Err-clause-in_range : goal.returns-in-Err-clause-in_range
returns-in-Err-clause-in_range c =
    let back : c.unready_all.new.tables ≡ c.args.tables.now =
    restored c.args.entry.now c.args.tables.now c.ready_all.new.tables c.unready_all.new.tables c.ready_all.new.places.items c.in-Err.ensures.ready
    (subst (λ (ps : List Place). EachAt Restores c.ready_all.new.tables c.unready_all.new.tables ps) c.deref.ensures.value c.unready_all.ensures) in
    subst (λ (fault : SeriesFault). JudgesAll c.args.tables.now c.args.entry.now (is_in_range {X = Unit {0}} (Err fault))) (sym c.weightier.ensures)
    (judges-refused c.in-Err.fault c.args.tables.now c.args.entry.now c.all_fit.result
    (λ is. c.in-Err.ensures.out_of_range (ap (λ fault. Err fault) is))
    (subst (λ (ts : List StreamTable). JudgesAll ts c.args.entry.now c.all_fit.result) back c.all_fit.ensures))

pub all_fit-requires : goal.all_fit-requires
all_fit-requires c =
    let back : c.unready_all.new.tables ≡ c.args.tables.now =
    restored c.args.entry.now c.args.tables.now c.ready_all.new.tables c.unready_all.new.tables c.ready_all.new.places.items c.in-Err.ensures.ready
    (subst (λ (ps : List Place). EachAt Restores c.ready_all.new.tables c.unready_all.new.tables ps) c.deref.ensures.value c.unready_all.ensures) in
    subst (λ (ts : List StreamTable). TakeAll ts c.args.entry.now.set) (sym back) c.requires.takes

pub returns-in-Err-clause-places : goal.returns-in-Err-clause-places
returns-in-Err-clause-places c =
    keeps-same c.args.tables.now c.unready_all.new.tables
    (restored c.args.entry.now c.args.tables.now c.ready_all.new.tables c.unready_all.new.tables c.ready_all.new.places.items c.in-Err.ensures.ready
    (subst (λ (ps : List Place). EachAt Restores c.ready_all.new.tables c.unready_all.new.tables ps) c.deref.ensures.value c.unready_all.ensures))

pub put_all-requires-clause-ready : goal.put_all-requires-clause-ready
put_all-requires-clause-ready c =
    subst (λ (ps : List Place). AreReady c.args.entry.now c.ready_all.new.tables ps) (sym c.deref-2.ensures.value)
    (readied c.args.entry.now c.args.tables.now c.ready_all.new.tables c.ready_all.new.places.items c.in_default.ensures.ready c.in_default.ensures.all)

pub returns-clause-stands : goal.returns-clause-stands
returns-clause-stands c =
    taken c.args.entry.now c.args.tables.now c.ready_all.new.tables c.put_all.new.tables c.ready_all.new.places.items c.in_default.ensures.ready
    (subst (λ (ps : List Place). EachAt (Puts c.args.entry.now) c.ready_all.new.tables c.put_all.new.tables ps) c.deref-2.ensures.value c.put_all.ensures)
    c.in_default.ensures.all

pub returns-clause-places : goal.returns-clause-places
returns-clause-places c =
    kept c.args.entry.now c.args.tables.now c.ready_all.new.tables c.put_all.new.tables c.ready_all.new.places.items c.in_default.ensures.ready
    (subst (λ (ps : List Place). EachAt (Puts c.args.entry.now) c.ready_all.new.tables c.put_all.new.tables ps) c.deref-2.ensures.value c.put_all.ensures)
