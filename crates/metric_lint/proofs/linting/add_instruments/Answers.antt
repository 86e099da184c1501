-- one instrument more
use Rattle.std.proofs.Common.{◌≡◌, ◌<◌, ℕ, ◌++◌, List, Option, Some, length, slice_get, sym, ap, ◌∙◌, arith}
use Rattle.std.proofs.lemmas.Option.{slice_get-get_or}
use Rattle.std.specs.List.{flat_map, range_with_len}
use Rattle.metric_contents.specs.declared.contents.Instrument.{Instrument}
use Rattle.metric_contents.specs.declared.contents.Recorder.{Recorder}
use Rattle.metric_lint.specs.declared.headroom.Headroom.{Headroom}
use Rattle.metric_lint.specs.Remarks.{instrument_remarks, room_remarks, own_remarks}
use Rattle.metric_resolve.proofs.Numbers.{flat_map_turn}
use Rattle.metric_lint.proofs.Lists.{element_at}
use Rattle.metric_lint.proofs.Told.{two}
use Rattle.metric_lint.proofs.linting.add_instruments.Goals as goal

pub loop-number-preserved : goal.loop-number-preserved
unfolding instrument_remarks
loop-number-preserved c =
    let contents = c.args.catalogue.now in
    let rooms = c.args.rooms.now in
    let n = c.loop-number.number in
    let before = c.loop-number.remarks in
    let own = c.index-instruments-number.result in
    let same = ap length c.instruments-instruments.ensures.instruments in
    let within : n < length rooms = omega arith in
    let own_at : slice_get contents.instruments n ≡ Some own = element_at contents.instruments c.instruments-instruments.result.now n own c.instruments-instruments.ensures.instruments (omega arith) c.index-instruments-number.is in
    flat_map_turn (instrument_remarks contents rooms) n c.args.remarks.now before c.add_room.new.remarks c.loop-number.invariant
    (two before (own_remarks contents.recorders (slice_get contents.instruments n) n) (room_remarks (slice_get rooms n) n) c.add_own.new.remarks c.add_room.new.remarks
    (c.in_ok-add_own.ensures
    ∙ ap (λ (rs : List Recorder). before ++ own_remarks rs (Some own) n) c.recorders-recorders.ensures.recorders
    ∙ ap (λ (o : Option Instrument). before ++ own_remarks contents.recorders o n) (sym own_at))
    (c.in_ok-add_room.ensures
    ∙ ap (λ (o : Option Headroom). c.add_own.new.remarks ++ room_remarks o n) (sym (slice_get-get_or rooms n _ within))))

pub returns : goal.returns
returns c =
    let contents = c.args.catalogue.now in
    let all : c.loop-number.number ≡ length contents.instruments = omega (arith, ap length c.instruments-instruments.ensures.instruments) in
    c.loop-number.invariant
    ∙ ap (λ (n : ℕ). c.args.remarks.now ++ flat_map (instrument_remarks contents c.args.rooms.now) (range_with_len 0 n)) all
