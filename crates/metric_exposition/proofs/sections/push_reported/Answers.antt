-- a number that names no stream
use Rattle.std.proofs.Common.{◌≡◌, ◌==◌, false, None, length, sym, ◌∙◌, arith}
use Rattle.std.specs.Prelude.{slice_get}
use Rattle.std.proofs.lemmas.List.{append-nil}
use Rattle.std.proofs.lemmas.Option.{slice_get_past}
use Rattle.metric_exposition.proofs.sections.push_reported.Goals as goal

pub returns-in-None : goal.returns-in-None
returns-in-None c =
    let streams = c.args.streams.now in
    let reported = c.args.points.now in
    let some : (length reported.points == 0) ≡ false = sym c.is_empty.ensures ∙ c.if-is_empty.false in
    let none : slice_get streams reported.stream ≡ None = slice_get_past streams reported.stream (omega (arith, c.in-None.ensures.lookup.3)) in
    rw (some, none) (sym (append-nil c.args.sections.now.items))
