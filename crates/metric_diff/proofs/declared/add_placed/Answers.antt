-- what is declared otherwise of two instruments, where both are there
use Rattle.std.proofs.Common.{◌≡◌, ◌++◌, List, [], Option, Some, None, ℕ, refl, sym, subst}
use Rattle.std.specs.Prelude.{OnOk, slice_get}
use Rattle.metric_contents.specs.declared.contents.Contents.{Contents}
use Rattle.metric_contents.specs.declared.contents.Instrument.{Instrument}
use Rattle.metric_diff.specs.declared.change.Change.{Change}
use Rattle.metric_diff.specs.Instruments.{declared_with}
use Rattle.metric_diff.proofs.Got.{got, nothing_first, nothing_second}
use Rattle.metric_diff.proofs.declared.add_placed.Goals as goal

none_second : (contents others : Contents) (n m : ℕ) (o : Option Instrument) → declared_with contents others n m o None ≡ []
none_second contents others n m None = refl
none_second contents others n m (Some one) = refl

pub returns-in-None : goal.returns-in-None
returns-in-None c =
    nothing_first (declared_with c.args.catalogues.0.now c.args.catalogues.1.now c.args.number c.args.other) c.args.changes.now c.args.old.now c.args.number
    (slice_get c.args.new.now c.args.other) c.in-None.ensures.lookup.3 refl

pub returns-in-None-get : goal.returns-in-None-get
returns-in-None-get c =
    let old = slice_get c.args.old.now c.args.number in
    nothing_second (declared_with c.args.catalogues.0.now c.args.catalogues.1.now c.args.number c.args.other) c.args.changes.now c.args.new.now c.args.other
    old c.in-None-get.ensures.lookup.3 (none_second c.args.catalogues.0.now c.args.catalogues.1.now c.args.number c.args.other old)

pub returns-in-Some-get : goal.returns-in-Some-get
returns-in-Some-get c =
    let old = c.args.old.now in
    let new = c.args.new.now in
    let n = c.args.number in
    let m = c.args.other in
    let told : Option Instrument → Option Instrument → List Change = declared_with c.args.catalogues.0.now c.args.catalogues.1.now n m in
    let one = got old n c.in-Some.one.now c.in-Some.ensures.lookup.3.0 c.in-Some.ensures.lookup.1 in
    let another = got new m c.in-Some-get.another.now c.in-Some-get.ensures.lookup.3.0 c.in-Some-get.ensures.lookup.1 in
    subst (λ (o : Option Instrument). OnOk c.add_of_instruments.result (c.add_of_instruments.new.changes ≡ c.args.changes.now ++ told o (slice_get new m))) (sym one)
    (subst (λ (o : Option Instrument). OnOk c.add_of_instruments.result (c.add_of_instruments.new.changes ≡ c.args.changes.now ++ told (Some c.in-Some.one.now) o)) (sym another) c.add_of_instruments.ensures)
