-- by either way it is the place in the list
use Rattle.std.proofs.Common.{◌≡◌, Some, sym}
use Rattle.metric_names.specs.Values.{value_of}
use Rattle.metric_names.specs.declared.value.AttrValue.TheVariants.{Text}
use Rattle.metric_contents.specs.Places.{place}
use Rattle.metric_contents.proofs.Numbered.{place_led, place_within}
use Rattle.metric_contents.proofs.values.Values.number_of.Goals as goal

pub returns-in-Some-clause-exact : goal.returns-in-Some-clause-exact
returns-in-Some-clause-exact c =
    let leads = rw (c.get-listed.ensures) at c.in-Some.ensures in
    let led = place_led c.self.inside.shared.list c.self.inside.shared.shortcuts.slots.items c.in-Text.text.now c.in-Some.number c.self.invariant.1 leads in
    rw (← c.self.view_is, c.in-Text.is) (sym led)

pub returns-in-Some-clause-within : goal.returns-in-Some-clause-within
returns-in-Some-clause-within c =
    let leads = rw (c.get-listed.ensures) at c.in-Some.ensures in
    let led = place_led c.self.inside.shared.list c.self.inside.shared.shortcuts.slots.items c.in-Text.text.now c.in-Some.number c.self.invariant.1 leads in
    rw (← c.self.view_is) (place_within c.self.inside.shared.list (Text c.in-Text.text.now) (Some c.in-Some.number) (sym led))

pub returns-clause-within : goal.returns-clause-within
returns-clause-within c =
    let numbers = c.self.invariant.0.numbers (value_of c.args.value) in
    let found : c.number_of-2.result ≡ place c.args.self.now (value_of c.args.value) = cc in
    place_within c.args.self.now (value_of c.args.value) c.number_of-2.result found
