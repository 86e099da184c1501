-- the resource of the attributes of the words, each with an `=`
use Rattle.std.proofs.Common.{◌∙◌, ap, sym, List, Result, Err}
use Rattle.metric_base.specs.Steps.{with_fault}
use Rattle.metric_contents.specs.declared.attributes.OwnedAttr.{OwnedAttr}
use Rattle.metric_resource.specs.Resources.{resource_of}
use Rattle.metric_resource.specs.declared.fault.ResourceFault.{ResourceFault}
use Rattle.metric_command_lines.specs.Attributes.{misuse_of}
use Rattle.metric_command_lines.proofs.Resources.{given, missing}
use Rattle.metric_command_lines.proofs.wormweekly.attributes.resource_of.Goals as goal

pub returns-then-not-all_have_equals-clause-refused : goal.returns-then-not-all_have_equals-clause-refused
returns-then-not-all_have_equals-clause-refused c =
    missing c.args.words.now c.all_have_equals.result c.all_have_equals.ensures c.if-not-all_have_equals.true

pub returns-in-Ok-clause-given : goal.returns-in-Ok-clause-given
returns-in-Ok-clause-given c =
    given c.args.words.now c.all_have_equals.result _ c.all_have_equals.ensures c.if-not-all_have_equals.false c.in_ok-attributes.ensures
    ∙ ap (λ (read : Result (List OwnedAttr) ResourceFault). with_fault misuse_of read) (ap resource_of (sym c.from_vec.ensures) ∙ sym c.from_items.ensures ∙ c.in-Ok.is)

pub returns-in-Err-clause-refused : goal.returns-in-Err-clause-refused
returns-in-Err-clause-refused c =
    given c.args.words.now c.all_have_equals.result _ c.all_have_equals.ensures c.if-not-all_have_equals.false c.in_ok-attributes.ensures
    ∙ ap (λ (read : Result (List OwnedAttr) ResourceFault). with_fault misuse_of read) (ap resource_of (sym c.from_vec.ensures) ∙ sym c.from_items.ensures ∙ c.in-Err.is)
    ∙ ap Err (sym c.misuse_of.ensures)
