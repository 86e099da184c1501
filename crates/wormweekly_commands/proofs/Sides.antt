-- What is compared, and with which fault it is refused.
use Rattle.std.proofs.Common.{◌≡◌, ◌∙◌, ap, subst, sym, Option, Some}
use Rattle.std.specs.Prelude.{IsSomeAnd}
use Rattle.metric_parts.specs.declared.parts.Parts.{Parts}
use Rattle.metric_diff.specs.Changes.{Plan, changes_of}
use Rattle.metric_kit_commands.specs.Declarations.{IsDeclaredFault}
use Rattle.wormweekly_commands.specs.Comparing.{RefusesDiff, RefusesPair}
use Rattle.wormweekly_commands.specs.declared.fault.ConsoleFault.{ConsoleFault}
use Rattle.wormweekly_commands.specs.declared.fault.ConsoleFault.TheVariants as faults
use Rattle.wormweekly_commands.specs.declared.parts.Texts.{Texts}

pub same_changes : (old new old_plan new_plan : Plan) → old ≡ old_plan → new ≡ new_plan → changes_of old new ≡ changes_of old_plan new_plan
same_changes old new old_plan new_plan same others = ap (λ (p : Plan). changes_of p new) same ∙ ap (λ (p : Plan). changes_of old_plan p) others

pub pair_refused : (texts : Texts) (old : Parts) (fault : ConsoleFault) → texts.old ≡ Some old → RefusesPair old texts.parts fault → RefusesDiff texts fault
pair_refused texts old (faults.Unread role cause) is refused = absurd refused
pair_refused texts old (faults.Overwrites role) is refused = refused
pair_refused texts old (faults.Unwritten cause) is refused = refused
pair_refused texts old (faults.Page fault) is refused = refused
pair_refused texts old (faults.Old fault) is refused = subst (λ (o : Option Parts). IsSomeAnd o (λ parts. IsDeclaredFault fault parts)) (sym is) refused
pair_refused texts old (faults.Kit fault) is refused = refused
