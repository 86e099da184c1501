-- a family that is new
use Rattle.std.proofs.Common.{◌≡◌, List, ℕ, Some, ap, false, string_bytes, sym, ◌∙◌}
use Rattle.std.specs.Prelude.{is_some}
use Rattle.std.specs.BTreeMap.{get_by_text}
use Rattle.std.proofs.lemmas.Map.Text.{btree_map_updates_text}
use Rattle.metric_contents.proofs.Claims.{new_claim}
use Rattle.metric_exposition.proofs.gathered.first_of.Goals as goal

pub returns-clause-firsts : goal.returns-clause-firsts
returns-clause-firsts c =
    let firsts = c.args.firsts.now in
    let next = c.insert.new.self in
    let own = string_bytes c.in_ok-from_str.field-0 in
    let is : own ≡ c.args.family.now = c.in_ok-from_str.ensures.ok in
    let absent : is_some (get_by_text firsts own) ≡ false =
    ap (λ (name : List ℕ). is_some (get_by_text firsts name)) is ∙ ap is_some (sym c.get.ensures.value ∙ sym c.copied.ensures ∙ c.in_default.is) in
    λ name. rw is at (new_claim (get_by_text firsts) (get_by_text next) own name c.args.number absent
    (btree_map_updates_text own firsts next (Some c.args.number) c.in_ok-insert.ensures.updates name))
