-- a name that is new
use Rattle.std.proofs.Common.{Some, string_bytes, sym, ◌∙◌}
use Rattle.std.specs.BTreeMap.{get_by_text}
use Rattle.std.proofs.lemmas.Map.Text.{btree_map_updates_text}
use Rattle.metric_contents.proofs.Claims.{new_claim}
use Rattle.metric_diff.proofs.places.add_place.Goals as goal

pub returns : goal.returns
returns c =
    let places = c.args.places.now in
    let next = c.insert.new.self in
    let name = string_bytes c.args.name in
    let absent = rw c.as_str.ensures.value at (sym c.contains_key.ensures ∙ c.if-contains_key.false) in
    λ other. new_claim (get_by_text places) (get_by_text next) name other c.args.place absent
    (btree_map_updates_text name places next (Some c.args.place) c.in_ok-insert.ensures.updates other)
