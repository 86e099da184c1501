-- told key by key
use Rattle.std.proofs.Common.{Bool, List, Some, None, map, sym, ap, ◌∙◌}
use Rattle.std.specs.Prelude.{if◌then◌else◌}
use Rattle.metric_contents.specs.ByKeys.{values_by_keys}
use Rattle.metric_contents.specs.Encoding.{Given, set_key}
use Rattle.metric_contents.proofs.encode.set_key.Goals as goal

pub returns : goal.returns
returns g c =
    let attrs : List Given = map g.A.Attribute.given c.args.attrs.now in
    let keys = c.args.keys.now in
    c.entries_of.ensures ∙ ap (λ (b : Bool). if b then Some (set_key keys attrs) else None) (sym (values_by_keys keys attrs c.requires.distinct))
