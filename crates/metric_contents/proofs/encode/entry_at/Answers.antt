-- the entry of the value that is given
use Rattle.std.proofs.Common.{◌≡◌, ℕ, List, Some, find, ap, subst, sym, ◌∙◌}
use Rattle.metric_names.specs.declared.value.AttrValue.{AttrValue}
use Rattle.metric_contents.specs.Encoding.{entry_with, is_of}
use Rattle.metric_contents.proofs.Mapped.{entry-found}
use Rattle.metric_contents.proofs.encode.entry_at.Goals as goal

pub returns-in-Some : goal.returns-in-Some
returns-in-Some g c =
    let key = c.args.key.now in
    let found = subst (λ (name : List ℕ). find (λ a. is_of name (g.A.Attribute.given a)) c.args.attrs.now ≡ Some c.in-Some.attr.now) c.as_str.ensures (sym c.in-Some.ensures) in
    let is = entry-found g.A.Attribute.given c.args.attrs.now key c.in-Some.attr.now found in
    c.entry_with.ensures ∙ ap (λ (value : AttrValue). entry_with key value) c.value.ensures ∙ sym is
