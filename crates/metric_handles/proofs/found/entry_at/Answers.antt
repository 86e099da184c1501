-- the entry of the value that is given
use Rattle.std.proofs.Common.{◌≡◌, ℕ, List, Some, find, subst, sym, ◌∙◌}
use Rattle.metric_contents.specs.Attributes.{given_by}
use Rattle.metric_contents.specs.Encoding.{is_of}
use Rattle.metric_handles.proofs.Mapped.{entry-found}
use Rattle.metric_handles.proofs.found.entry_at.Goals as goal

pub returns-in-Some : goal.returns-in-Some
returns-in-Some c =
    let key = c.args.key.now in
    let found = subst (λ (name : List ℕ). find (λ a. is_of name (given_by a)) c.args.attrs.now ≡ Some c.in-Some.attr.now) c.as_str.ensures (sym c.in-Some.ensures) in
    c.entry_with.ensures ∙ sym (entry-found given_by c.args.attrs.now key c.in-Some.attr.now found)
