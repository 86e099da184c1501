-- the side after the slash
use Rattle.std.proofs.Common.{sym, ap, ◌∙◌}
use Rattle.std.specs.List.{after_first, list_any}
use Rattle.metric_family.specs.Units.{is_brace, is_slash, per_name, per_words}
use Rattle.metric_family.proofs.PartLaws.{side_is}
use Rattle.metric_family.proofs.unit.per_words.Goals as goal

pub returns : goal.returns
unfolding per_words
returns c =
    let text = after_first is_slash c.args.unit.now in
    let plain = sym (ap (list_any is_brace) c.split_slash.ensures.after) ∙ sym c.has_brace.ensures ∙ c.if-has_brace.false in
    rw (side_is per_name text plain)
    (rw (c.in_ok-push_words.ensures, c.new-words.ensures.items, c.per_name.ensures, c.trimmed.ensures, c.split_slash.ensures.after) at c.after_per.ensures)
