-- the side before the slash
use Rattle.std.proofs.Common.{sym, ap, ◌∙◌}
use Rattle.std.specs.List.{before_first, list_any}
use Rattle.metric_family.specs.Units.{is_brace, is_slash, main_words, unit_name}
use Rattle.metric_family.proofs.PartLaws.{side_is}
use Rattle.metric_family.proofs.unit.main_words.Goals as goal

pub returns : goal.returns
unfolding main_words
returns c =
    let text = before_first is_slash c.args.unit.now in
    let plain = sym (ap (list_any is_brace) c.split_slash.ensures.before) ∙ sym c.has_brace.ensures ∙ c.if-has_brace.false in
    rw (c.in_ok-push_words.ensures, c.new-out.ensures.items, c.unit_name.ensures, c.trimmed.ensures, c.split_slash.ensures.before) (sym (side_is unit_name text plain))
