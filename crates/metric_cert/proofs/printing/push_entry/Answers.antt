-- the table that was written stands under its header
use Rattle.std.proofs.Common.{◌+◌, ◌++◌, string_bytes, ap, ◌∙◌}
use Rattle.toml.specs.Data.{array}
use Rattle.toml.specs.View.{items_view, view}
use Rattle.metric_cert.proofs.Printed.{entry_appended, pushed}
use Rattle.metric_cert.proofs.printing.push_entry.Goals as goal

pub returns : goal.returns
returns g c =
    pushed c.push_str-2.result (string_bytes c.push_str.new.self) (string_bytes c.push_str-2.new.self) c.as_str.result.now c.push_str-2.ensures.bytes
    (λ longer. entry_appended g.F.Fields.step (g.F.Fields.levels + 1) c.args.name.now c.args.entry.now c.in_ok-value.value (view c.listed.result) (string_bytes c.in_ok-piece.piece)
    (string_bytes c.args.text.now) (string_bytes c.push_str.new.self) (string_bytes c.push_str-2.new.self) c.in_ok-value.ensures.reads c.in_ok-value.ensures.printable
    (c.listed.ensures ∙ ap (λ vs. array (items_view vs)) c.in_ok-values.ensures.items) c.in_ok-piece.ensures c.in_ok-push_str.ensures.bytes
    (longer ∙ ap (λ t. string_bytes c.push_str.new.self ++ t) c.as_str.ensures.value))
