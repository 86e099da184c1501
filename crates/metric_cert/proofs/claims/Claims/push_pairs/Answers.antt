-- the lines one after the other
use Rattle.std.proofs.Common.{codes, string_bytes, subst}
use Rattle.metric_cert.specs.Printing.{AppendsLines, pair}
use Rattle.metric_cert.proofs.Printed.{lines_then}
use Rattle.metric_cert.proofs.Tabled.{when_ok}
use Rattle.metric_cert.proofs.claims.Claims.push_pairs.Goals as goal

pub returns : goal.returns
returns c =
    let bounds = string_bytes c.push_if_empty.new.text in
    let format = string_bytes c.push_pair.new.text in
    let orders = string_bytes c.push_if_empty-2.new.text in
    let reasons = string_bytes c.push_if_empty-3.new.text in
    let of_format = subst (λ d. AppendsLines (pair (codes "format") d) bounds format) c.short.ensures c.in_ok-push_pair.ensures in
    when_ok _ c.push_if_empty-4.ensures
    (λ streams. lines_then _ _ (string_bytes c.args.text.now) bounds _ c.in_ok-push_if_empty.ensures
    (lines_then _ _ bounds format _ of_format (lines_then _ _ format orders _ c.in_ok-push_if_empty-2.ensures (lines_then _ _ orders reasons _ c.in_ok-push_if_empty-3.ensures streams))))
