-- what is written so far
use Rattle.std.proofs.Common.{◌≡◌, ◌++◌, take}
use Rattle.std.specs.List.{flat_map}
use Rattle.metric_sheet.specs.Html.{html_byte}
use Rattle.metric_sheet.proofs.html.push_html_text.Given as goal

abbrev pub invariant-loop-byte : goal.invariant-loop-byte
invariant-loop-byte l = l.page.items ≡ l.fn.page.items ++ flat_map html_byte (take l.byte-index l.text)
