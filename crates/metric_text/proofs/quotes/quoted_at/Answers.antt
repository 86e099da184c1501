-- a text in quotes that is UTF-8
use Rattle.std.proofs.Common.{ℕ, Vec, Global, sym, ap, subst, ◌∙◌}
use Rattle.std.specs.Prelude.{IsUtf8}
use Rattle.std.specs.Option.{option_copied}
use Rattle.std.proofs.lemmas.Str.{IsUtf8-string_bytes}
use Rattle.metric_text.proofs.Escapes.{text_told, text_refused}
use Rattle.metric_text.proofs.quotes.quoted_at.Goals as goal

pub returns-in-Ok : goal.returns-in-Ok
returns-in-Ok c =
    text_told c.args.bytes.now c.in_ok-start.start.now c.in_ok-text.text.items c.from_string.result c.in_ok-text.rest.now
    (sym c.after_byte.ensures ∙ ap option_copied c.in_ok-start.ensures.ok_part) c.in_ok-text.ensures
    (c.from_string.ensures ∙ ap (λ (v : Vec ℕ Global). v.items) c.in-Ok.ensures.ok)
    (subst IsUtf8 (sym c.from_string.ensures) (IsUtf8-string_bytes c.in-Ok.string))

pub returns : goal.returns
returns c =
    text_refused c.args.bytes.now c.in_ok-start.start.now c.in_ok-text.text.items c.in_ok-text.rest.now (sym c.after_byte.ensures ∙ ap option_copied c.in_ok-start.ensures.ok_part) c.in_ok-text.ensures (λ utf8. absurd (let ok = c.in-Err.ensures.succeeds utf8 in cc))
