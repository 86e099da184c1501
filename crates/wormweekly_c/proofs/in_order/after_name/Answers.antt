-- the name stands first
use Rattle.std.proofs.Common.{◌≡◌, ◌≤◌, List, ℕ, length, sym, subst, ◌∙◌, arith}
use Rattle.std.specs.Str.{IsUtf8}
use Rattle.std.proofs.lemmas.Slice.Eq.{bytes_eq-Decides}
use Rattle.wormweekly_c.proofs.Utf8Laws.{text_there}
use Rattle.wormweekly_c.proofs.in_order.after_name.Goals as goal

pub returns-then-eq : goal.returns-then-eq
returns-then-eq c =
    let front : List ℕ = c.split_at.result.0.now in
    let same : front ≡ c.as_bytes.result.now = (bytes_eq-Decides front c.as_bytes.result.now).0 (sym c.if-eq.ensures) in
    let below : c.args.length ≤ length c.args.texts.now = omega (arith, c.if-length-texts.false) in
    sym (text_there c.args.length c.args.texts.now c.args.name.now c.split_at.result.1.now front below c.split_at.ensures.front c.split_at.ensures.back
    (sym (same ∙ c.as_bytes.ensures.value)) (subst IsUtf8 (sym same) c.as_bytes.ensures.utf8))
