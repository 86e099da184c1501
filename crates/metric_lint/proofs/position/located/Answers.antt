-- the lines of the text
use denote.Ref.{Bor}
use Rattle.std.proofs.Common.{◌≡◌, ℕ, Bool, cond, List, None, map, slice_get, sym, ap, ◌∙◌}
use Rattle.std.specs.List.{list_any}
use Rattle.metric_text.specs.Lines.{lines_of}
use Rattle.metric_lint.specs.Positions.{begins, headed, position_of}
use Rattle.metric_lint.proofs.Mapped.{list_any-map}
use Rattle.metric_lint.proofs.position.located.Goals as goal

pub returns-then-has_line : goal.returns-then-has_line
returns-then-has_line c =
    let text = λ (line : Bor (List ℕ)). line.now in
    let list = c.args.list.now in
    let found = position_of (slice_get (headed c.args.header.now (lines_of c.args.text.now)) c.args.number) in
    let texts : map text c.as_slice.result.now ≡ lines_of c.args.text.now = ap (map text) c.as_slice.ensures.value ∙ c.in_ok-lines.ensures ∙ ap lines_of c.as_bytes.ensures.value in
    let test : list_any (begins list) (lines_of c.args.text.now) ≡ c.has_line.result =
    ap (list_any (begins list)) (sym texts) ∙ list_any-map (begins list) text c.as_slice.result.now
    ∙ ap (λ (first : List ℕ). list_any (λ (line : Bor (List ℕ)). begins first line.now) c.as_slice.result.now) (sym c.as_bytes-2.ensures.value) ∙ sym c.has_line.ensures in
    sym (ap (λ (b : Bool). cond b None found) (test ∙ c.if-has_line.true))

pub returns : goal.returns
returns c =
    let text = λ (line : Bor (List ℕ)). line.now in
    let list = c.args.list.now in
    let found = position_of (slice_get (headed c.args.header.now (lines_of c.args.text.now)) c.args.number) in
    let texts : map text c.as_slice.result.now ≡ lines_of c.args.text.now = ap (map text) c.as_slice.ensures.value ∙ c.in_ok-lines.ensures ∙ ap lines_of c.as_bytes.ensures.value in
    let again : map text c.as_slice-2.result.now ≡ lines_of c.args.text.now = ap (map text) c.as_slice-2.ensures.value ∙ c.in_ok-lines.ensures ∙ ap lines_of c.as_bytes.ensures.value in
    let test : list_any (begins list) (lines_of c.args.text.now) ≡ c.has_line.result =
    ap (list_any (begins list)) (sym texts) ∙ list_any-map (begins list) text c.as_slice.result.now
    ∙ ap (λ (first : List ℕ). list_any (λ (line : Bor (List ℕ)). begins first line.now) c.as_slice.result.now) (sym c.as_bytes-2.ensures.value) ∙ sym c.has_line.ensures in
    c.nth_header.ensures
    ∙ ap (λ (header : List ℕ). position_of (slice_get (headed header (map text c.as_slice-2.result.now)) c.args.number)) c.as_bytes-3.ensures.value
    ∙ ap (λ (lines : List (List ℕ)). position_of (slice_get (headed c.args.header.now lines) c.args.number)) again
    ∙ sym (ap (λ (b : Bool). cond b None found) (test ∙ c.if-has_line.false))
