-- Lines of remarks, one after the other.
use Rattle.std.proofs.Common.{◌≡◌, ℕ, List, [], ◌∷◌, ◌++◌, ◌+◌, ◌<◌, append-nil, append_assoc, get_or, length, take, sym, ap, subst, ◌∙◌}
use Rattle.std.specs.List.{AllZip, concat}
use Rattle.std.proofs.lemmas.List.{take_more}
use Rattle.metric_lint.specs.declared.remark.Remark.{Remark}
use Rattle.metric_messages.specs.declared.sources.Pair.{Pair}
use Rattle.wormweekly_c.specs.Linting.{IsRemarkLine, PushesLine, PushesLines}

all_more : {A B : Type 0} (R : A → B → Type 0) (xs : List A) (x : A) (ys : List B) (y : B) → AllZip R xs ys → R x y → AllZip R (xs ++ x ∷ []) (ys ++ y ∷ [])
all_more R [] x [] y all one = (one, tt)
all_more R [] x (other ∷ ys) y all one = absurd all
all_more R (other ∷ xs) x [] y all one = absurd all
all_more R (w ∷ xs) x (z ∷ ys) y all one = (all.0, all_more R xs x ys y all.1 one)

concat_more : (lines : List (List ℕ)) (line : List ℕ) → concat (lines ++ line ∷ []) ≡ concat lines ++ line
concat_more [] line = append-nil line
concat_more (first ∷ lines) line =
    ap (λ (text : List ℕ). first ++ text) (concat_more lines line) ∙ sym (append_assoc first (concat lines) line)

-- none so far
pub no_line : (pair : Pair) (text : List ℕ) → PushesLines pair [] text text
no_line pair text = record { lines = []; each = tt; is = sym (append-nil text) }

-- one more
line_more : (pair : Pair) (remarks : List Remark) (remark : Remark) (before between after : List ℕ) → PushesLines pair remarks before between
    → PushesLine pair remark between after → PushesLines pair (remarks ++ remark ∷ []) before after
line_more pair remarks remark before between after so_far one = record {
  lines = so_far.lines ++ one.line ∷ [];
  each = all_more (IsRemarkLine pair) remarks remark so_far.lines one.line so_far.each one.is_line;
  is = one.is
      ∙ ap (λ (text : List ℕ). text ++ one.line) so_far.is
      ∙ append_assoc before (concat so_far.lines) one.line
      ∙ ap (λ (text : List ℕ). before ++ text) (sym (concat_more so_far.lines one.line));
}

-- one more of a list
pub line_at : (pair : Pair) (all : List Remark) (i : ℕ) (d : Remark) (before between after : List ℕ) → i < length all → PushesLines pair (take i all) before between
    → PushesLine pair (get_or all i d) between after → PushesLines pair (take (i + 1) all) before after
line_at pair all i d before between after within so_far one =
    subst (λ (told : List Remark). PushesLines pair told before after) (sym (take_more all i d within))
    (line_more pair (take i all) (get_or all i d) before between after so_far one)
