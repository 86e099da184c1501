-- Lemmas on lines that are joined to a text.
use Rattle.std.proofs.Common.{◌≡◌, ℕ, ◌≤◌, true, List, [], ◌∷◌, ◌++◌, length, take, refl, sym, ap, ◌∙◌}
use Rattle.std.specs.Prelude.{map}
use Rattle.std.specs.List.{flat_map, list_all}
use Rattle.std.specs.Str.{IsUtf8, is_utf8}
use Rattle.std.specs.Borrow.{Bor}
use Rattle.std.proofs.lemmas.Bool.{and_parts}
use Rattle.std.proofs.lemmas.Str.{IsUtf8-nil, IsUtf8-append, IsUtf8-from_is_utf8}
use lib.Utf8
use Rattle.std.proofs.lemmas.List.{take_all}
use Rattle.std.proofs.lemmas.List.Folds.{flat_map-map}
use Rattle.metric_parts.specs.Input.{is_content}
use Rattle.metric_parts.specs.Texts.{joined}

line_feed : IsUtf8 (10 ∷ [])
unfolding lib.Utf8.encode
line_feed = (10 ∷ [], (refl, refl))

content_utf8 : (line : List ℕ) → is_content line ≡ true → IsUtf8 line
content_utf8 line e = IsUtf8-from_is_utf8 line (and_parts (is_utf8 line) _ e).0

more_utf8 : (lines : List (List ℕ)) → list_all is_content lines ≡ true → IsUtf8 (flat_map (λ line. 10 ∷ line) lines)
more_utf8 [] e = IsUtf8-nil
more_utf8 (x ∷ xs) e =
    let both = and_parts (is_content x) (list_all is_content xs) e in
    IsUtf8-append (10 ∷ x) (flat_map (λ line. 10 ∷ line) xs) (IsUtf8-append (10 ∷ []) x line_feed (content_utf8 x both.0)) (more_utf8 xs both.1)

-- contents joined by line feeds are UTF-8
pub joined_utf8 : (lines : List (List ℕ)) → list_all is_content lines ≡ true → IsUtf8 (joined lines)
joined_utf8 [] e = IsUtf8-nil
joined_utf8 (x ∷ xs) e =
    let both = and_parts (is_content x) (list_all is_content xs) e in
    IsUtf8-append x (flat_map (λ line. 10 ∷ line) xs) (content_utf8 x both.0) (more_utf8 xs both.1)

-- what a loop over all lines pushed
pub all_pushed : (old new : List ℕ) (lines : List (Bor (List ℕ))) (i : ℕ) → length lines ≤ i
    → new ≡ old ++ flat_map (λ line. 10 ∷ line.now) (take i lines) → new ≡ old ++ flat_map (λ line. 10 ∷ line) (map (λ line. line.now) lines)
all_pushed old new lines i h e =
    e ∙ ap (λ xs. old ++ flat_map (λ line. 10 ∷ line.now) xs) (take_all i lines h) ∙ ap (λ t. old ++ t) (sym (flat_map-map (λ line. 10 ∷ line) (λ line. line.now) lines))
