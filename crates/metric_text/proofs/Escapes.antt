-- Texts in quotes, a run of plain bytes and an escape at a time.
use Rattle.std.proofs.Common.{◌≡◌, ◌<◌, ◌==◌, ℕ, true, false, List, [], ◌∷◌, ◌++◌, Option, Some, None, Result, length, refl, sym, ap, subst, ◌∙◌, inl, inr, append_assoc, arith}
use Rattle.std.specs.Prelude.{IsUtf8}
use Rattle.std.specs.List.{flat_map}
use Rattle.std.specs.Str.{is_utf8}
use Rattle.std.proofs.lemmas.Str.{is_utf8-from_IsUtf8, IsUtf8-from_is_utf8}
use Rattle.std.specs.Option.{option_map, ok_or}
use Rattle.metric_text.specs.Written.{escape}
use Rattle.metric_text.specs.Reading.{Tells, after_in, closed_in, is_special, byte_of, split_before, escaped_in, with_front, unquoted_in, text_in}
use Rattle.metric_text.specs.ReadingLaws.{BeginsWith}
use Rattle.metric_text.proofs.LineLaws.{true_or_false}
use Rattle.metric_text.specs.declared.fault.SpellingFault.{SpellingFault}
use Rattle.metric_text.specs.declared.fault.SpellingFault.TheVariants.{Bad}
use Rattle.metric_text.proofs.PlainRuns.{length-split_before, split_before-begins, escape-split, unquoted_in-split, unquoted_in-escaped, unquoted_in-end, with_front-append, some_if, read_letter}

-- the plain bytes in front are written
pub escaped_start : (old new front back text : List ℕ) → new ≡ old ++ front → front ≡ (split_before is_special text).0 → back ≡ (split_before is_special text).1
    → new ++ flat_map escape back ≡ old ++ flat_map escape text
escaped_start old new front back text written before after =
    let parts : front ++ flat_map escape back ≡ flat_map escape text = rw (before, after) (escape-split text) in
    ap (λ xs. xs ++ flat_map escape back) written ∙ append_assoc old front (flat_map escape back) ∙ ap (λ xs. old ++ xs) parts

-- and then a byte with the plain bytes after it
pub escaped_more : (start old mid new : List ℕ) (b : ℕ) (rest others front back text : List ℕ) → rest ≡ b ∷ others → mid ≡ old ++ escape b → new ≡ mid ++ front
    → front ≡ (split_before is_special others).0 → back ≡ (split_before is_special others).1
    → old ++ flat_map escape rest ≡ start ++ flat_map escape text → new ++ flat_map escape back ≡ start ++ flat_map escape text
escaped_more start old mid new b rest others front back text is byte written before after invariant =
    escaped_start mid new front back others written before after
    ∙ ap (λ xs. xs ++ flat_map escape others) byte
    ∙ append_assoc old (escape b) (flat_map escape others)
    ∙ ap (λ xs. old ++ flat_map escape xs) (sym is)
    ∙ invariant

pub shorter : (b : ℕ) (rest others back : List ℕ) → rest ≡ b ∷ others → back ≡ (split_before is_special others).1 → length back < length rest
shorter b rest others back is after = let most = length-split_before is_special others in rw (is, after) (omega arith)

pub begins : (bytes back : List ℕ) → back ≡ (split_before is_special bytes).1 → BeginsWith is_special back
begins bytes back after = rw after (split_before-begins is_special bytes)

-- the plain bytes in front are read
pub unquoted_start : (text front back bytes : List ℕ) → text ≡ front → front ≡ (split_before is_special bytes).0 → back ≡ (split_before is_special bytes).1
    → with_front text (unquoted_in false back) ≡ unquoted_in false bytes
unquoted_start text front back bytes read before after = rw (read, before, after) (unquoted_in-split bytes)

-- and then an escape with the plain bytes after it
pub unquoted_more : (old mid new : List ℕ) (b : ℕ) (rest others front back bytes : List ℕ) → Some (b, others) ≡ escaped_in rest → mid ≡ old ++ b ∷ [] → new ≡ mid ++ front
    → front ≡ (split_before is_special others).0 → back ≡ (split_before is_special others).1
    → with_front old (unquoted_in false rest) ≡ unquoted_in false bytes → with_front new (unquoted_in false back) ≡ unquoted_in false bytes
unquoted_more old mid new b rest others front back bytes escape byte read before after invariant =
    ap (λ xs. with_front xs (unquoted_in false back)) read
    ∙ sym (with_front-append mid front (unquoted_in false back))
    ∙ ap (with_front mid) (unquoted_start front front back others refl before after)
    ∙ ap (λ xs. with_front xs (unquoted_in false others)) byte
    ∙ sym (with_front-append old (b ∷ []) (unquoted_in false others))
    ∙ ap (with_front old) (sym (unquoted_in-escaped rest b others (sym escape)))
    ∙ invariant

pub shorter_after : (b : ℕ) (rest others back : List ℕ) → Some (b, others) ≡ escaped_in rest → back ≡ (split_before is_special others).1 → length back < length rest
shorter_after b [] others back is after = absurd cc
shorter_after b (c ∷ []) others back is after = absurd cc
shorter_after b (c ∷ letter ∷ rest) others back is after =
    some_if (c == 92) (option_map {U = ℕ × List ℕ} (λ x. (x, rest)) (byte_of letter)) (b, others) (sym is) (λ slash read.
    read_letter (byte_of letter) rest b others read (λ stands same.
    let most = length-split_before is_special others in
    let as_long : length rest ≡ length others = ap (λ (xs : List ℕ). length xs) same in
    rw after (omega arith)))

append_nil : (xs : List ℕ) → xs ++ [] ≡ xs
append_nil [] = refl
append_nil (x ∷ xs) = ap (λ ys. x ∷ ys) (append_nil xs)

fronted : (text : List ℕ) (after : Option (List ℕ)) → with_front text (option_map (λ xs. ([], xs)) after) ≡ option_map (λ xs. (text, xs)) after
fronted text None = refl
fronted text (Some xs) = ap (λ ys. Some (ys, xs)) (append_nil text)

-- where no escape stands first, the quote ends the text
pub unquoted_last : (text rest bytes : List ℕ) → BeginsWith is_special rest → None ≡ escaped_in rest → with_front text (unquoted_in false rest) ≡ unquoted_in false bytes
    → closed_in text rest ≡ unquoted_in false bytes
unquoted_last text rest bytes at none invariant =
    sym (fronted text (after_in (34 ∷ []) rest)) ∙ ap (with_front text) (sym (unquoted_in-end rest at (sym none))) ∙ invariant

-- a text in quotes that is UTF-8
pub text_told : (bytes start found text rest : List ℕ) → after_in (34 ∷ []) bytes ≡ Some start → unquoted_in false start ≡ Some (found, rest) → text ≡ found → IsUtf8 text → text_in bytes ≡ Some (text, rest)
unfolding text_in
text_told bytes start found text rest opened inside same utf8 =
    let tested : is_utf8 found ≡ true = is_utf8-from_IsUtf8 found (subst IsUtf8 same utf8) in
    rw (opened, inside, tested, same) refl

-- bytes in quotes that are no text
pub text_refused : (bytes start found rest : List ℕ) → after_in (34 ∷ []) bytes ≡ Some start → unquoted_in false start ≡ Some (found, rest) → (IsUtf8 found → ⊥) → text_in bytes ≡ None
unfolding text_in
text_refused bytes start found rest opened inside bad =
    let tested : is_utf8 found ≡ false = elim (true_or_false (is_utf8 found)) [ inl good ↦ absurd (bad (IsUtf8-from_is_utf8 found good)) | inr none ↦ none ] in
    rw (opened, inside, tested) refl

-- nothing found is outside the grammar
pub Tells-ok_or : {X Y : Type 0} (view : X → Y) (found : Option X) (told : Result X SpellingFault) (read : Option Y) → told ≡ ok_or found Bad → option_map view found ≡ read → Tells view told read
Tells-ok_or view None told read is found = rw is (sym found)
Tells-ok_or view (Some x) told read is found = rw is (sym found)
