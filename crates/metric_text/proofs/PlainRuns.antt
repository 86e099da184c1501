-- Runs of plain bytes inside quotes, and the escapes between them.
use Rattle.std.proofs.Common.{cond, ◌≡◌, ℕ, ◌≤◌, Bool, true, false, ◌==◌, List, [], ◌∷◌, ◌++◌, Option, Some, None, length, refl, sym, ap, subst, ◌∙◌, ◌⊎◌, inl, inr, append_assoc, arith}
use Rattle.std.specs.Prelude.{if◌then◌else◌, is_some}
use Rattle.std.specs.List.{flat_map}
use Rattle.std.specs.Option.{option_map}
use Rattle.std.proofs.lemmas.Bool.Decides.{eqb_tells}
use Rattle.metric_text.specs.Written.{letter_of, escape}
use Rattle.metric_text.specs.Reading.{after_in, is_special, split_before, byte_of, escaped_in, with_front, unquoted_in}
use Rattle.metric_text.specs.ReadingLaws.{pair_is, BeginsWith}
use Rattle.metric_text.specs.QuoteLaws.{unquoted_in-plain}

shorter_either : (b : ℕ) (bytes : List ℕ) (rest : List ℕ × List ℕ) (test : Bool) → length rest.1 ≤ length bytes
    → length (cond {A = List ℕ × List ℕ} test ([], b ∷ bytes) (b ∷ rest.0, rest.1)).1 ≤ length (b ∷ bytes)
shorter_either b bytes rest true shorter = omega arith
shorter_either b bytes rest false shorter = omega arith

begins_either : (passes : ℕ → Bool) (b : ℕ) (bytes : List ℕ) (rest : List ℕ × List ℕ) (test : Bool) → passes b ≡ test → BeginsWith passes rest.1
    → BeginsWith passes (cond {A = List ℕ × List ℕ} test ([], b ∷ bytes) (b ∷ rest.0, rest.1)).1
begins_either passes b bytes rest true e begins = e
begins_either passes b bytes rest false e begins = begins

-- what follows is no longer
pub length-split_before : (passes : ℕ → Bool) (bytes : List ℕ) → length (split_before passes bytes).1 ≤ length bytes
length-split_before passes [] = omega arith
length-split_before passes (b ∷ bytes) = shorter_either b bytes (split_before passes bytes) (passes b) (length-split_before passes bytes)

pub split_before-begins : (passes : ℕ → Bool) (bytes : List ℕ) → BeginsWith passes (split_before passes bytes).1
split_before-begins passes [] = tt
split_before-begins passes (b ∷ bytes) = begins_either passes b bytes (split_before passes bytes) (passes b) refl (split_before-begins passes bytes)

has_or_none : {A : Type 0} (o : Option A) → (is_some o ≡ true) ⊎ (o ≡ None)
has_or_none None = inr refl
has_or_none (Some x) = inl refl

-- whether a byte is written with a backslash
special_or_plain : (b : ℕ) → (is_special b ≡ true) ⊎ (letter_of b ≡ None)
special_or_plain b = has_or_none (letter_of b)

pub with_front-nil : (read : Option (List ℕ × List ℕ)) → with_front [] read ≡ read
with_front-nil None = refl
with_front-nil (Some x) = refl

pub with_front-append : (front back : List ℕ) (read : Option (List ℕ × List ℕ)) → with_front front (with_front back read) ≡ with_front (front ++ back) read
with_front-append front back None = refl
with_front-append front back (Some x) = ap (λ xs. Some (xs, x.1)) (sym (append_assoc front back x.0))

-- what the plain bytes in front give
pub unquoted_in-split : (bytes : List ℕ) → with_front (split_before is_special bytes).0 (unquoted_in false (split_before is_special bytes).1) ≡ unquoted_in false bytes
unquoted_in-split [] = with_front-nil (unquoted_in false [])
unquoted_in-split (b ∷ bytes) =
    elim (special_or_plain b) [
      | inl special ↦ rw special (with_front-nil (unquoted_in false (b ∷ bytes)))
      | inr plain ↦
          rw plain (sym (with_front-append (b ∷ []) (split_before is_special bytes).0 (unquoted_in false (split_before is_special bytes).1))
          ∙ ap (with_front (b ∷ [])) (unquoted_in-split bytes) ∙ sym (unquoted_in-plain b bytes plain))
    ]

pub escape-split : (bytes : List ℕ) → (split_before is_special bytes).0 ++ flat_map escape (split_before is_special bytes).1 ≡ flat_map escape bytes
escape-split [] = refl
escape-split (b ∷ bytes) =
    elim (special_or_plain b) [
      | inl special ↦ rw special refl
      | inr plain ↦ rw plain (ap (λ xs. b ∷ xs) (escape-split bytes))
    ]

pub read_letter : {P : Type 0} (stands : Option ℕ) (rest : List ℕ) (c : ℕ) (others : List ℕ) → option_map {U = ℕ × List ℕ} (λ x. (x, rest)) stands ≡ Some (c, others) → (stands ≡ Some c → rest ≡ others → P) → P
read_letter None rest c others e next = absurd cc
read_letter (Some x) rest c others e next =
    let parts = pair_is x c rest others e in
    next (ap (λ y. Some y) parts.0) parts.1

map_none : (stands : Option ℕ) (rest : List ℕ) → option_map {U = ℕ × List ℕ} (λ (x : ℕ). (x, rest)) stands ≡ None → stands ≡ None
map_none None rest e = refl
map_none (Some x) rest e = absurd cc

pub some_if : {A P : Type 0} (test : Bool) (o : Option A) (x : A) → (if test then o else None) ≡ Some x → (test ≡ true → o ≡ Some x → P) → P
some_if true o x e next = next refl e
some_if false o x e next = absurd cc

escape_at : (b letter : ℕ) (rest : List ℕ) (c : ℕ) (others : List ℕ) → (b == 92) ≡ true → option_map {U = ℕ × List ℕ} (λ x. (x, rest)) (byte_of letter) ≡ Some (c, others)
    → unquoted_in false (b ∷ letter ∷ rest) ≡ with_front (c ∷ []) (unquoted_in false others)
unfolding unquoted_in
escape_at b letter rest c others slash e =
    read_letter (byte_of letter) rest c others e (λ stands same.
    let is : b ≡ 92 = (elim (eqb_tells b 92) [ inl yes_slash ↦ yes_slash.1 | inr other ↦ absurd cc ]) in
    rw (is, stands, same) refl)

-- an escape that stands first
pub unquoted_in-escaped : (bytes : List ℕ) (b : ℕ) (others : List ℕ) → escaped_in bytes ≡ Some (b, others) → unquoted_in false bytes ≡ with_front (b ∷ []) (unquoted_in false others)
unquoted_in-escaped [] b others e = absurd cc
unquoted_in-escaped (a ∷ []) b others e = absurd cc
unquoted_in-escaped (a ∷ letter ∷ rest) b others e =
    some_if (a == 92) (option_map {U = ℕ × List ℕ} (λ x. (x, rest)) (byte_of letter)) (b, others) e (λ slash read. escape_at a letter rest b others slash read)

no_escape : (letter : ℕ) (rest : List ℕ) → option_map {U = ℕ × List ℕ} (λ (x : ℕ). (x, rest)) (byte_of letter) ≡ None → byte_of letter ≡ None
no_escape letter rest e = map_none (byte_of letter) rest e

after_slash : (b : ℕ) (bytes : List ℕ) → b ≡ 92 → escaped_in (b ∷ bytes) ≡ None → unquoted_in false (b ∷ bytes) ≡ option_map (λ after. ([], after)) (after_in (34 ∷ []) (b ∷ bytes))
unfolding unquoted_in
after_slash b [] slash none = rw slash refl
after_slash b (letter ∷ bytes) slash none =
    let at : escaped_in (92 ∷ letter ∷ bytes) ≡ None = subst (λ x. escaped_in (x ∷ letter ∷ bytes) ≡ None) slash none in
    let stands = no_escape letter bytes at in
    rw (slash, stands) refl

-- where no escape stands first, a quote ends the text
pub unquoted_in-end : (bytes : List ℕ) → BeginsWith is_special bytes → escaped_in bytes ≡ None → unquoted_in false bytes ≡ option_map (λ after. ([], after)) (after_in (34 ∷ []) bytes)
unfolding unquoted_in
unquoted_in-end [] begins none = refl
unquoted_in-end (b ∷ bytes) begins none =
    elim (eqb_tells 34 b) [
      | inl quote ↦ (let e : b ≡ 34 = sym quote.1 in rw e refl)
      | inr other ↦
          let no_quote : (b == 34) ≡ false = elim (eqb_tells b 34) [ inl same ↦ absurd (other.1 (sym same.1)) | inr apart ↦ apart.0 ] in
          elim (eqb_tells b 92) [
            | inl slash ↦ after_slash b bytes slash.1 none
            | inr no_slash ↦ rw (other.0, begins, no_quote, no_slash.0) refl
          ]
    ]
