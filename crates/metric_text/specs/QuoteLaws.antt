-- A text in quotes: what is spelled is read, and what is read is spelled so.
use Rattle.std.proofs.Common.{◌≡◌, ℕ, Bool, true, false, ◌==◌, List, [], ◌∷◌, ◌++◌, Option, Some}
use Rattle.std.proofs.Common.{None, refl, sym, ap, subst, ◌∙◌, ◌⊎◌, inl, inr, append_assoc}
use Rattle.std.specs.Prelude.{IsUtf8, if◌then◌else◌, is_some}
use Rattle.std.specs.List.{flat_map}
use Rattle.std.specs.Option.{option_map_or}
use Rattle.std.specs.Str.{is_utf8}
use Rattle.std.proofs.lemmas.Bool.Decides.{eqb_tells, Decides-eqb}
use Rattle.std.proofs.lemmas.Str.{IsUtf8-from_is_utf8, is_utf8-from_IsUtf8}
use Rattle.metric_text.specs.Written.{letter_of, escape, quoted}
use Rattle.metric_text.specs.Reading.{after_in, is_special, byte_of, with_front, unquoted_in}
use Rattle.metric_text.specs.Reading.{text_in}
use Rattle.metric_text.specs.ReadingLaws.{after_in-some, after_some, some_when, pair_is}

-- the bytes that are written with a backslash, and all others
letter_cases : (b : ℕ)
    → (b ≡ 34) ⊎ ((b ≡ 92) ⊎ ((b ≡ 10) ⊎ ((b ≡ 13) ⊎ ((b ≡ 9) ⊎ (letter_of b ≡ None)))))
letter_cases b =
    elim (eqb_tells b 34) [
      | inl quote ↦ inl quote.1
      | inr n1 ↦
          elim (eqb_tells b 92) [
            | inl slash ↦ inr (inl slash.1)
            | inr n2 ↦
                elim (eqb_tells b 10) [
                  | inl feed ↦ inr (inr (inl feed.1))
                  | inr n3 ↦
                      elim (eqb_tells b 13) [
                        | inl return ↦ inr (inr (inr (inl return.1)))
                        | inr n4 ↦
                            elim (eqb_tells b 9) [
                              | inl tab ↦ inr (inr (inr (inr (inl tab.1))))
                              | inr n5 ↦
                                  inr
                                  (inr (inr (inr (inr (rw (n1.0, n2.0, n3.0, n4.0, n5.0) refl)))))
                            ]
                      ]
                ]
          ]
    ]

-- a byte that stands for itself is neither a quote nor a backslash
plain_is_other : (c b : ℕ) → (letter_of c ≡ None → ⊥) → letter_of b ≡ None → (b == c) ≡ false
plain_is_other c b special plain =
    elim (eqb_tells b c) [
      | inl same ↦
          absurd (special (subst (λ x. letter_of x ≡ None) same.1 plain))
      | inr other ↦ other.0
    ]

quote_is_special : letter_of 34 ≡ None → ⊥
quote_is_special e = cc

slash_is_special : letter_of 92 ≡ None → ⊥
slash_is_special e = cc

escape-plain : (b : ℕ) → letter_of b ≡ None → escape b ≡ b ∷ []
escape-plain b plain =
    ap (λ (o : Option ℕ). option_map_or (λ letter. 92 ∷ letter ∷ []) o (b ∷ [])) plain

three_tests : {A : Type 0} (t u v : Bool) (x y z w : A) → t ≡ false → u ≡ false → v ≡ false
    → (if t then x else (if u then y else (if v then z else w))) ≡ w
three_tests t u v x y z w p q r = rw (p, q, r) refl

pub unquoted_in-plain : (b : ℕ) (bytes : List ℕ) → letter_of b ≡ None
    → unquoted_in false (b ∷ bytes) ≡ with_front (b ∷ []) (unquoted_in false bytes)
unfolding unquoted_in
unquoted_in-plain b bytes plain =
    three_tests (b == 34) (b == 92) (is_special b) (Some ([], bytes)) (unquoted_in true bytes) None
    (with_front (b ∷ []) (unquoted_in false bytes))
    (plain_is_other 34 b quote_is_special plain) (plain_is_other 92 b slash_is_special plain)
    (ap (λ (o : Option ℕ). is_some o) plain)

-- one byte of a spelling
unquoted_in-escape : (b : ℕ) (more : List ℕ)
    → unquoted_in false (escape b ++ more) ≡ with_front (b ∷ []) (unquoted_in false more)
unfolding unquoted_in
unquoted_in-escape b more =
    elim (letter_cases b) [
      | inl e ↦ rw e refl
      | inr other ↦ elim other [
        | inl e ↦ rw e refl
        | inr other ↦ elim other [
          | inl e ↦ rw e refl
          | inr other ↦ elim other [
            | inl e ↦ rw e refl
            | inr other ↦ elim other [
              | inl e ↦ rw e refl
              | inr plain ↦ ap (λ xs. unquoted_in false (xs ++ more)) (escape-plain b plain)
                  ∙ unquoted_in-plain b more plain
            ]
          ]
        ]
      ]
    ]

with_front-some : (front text rest : List ℕ) (read : Option (List ℕ × List ℕ))
    → read ≡ Some (text, rest) → with_front front read ≡ Some (front ++ text, rest)
with_front-some front text rest read e = rw e refl

pub unquoted_in-text : (text rest : List ℕ)
    → unquoted_in false (flat_map escape text ++ 34 ∷ rest) ≡ Some (text, rest)
unfolding unquoted_in
unquoted_in-text [] rest = refl
unquoted_in-text (b ∷ text) rest =
    ap (unquoted_in false) (append_assoc (escape b) (flat_map escape text) (34 ∷ rest))
    ∙ unquoted_in-escape b (flat_map escape text ++ 34 ∷ rest)
    ∙ with_front-some (b ∷ []) text rest _ (unquoted_in-text text rest)

-- what is left of a text, with the backslash that stands before
abbrev with_slash : Bool → List ℕ → List ℕ
with_slash true bytes = 92 ∷ bytes
with_slash false bytes = bytes

-- the byte of a letter is written with it
escape-byte_of : (letter b : ℕ) → byte_of letter ≡ Some b → escape b ≡ 92 ∷ letter ∷ []
escape-byte_of letter b e =
    elim (eqb_tells letter 34) [
      | inl same ↦ (let r = rw same.0 at e in let s : 34 ≡ b = cc in
          rw (← s) (ap (λ l. 92 ∷ l ∷ []) (sym same.1)))
      | inr n1 ↦
          let e = rw n1.0 at e in
          elim (eqb_tells letter 92) [
            | inl same ↦ (let r = rw same.0 at e in let s : 92 ≡ b = cc in
                rw (← s) (ap (λ l. 92 ∷ l ∷ []) (sym same.1)))
            | inr n2 ↦
                let e = rw n2.0 at e in
                elim (eqb_tells letter 110) [
                  | inl same ↦ (let r = rw same.0 at e in let s : 10 ≡ b = cc in
                      rw (← s) (ap (λ l. 92 ∷ l ∷ []) (sym same.1)))
                  | inr n3 ↦
                      let e = rw n3.0 at e in
                      elim (eqb_tells letter 114) [
                        | inl same ↦ (let r = rw same.0 at e in let s : 13 ≡ b = cc in
                            rw (← s) (ap (λ l. 92 ∷ l ∷ []) (sym same.1)))
                        | inr n4 ↦
                            let e = rw n4.0 at e in
                            elim (eqb_tells letter 116) [
                              | inl same ↦ (let r = rw same.0 at e in let s : 9 ≡ b = cc in
                                  rw (← s) (ap (λ l. 92 ∷ l ∷ []) (sym same.1)))
                              | inr n5 ↦
                                  let e = rw n5.0 at e in absurd cc
                            ]
                      ]
                ]
          ]
    ]

-- a text whose first byte was read, and the rest of it
front_of : {P : Type 0} (b : ℕ) (read : Option (List ℕ × List ℕ)) (text rest : List ℕ)
    → with_front (b ∷ []) read ≡ Some (text, rest)
    → ((more : List ℕ) → read ≡ Some (more, rest) → text ≡ b ∷ more → P) → P
front_of b None text rest e next = absurd cc
front_of b (Some x) text rest e next =
    let parts = pair_is (b ∷ x.0) text x.1 rest e in
    next x.0 (ap (λ r. Some (x.0, r)) parts.1) (sym parts.0)

joins : (b : ℕ) (front bytes text more rest : List ℕ) → escape b ≡ front
    → bytes ≡ flat_map escape more ++ 34 ∷ rest → text ≡ b ∷ more
    → front ++ bytes ≡ flat_map escape text ++ 34 ∷ rest
joins b front bytes text more rest written spelled is =
    rw (is, spelled, ← written) (sym (append_assoc (escape b) (flat_map escape more) (34 ∷ rest)))

-- which of the tests decided what is read
read_cases : {A P : Type 0} (t u v : Bool) (x y z : Option A) (r : A)
    → (if t then x else (if u then y else (if v then None else z))) ≡ Some r
    → (t ≡ true → x ≡ Some r → P) → (u ≡ true → y ≡ Some r → P) → (v ≡ false → z ≡ Some r → P) → P
read_cases true u v x y z r e first second third = first refl e
read_cases false true v x y z r e first second third = second refl e
read_cases false false true x y z r e first second third = absurd cc
read_cases false false false x y z r e first second third = third refl e

none_of : {A : Type 0} (o : Option A) → is_some o ≡ false → o ≡ None
none_of None e = refl
none_of (Some x) e = absurd cc

unquoted_in-some : (escaped : Bool) (bytes text rest : List ℕ) → unquoted_in escaped bytes
    ≡ Some (text, rest) → with_slash escaped bytes ≡ flat_map escape text ++ 34 ∷ rest
unfolding unquoted_in
unquoted_in-some escaped [] text rest e = absurd cc
unquoted_in-some true (letter ∷ bytes) text rest e =
    after_some (byte_of letter) _ (text, rest) e (λ b stands read.
    front_of b (unquoted_in false bytes) text rest read (λ more others is.
    joins b (92 ∷ letter ∷ []) bytes text more rest (escape-byte_of letter b stands)
    (unquoted_in-some false bytes more rest others) is))
unquoted_in-some false (b ∷ bytes) text rest e =
    read_cases (b == 34) (b == 92) (is_special b) (Some ([], bytes)) (unquoted_in true bytes)
    (with_front (b ∷ []) (unquoted_in false bytes)) (text, rest) e
    (λ quote read.
    let is : b ≡ 34 = (Decides-eqb b 34).0 quote in
    let parts = pair_is [] text bytes rest read in
    rw (is, ← parts.0, ← parts.1) refl)
    (λ slash read.
    let is : b ≡ 92 = (Decides-eqb b 92).0 slash in
    ap (λ c. c ∷ bytes) is ∙ unquoted_in-some true bytes text rest read)
    (λ plain read.
    front_of b (unquoted_in false bytes) text rest read (λ more others is.
    joins b (b ∷ []) bytes text more rest (escape-plain b (none_of (letter_of b) plain))
    (unquoted_in-some false bytes more rest others) is))

pub text_in-text : (text rest : List ℕ) → IsUtf8 text
    → text_in (quoted text ++ rest) ≡ Some (text, rest)
unfolding text_in
text_in-text text rest utf8 =
    let read = unquoted_in-text text rest in
    rw
    (append_assoc (flat_map escape text) (34 ∷ []) rest, read, is_utf8-from_IsUtf8 text utf8) refl

pub text_in-some : (bytes text rest : List ℕ) → text_in bytes ≡ Some (text, rest)
    → IsUtf8 text × (bytes ≡ quoted text ++ rest)
unfolding text_in
text_in-some bytes text rest e =
    after_some (after_in (34 ∷ []) bytes) _ (text, rest) e (λ start opened read.
    after_some (unquoted_in false start) _ (text, rest) read (λ found inside tested.
    let held = some_when (is_utf8 found.0) found (text, rest) tested in
    let same : unquoted_in false start ≡ Some (text, rest) = inside ∙ ap (λ x. Some x) held.1 in
    let spelled = unquoted_in-some false start text rest same in
    let utf8 : is_utf8 text ≡ true =
    subst (λ (x : List ℕ × List ℕ). is_utf8 x.0 ≡ true) held.1 held.0 in (
      IsUtf8-from_is_utf8 text utf8,
      after_in-some (34 ∷ []) bytes start opened
          ∙ ap (λ xs. 34 ∷ xs) (spelled ∙ sym (append_assoc (flat_map escape text) (34 ∷ []) rest)),
    )))
