-- Attributes: what is spelled is read, and what is read is spelled so.
use Rattle.std.proofs.Common.{◌≡◌, ℕ, ◌<◌, ◌≤◌, zero, suc, List, [], ◌∷◌, ◌++◌, Option, Some, None, Result, Ok, Err, length, refl, sym, ap, subst, ◌∙◌, append_assoc, append-nil, length-append, arith}
use Rattle.std.specs.List.{AllByRecursion, flat_map}
use Rattle.std.specs.Prelude.{IsErrAnd}
use Rattle.std.specs.Option.{option_map}
use Rattle.metric_contents.specs.declared.attributes.OwnedAttr.{OwnedAttr}
use Rattle.metric_text.specs.Written.{quoted, value_text, pair_text}
use Rattle.metric_text.specs.Reading.{◌>>=◌, Tells, after_in, text_in, value_in}
use Rattle.metric_text.specs.declared.fault.SpellingFault.{SpellingFault}
use Rattle.metric_text.specs.declared.fault.SpellingFault.TheVariants.{Bad, Memory}
use Rattle.metric_text.specs.ReadingLaws.{IsWordEnd, after_some, after_in-some, pair_is}
use Rattle.metric_text.specs.QuoteLaws.{text_in-text, text_in-some}
use Rattle.metric_text.specs.ValueLaws.{value_in-text, value_in-some}
use Rattle.metric_script.specs.Spelling.{attribute_text, FitsAttribute}
use Rattle.metric_script.specs.Reading.{attribute_in, attributes_in, all_attributes_in}

-- an attribute at the front of a line is read, with what follows it
pub attribute_in-text : (attr : OwnedAttr) (rest : List ℕ) → FitsAttribute attr → IsWordEnd rest → attribute_in (attribute_text attr ++ rest) ≡ Some (attr, rest)
unfolding attribute_in
attribute_in-text attr rest fits ends =
    rw (append_assoc (quoted attr.key) (61 ∷ value_text attr.value) rest, text_in-text attr.key (61 ∷ (value_text attr.value ++ rest)) fits.0, value_in-text attr.value rest fits.1 ends) refl

-- an attribute that is read stands at the front of the line
pub attribute_in-some : (bytes : List ℕ) (attr : OwnedAttr) (rest : List ℕ) → attribute_in bytes ≡ Some (attr, rest) → FitsAttribute attr × (bytes ≡ attribute_text attr ++ rest)
unfolding attribute_in
attribute_in-some bytes attr rest e =
    after_some (after_in (32 ∷ []) bytes) _ (attr, rest) e (λ start space e.
    after_some (text_in start) _ (attr, rest) e (λ key named e.
    after_some (after_in (61 ∷ []) key.1) _ (attr, rest) e (λ equals mark e.
    after_some (value_in equals) _ (attr, rest) e (λ value valued made.
    let parts = pair_is (record { key = key.0; value = value.0 }) attr value.1 rest made in
    let name = text_in-some start key.0 key.1 named in
    let held = value_in-some value.0 equals value.1 valued in
    let after_key : key.1 ≡ 61 ∷ (value_text value.0 ++ value.1) = after_in-some (61 ∷ []) key.1 equals mark ∙ ap (λ xs. 61 ∷ xs) held.1 in
    let pair : start ≡ pair_text key.0 value.0 ++ value.1 =
    name.1 ∙ ap (λ xs. quoted key.0 ++ xs) after_key ∙ sym (append_assoc (quoted key.0) (61 ∷ value_text value.0) value.1) in (
      subst FitsAttribute parts.0 (name.0, held.0),
      after_in-some (32 ∷ []) bytes start space ∙ ap (λ xs. 32 ∷ xs) pair ∙ ap (λ a. attribute_text a ++ value.1) parts.0 ∙ ap (λ xs. attribute_text attr ++ xs) parts.1,
    )))))

-- attributes begin with a space
pub attributes_end : (attrs : List OwnedAttr) → IsWordEnd (flat_map attribute_text attrs)
attributes_end [] = tt
attributes_end (attr ∷ attrs) = refl

shorter_text : (attr : OwnedAttr) (rest : List ℕ) (limit : ℕ) → length (attribute_text attr ++ rest) ≤ suc limit → length rest ≤ limit
shorter_text attr rest limit enough = omega (arith, enough, length-append (pair_text attr.key attr.value) rest)

-- attributes to a line's end are read
pub attributes_in-text : (limit : ℕ) (attrs : List OwnedAttr) → AllByRecursion FitsAttribute attrs → length (flat_map attribute_text attrs) ≤ limit → attributes_in limit (flat_map attribute_text attrs) ≡ Some attrs
unfolding attributes_in
attributes_in-text zero [] fits enough = refl
attributes_in-text (suc limit) [] fits enough = refl
attributes_in-text zero (attr ∷ attrs) fits enough = absurd (omega (arith, enough))
attributes_in-text (suc limit) (attr ∷ attrs) fits enough =
    rw (attribute_in-text attr (flat_map attribute_text attrs) fits.0 (attributes_end attrs), attributes_in-text limit attrs fits.1 (shorter_text attr (flat_map attribute_text attrs) limit enough)) refl

one_more : {P : Type 0} (read : Option (List OwnedAttr)) (first : OwnedAttr) (attrs : List OwnedAttr) → option_map (λ others. first ∷ others) read ≡ Some attrs
    → ((others : List OwnedAttr) → read ≡ Some others → first ∷ others ≡ attrs → P) → P
one_more None first attrs e next = absurd cc
one_more (Some others) first attrs e next = next others refl cc

-- attributes that are read stand to the line's end
pub attributes_in-some : (limit : ℕ) (bytes : List ℕ) (attrs : List OwnedAttr) → attributes_in limit bytes ≡ Some attrs → AllByRecursion FitsAttribute attrs × (bytes ≡ flat_map attribute_text attrs)
unfolding attributes_in
attributes_in-some zero [] attrs e = let none : [] ≡ attrs = cc in subst (λ xs. AllByRecursion FitsAttribute xs × ([] ≡ flat_map attribute_text xs)) none (tt, refl)
attributes_in-some (suc limit) [] attrs e = let none : [] ≡ attrs = cc in subst (λ xs. AllByRecursion FitsAttribute xs × ([] ≡ flat_map attribute_text xs)) none (tt, refl)
attributes_in-some zero (b ∷ bytes) attrs e = absurd cc
attributes_in-some (suc limit) (b ∷ bytes) attrs e =
    after_some (attribute_in (b ∷ bytes)) _ attrs e (λ first found made.
    one_more (attributes_in limit first.1) first.0 attrs made (λ others read is.
    let front = attribute_in-some (b ∷ bytes) first.0 first.1 found in
    let back = attributes_in-some limit first.1 others read in
    subst (λ xs. AllByRecursion FitsAttribute xs × (b ∷ bytes ≡ flat_map attribute_text xs)) is
    ((front.0, back.0), front.1 ∙ ap (λ xs. attribute_text first.0 ++ xs) back.1)))

same_after : {A B : Type 0} (o : Option A) (f g : A → Option B) → ((x : A) → o ≡ Some x → f x ≡ g x) → (o >>= f) ≡ (o >>= g)
same_after None f g same = refl
same_after (Some x) f g same = same x refl

-- what follows an attribute is shorter
pub attribute_in-shorter : (bytes : List ℕ) (attr : OwnedAttr) (rest : List ℕ) → attribute_in bytes ≡ Some (attr, rest) → length rest < length bytes
attribute_in-shorter bytes attr rest e =
    let spelled = (attribute_in-some bytes attr rest e).1 in
    omega (arith, ap length spelled, length-append (pair_text attr.key attr.value) rest)

-- a larger limit reads the same
attributes_in-limit : (m n : ℕ) (bytes : List ℕ) → length bytes ≤ m → length bytes ≤ n → attributes_in m bytes ≡ attributes_in n bytes
unfolding attributes_in
attributes_in-limit zero zero [] p q = refl
attributes_in-limit zero (suc n) [] p q = refl
attributes_in-limit (suc m) zero [] p q = refl
attributes_in-limit (suc m) (suc n) [] p q = refl
attributes_in-limit zero n (b ∷ bytes) p q = absurd (omega (arith, p))
attributes_in-limit (suc m) zero (b ∷ bytes) p q = absurd (omega (arith, q))
attributes_in-limit (suc m) (suc n) (b ∷ bytes) p q =
    same_after (attribute_in (b ∷ bytes)) _ _ (λ first found.
    let shorter = attribute_in-shorter (b ∷ bytes) first.0 first.1 found in
    ap (option_map (λ others. first.0 ∷ others)) (attributes_in-limit m n first.1 (omega (arith, shorter, p)) (omega (arith, shorter, q))))

-- attributes before those that reading gives
abbrev pub after_attributes : List OwnedAttr → Option (List OwnedAttr) → Option (List OwnedAttr)
after_attributes before read = option_map (λ others. before ++ others) read

pushed : (before after : List OwnedAttr) (attr : OwnedAttr) (read : Option (List OwnedAttr)) → after ≡ before ++ attr ∷ []
    → after_attributes after read ≡ after_attributes before (option_map (λ others. attr ∷ others) read)
pushed before after attr None more = refl
pushed before after attr (Some others) more = rw more (ap (λ xs. Some xs) (append_assoc before (attr ∷ []) others))

first_attribute : (bytes : List ℕ) (attr : OwnedAttr) (rest : List ℕ) → attribute_in bytes ≡ Some (attr, rest) → all_attributes_in bytes ≡ option_map (λ others. attr ∷ others) (all_attributes_in rest)
unfolding attributes_in
first_attribute [] attr rest e = absurd (let shorter = attribute_in-shorter [] attr rest e in omega (arith, shorter))
first_attribute (b ∷ bytes) attr rest e =
    let shorter = attribute_in-shorter (b ∷ bytes) attr rest e in
    ap (λ (o : Option (OwnedAttr × List ℕ)). o >>= λ first. option_map (λ others. first.0 ∷ others) (attributes_in (length bytes) first.1)) e
    ∙ ap (option_map (λ others. attr ∷ others)) (attributes_in-limit (length bytes) (length rest) rest (omega (arith, shorter)) (omega arith))

-- one more attribute
pub attributes_more : (before after : List OwnedAttr) (attr : OwnedAttr) (bytes rest all : List ℕ) → attribute_in bytes ≡ Some (attr, rest) → after ≡ before ++ attr ∷ []
    → after_attributes before (all_attributes_in bytes) ≡ all_attributes_in all → after_attributes after (all_attributes_in rest) ≡ all_attributes_in all
attributes_more before after attr bytes rest all e more so_far =
    pushed before after attr (all_attributes_in rest) more ∙ ap (after_attributes before) (sym (first_attribute bytes attr rest e)) ∙ so_far

-- where no attribute stands first before the line's end, none is read
pub attributes_none : (before : List OwnedAttr) (bytes all : List ℕ) → 0 < length bytes → attribute_in bytes ≡ None
    → after_attributes before (all_attributes_in bytes) ≡ all_attributes_in all → all_attributes_in all ≡ None
unfolding attributes_in
attributes_none before [] all some e so_far = absurd (omega (arith, some))
attributes_none before (b ∷ bytes) all some e so_far =
    sym so_far ∙ ap (λ (o : Option (OwnedAttr × List ℕ)). after_attributes before (o >>= λ first. option_map (λ others. first.0 ∷ others) (attributes_in (length bytes) first.1))) e

-- the same of a fault that is passed on
pub attributes_refused : {X : Type 0} (view : X → OwnedAttr × List ℕ) (fault : SpellingFault) (result : Result (List OwnedAttr) SpellingFault) (before : List OwnedAttr) (bytes all : List ℕ) → 0 < length bytes
    → IsErrAnd result (λ e. e ≡ fault) → Tells view (Err fault) (attribute_in bytes)
    → after_attributes before (all_attributes_in bytes) ≡ all_attributes_in all → Tells (λ attrs. attrs) result (all_attributes_in all)
attributes_refused view fault (Ok attrs) before bytes all some passed told so_far = absurd passed
attributes_refused view Bad (Err Bad) before bytes all some passed told so_far = attributes_none before bytes all some told so_far
attributes_refused view Memory (Err Bad) before bytes all some passed told so_far = absurd cc
attributes_refused view fault (Err Memory) before bytes all some passed told so_far = tt

-- at the line's end all are read
pub attributes_all : (before : List OwnedAttr) (bytes all : List ℕ) → length bytes ≡ 0 → after_attributes before (all_attributes_in bytes) ≡ all_attributes_in all → all_attributes_in all ≡ Some before
unfolding attributes_in
attributes_all before [] all end so_far = sym so_far ∙ ap (λ xs. Some xs) (append-nil before)
attributes_all before (b ∷ bytes) all end so_far = absurd (omega (arith, end))
