-- Laws of numberings.
use Rattle.std.proofs.lemmas.List.{take_more, drop_more}
use Rattle.std.proofs.Common.{All, take, drop, get_or, length-take, is_some, ◌≡◌, ℕ, ◌+◌, Bool, true, false, cond, List, [], ◌∷◌, ◌++◌, length, Option, Some, None, String, Global, refl, sym, ap, subst, ◌∙◌, arith, IfSome, ◌<◌, string_bytes}
use Rattle.std.specs.Str.{bytes_eq}
use Rattle.std.specs.String.{string_eq}
use Rattle.std.specs.HashMap.{Updates}
use Rattle.std.proofs.lemmas.Map.Text.{hash_map_updates_text}
use Rattle.metric_names.specs.declared.value.AttrValue.{AttrValue}
use Rattle.metric_names.specs.declared.value.AttrValue.TheVariants.{Text, Whole, Flag}
use Rattle.metric_contents.specs.declared.numbering.Numbering.{Numbering}
use Rattle.metric_contents.specs.Places.{place, repeats_after, same_value}
use Rattle.metric_contents.specs.PlaceLaws.{or_else, position_from-push, position_from-within}
use Rattle.metric_contents.specs.SameValues.{same_value-Decides}
use Rattle.metric_contents.specs.Numbering.{number_in, Numbers}
use Rattle.std.proofs.lemmas.List.Elements.{All-contains}
use Rattle.metric_contents.specs.declared.shortcuts.Numbered.{Numbered}
use Rattle.metric_contents.specs.Packed.{text_of}
use Rattle.metric_contents.specs.Shortcuts.{IsRight, Leads}

-- the value and its number are given last
pub numbers_push : (n m : Numbering) (values : List AttrValue) (w : AttrValue) → Numbers n values → number_in n w ≡ None
    → ((v : AttrValue) → number_in m v ≡ cond (same_value w v) (Some (length values)) (number_in n v)) → Numbers m (values ++ w ∷ [])
numbers_push n m values w numbers fresh written v =
    written v ∙ joined (same_value w v) refl ∙ sym (position_from-push (same_value v) 0 values w)
  where
    back : (c : Bool) → same_value v w ≡ c → same_value w v ≡ false → number_in n v ≡ or_else (place values v) (cond c (Some (0 + length values)) None)
    back true e h = let same = (same_value-Decides v w).0 e in let turned = (same_value-Decides w v).1 (sym same) in absurd cc
    back false e h = numbers v ∙ kept (place values v)
      where
        kept : (o : Option ℕ) → o ≡ or_else o None
        kept None = refl
        kept (Some p) = refl

    joined : (b : Bool) → same_value w v ≡ b → cond b (Some (length values)) (number_in n v) ≡ or_else (place values v) (cond (same_value v w) (Some (0 + length values)) None)
    joined true e =
        let same = (same_value-Decides w v).0 e in
        let test : same_value v w ≡ true = (same_value-Decides v w).1 (sym same) in
        let none : place values v ≡ None = sym (numbers v) ∙ subst (λ (x : AttrValue). number_in n x ≡ None) same fresh in
        let len : length values ≡ 0 + length values = omega arith in
        rw (test, none) (ap Some len)
    joined false e = back (same_value v w) refl e

-- a text and its number are written
pub text_written : (n m : Numbering) (value : AttrValue) (text : List ℕ) (key : String Global) (number : ℕ) → value ≡ Text text → string_bytes key ≡ text
    → m.wholes ≡ n.wholes → m.yes ≡ n.yes → m.no ≡ n.no → Updates string_eq n.texts m.texts key (Some number)
    → (v : AttrValue) → number_in m v ≡ cond (same_value value v) (Some number) (number_in n v)
text_written n m value text key number is bytes wholes flag other updates v = subst (λ (x : AttrValue). number_in m v ≡ cond (same_value x v) (Some number) (number_in n v)) (sym is) (at v)
  where
    at : (v : AttrValue) → number_in m v ≡ cond (same_value (Text text) v) (Some number) (number_in n v)
    at (Text t) = subst (λ (bs : List ℕ). number_in m (Text t) ≡ cond (bytes_eq bs t) (Some number) (number_in n (Text t))) bytes (hash_map_updates_text (string_bytes key) n.texts m.texts (Some number) updates t)
    at (Whole z) = rw wholes
    at (Flag true) = flag
    at (Flag false) = other

-- a number is less than how many there are
pub place_within : (values : List AttrValue) (v : AttrValue) (o : Option ℕ) → o ≡ place values v → IfSome o (λ p. p < length values)
place_within values v None e = tt
place_within values v (Some p) e = let within = position_from-within (same_value v) 0 values p (sym e) in omega arith

-- one more value of a list is numbered
pub numbers_more : (n m : Numbering) (values : List AttrValue) (i : ℕ) (w : AttrValue) → i < length values → w ≡ get_or values i w → Numbers n (take i values) → number_in n w ≡ None
    → ((v : AttrValue) → number_in m v ≡ cond (same_value w v) (Some i) (number_in n v)) → Numbers m (take (i + 1) values)
numbers_more n m values i w within is numbers fresh written =
    let len : length (take i values) ≡ i = omega (arith, length-take i values) in
    let more : take (i + 1) values ≡ take i values ++ w ∷ [] = take_more values i w within ∙ ap (λ (x : AttrValue). take i values ++ x ∷ []) (sym is) in
    subst (Numbers m) (sym more) (numbers_push n m (take i values) w numbers fresh (λ v. subst (λ (k : ℕ). number_in m v ≡ cond (same_value w v) (Some k) (number_in n v)) (sym len) (written v)))

-- one more value that does not stand before
pub repeats_more : (values : List AttrValue) (i : ℕ) (w : AttrValue) → i < length values → w ≡ get_or values i w → place (take i values) w ≡ None
    → repeats_after (take i values) (drop i values) ≡ repeats_after (take (i + 1) values) (drop (i + 1) values)
repeats_more values i w within is fresh =
    let more : take (i + 1) values ≡ take i values ++ w ∷ [] = take_more values i w within ∙ ap (λ (x : AttrValue). take i values ++ x ∷ []) (sym is) in
    let rest : drop i values ≡ w ∷ drop (i + 1) values = drop_more values i w within ∙ ap (λ (x : AttrValue). x ∷ drop (i + 1) values) (sym is) in
    rw (rest, fresh, more) refl

-- an option that is none
pub none_from_test : {X : Type 0} (o : Option X) → is_some o ≡ false → o ≡ None
none_from_test None e = refl
none_from_test (Some x) e = absurd cc

-- what a slot leads to is the place of the text
pub place_led : (values : List AttrValue) (slots : List (Option Numbered)) (text : List ℕ) (number : ℕ) → All (IsRight values) slots → Leads slots text number → place values (Text text) ≡ Some number
place_led values slots text number right leads =
    let (held, contains, is, same) = leads in
    let here : place values (Text (text_of held.text)) ≡ Some held.number = All-contains (IsRight values) slots (Some held) right contains in
    subst (λ (t : List ℕ). place values (Text t) ≡ Some number) is (here ∙ ap Some same)
