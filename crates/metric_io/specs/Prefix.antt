-- How much of a text a sink took, and what several writes took together.
use Rattle.std.specs.Prelude.{◌≡◌, ℕ, ◌+◌, ◌<◌, List, [], ◌++◌, length, take, drop, flat_map}
use Rattle.std.specs.Prelude.{Option, refl}
use Rattle.std.specs.Io.KnownBytes.{Appends, Keeps}
use Rattle.std.proofs.Common.{sym, ap, ◌∙◌, append_assoc, get_or, take-append-drop}
use Rattle.std.proofs.lemmas.Grind.{flat_map-append}
use Rattle.std.proofs.lemmas.List.{drop_more}
use Rattle.std.proofs.KnownBytes.{Appends-nil, Appends-trans, Appends-kept}

-- # appends a prefix (profile)
-- A sink holds what it held and then some first part of a text.
pub record AppendsPrefix (old new : Option (List ℕ)) (text : List ℕ) : Type 0 where
  pub done : List ℕ
  pub rest : List ℕ
  pub whole : text ≡ done ++ rest
  pub appends : Appends old new done

-- before the first write, the whole text is left
pub AppendsPrefix-start : (a : Option (List ℕ)) (text : List ℕ)
    → (p : AppendsPrefix a a text) × (p.rest ≡ text)
AppendsPrefix-start a text =
    (record { done = []; rest = text; whole = refl; appends = Appends-nil a }, refl)

-- a write took the first n bytes of what was left
pub AppendsPrefix-more : (a b c : Option (List ℕ)) (text rest : List ℕ) (n : ℕ)
    (p : AppendsPrefix a b text)
    → p.rest ≡ rest → Appends b c (take n rest)
    → (q : AppendsPrefix a c text) × (q.rest ≡ drop n rest)
AppendsPrefix-more a b c text rest n p left taken = (
  record {
    done = p.done ++ take n rest;
    rest = drop n rest;
    whole =
        p.whole ∙ ap (λ l. p.done ++ l) (left ∙ sym (take-append-drop n rest))
        ∙ sym (append_assoc p.done (take n rest) (drop n rest));
    appends = Appends-trans a b c p.done (take n rest) p.appends taken;
  },
  refl,
)

-- what the sink then does without taking a byte
pub AppendsPrefix-kept : (a b c : Option (List ℕ)) (text : List ℕ) → AppendsPrefix a b text
    → Keeps b c → AppendsPrefix a c text
AppendsPrefix-kept a b c text p kept = record {
  done = p.done;
  rest = p.rest;
  whole = p.whole;
  appends = Appends-kept a b c p.done p.appends kept;
}

-- nothing more is written: what was written so far is a prefix of the text
pub prefix_so_far : (a b : Option (List ℕ)) (text done rest : List ℕ) → Appends a b done
    → text ≡ done ++ rest → AppendsPrefix a b text
prefix_so_far a b text done rest appends whole =
    record { done = done; rest = rest; whole = whole; appends = appends }

-- after what was written so far, a prefix of the next part is a prefix of the text
pub prefix_in_next : (a b c : Option (List ℕ)) (text done next rest : List ℕ) → Appends a b done
    → AppendsPrefix b c next
    → text ≡ done ++ (next ++ rest) → AppendsPrefix a c text
prefix_in_next a b c text done next rest appends p whole = record {
  done = done ++ p.done;
  rest = p.rest ++ rest;
  whole =
      whole ∙ ap (λ l. done ++ l) (ap (λ l. l ++ rest) p.whole ∙ append_assoc p.done p.rest rest)
      ∙ sym (append_assoc done p.done (p.rest ++ rest));
  appends = Appends-trans a b c done p.done appends p.appends;
}

-- ---- a text of parts, as a loop writes them

parts-apart : {X : Type 0} (part : X → List ℕ) (xs : List X) (i : ℕ)
    → flat_map part xs ≡ flat_map part (take i xs) ++ flat_map part (drop i xs)
parts-apart part xs i =
    ap (flat_map part) (sym (take-append-drop i xs)) ∙ flat_map-append part (take i xs) (drop i xs)

-- nothing more is written after the first i parts
pub parts_so_far : {X : Type 0} (part : X → List ℕ) (a b : Option (List ℕ)) (xs : List X) (i : ℕ)
    → Appends a b (flat_map part (take i xs))
    → AppendsPrefix a b (flat_map part xs)
parts_so_far part a b xs i appends = prefix_so_far a b _ _ _ appends (parts-apart part xs i)

-- after the first i parts, a prefix of the next one is a prefix of the text
pub parts_in_next : {X : Type 0} (part : X → List ℕ) (a b c : Option (List ℕ)) (xs : List X) (i : ℕ)
    (d : X) (next : List ℕ)
    → i < length xs → next ≡ part (get_or xs i d) → Appends a b (flat_map part (take i xs))
    → AppendsPrefix b c next
    → AppendsPrefix a c (flat_map part xs)
parts_in_next part a b c xs i d next within is appends p =
    let others = flat_map part (drop (i + 1) xs) in
    let after : flat_map part (drop i xs) ≡ next ++ others =
    ap (flat_map part) (drop_more xs i d within) ∙ ap (λ l. l ++ others) (sym is) in
    prefix_in_next a b c _ _ next others appends p
    (parts-apart part xs i ∙ ap (λ l. flat_map part (take i xs) ++ l) after)

-- what a loop cites that writes one text in pieces
pub ruleset prefixes = (AppendsPrefix-start, AppendsPrefix-more, AppendsPrefix-kept)
