-- What is left of attributes once a key has taken its entry.
use Rattle.std.proofs.Common.{◌≡◌, ◌<◌, ℕ, ◌-◌, Bool, true, List, [], ◌∷◌, ◌++◌, length, take, drop, replicate, min, Option, Some, None, Ok, Result, ◌+◌, refl, sym, ap, subst, inl, ◌∙◌, arith}
use Rattle.std.specs.Prelude.{IsSomeAnd, slice_get}
use Rattle.std.proofs.lemmas.List.{at_drop_all, length-append, length-replicate, length-take}
use Rattle.metric_base.specs.Steps.{◌>>=◌, require, require_some}
use Rattle.metric_combinations.specs.Combinations.{permits}
use Rattle.metric_contents.specs.declared.contents.Instrument.{Instrument}
use Rattle.metric_contents.specs.declared.refusal.Refusal.{Refusal}
use Rattle.metric_contents.specs.declared.refusal.Refusal.TheVariants.{Combination, UnknownInstrument}
use Rattle.std.specs.Option.{option_and_then, option_map}
use Rattle.metric_contents.specs.declared.contents.Key.{Key}
use Rattle.metric_contents.specs.Encoding.{Given, allowed_set, encode_of, permitted, set_of}
use Rattle.metric_contents.specs.InOrder.{AreKeysApart, entries_after, set_in_order}
use Rattle.metric_contents.proofs.InOrderLaws.{in_order_is_set}
use Rattle.wormweekly_c.specs.Attributes.{attributes_from}
use Rattle.wormweekly_c.specs.InOrder.{IsBefore, TakesEntry}
use Rattle.wormweekly_c.specs.Prepared.{IsEncoded, IsPrepared}
use Rattle.metric_plan.specs.Plans.{PlanValue}
use Rattle.wormweekly_c.specs.declared.attributes.Attribute.{Attribute}

-- all attributes have these entries, and after them those of the keys and attributes that are left
abbrev pub AreEntries : List Key → List ℕ → List Key → List Given → List Given → Type 0
AreEntries keys entries left attrs all = entries_after [] keys all ≡ entries_after entries left attrs

-- what holds of them holds of them in other words
pub each_some : {T : Type 0} {P Q : T → Type 0} (o : Option T) → ((x : T) → P x → Q x) → IsSomeAnd o P → IsSomeAnd o Q
each_some None more some = absurd some
each_some (Some x) more some = more x some

-- one key more has taken its entry
pub taken_more : (keys left : List Key) (key : Key) (entries : List ℕ) (entry : ℕ) (given all_given : List Attribute) (others : List Attribute) (all_texts texts rest : List ℕ)
    → TakesEntry key texts given entry others rest
    → ((attrs : List Given) → attributes_from given texts ≡ Some attrs → IsSomeAnd (attributes_from all_given all_texts) (AreEntries keys entries (key ∷ left) attrs))
    → (attrs : List Given) → attributes_from others rest ≡ Some attrs → IsSomeAnd (attributes_from all_given all_texts) (AreEntries keys (entries ++ entry ∷ []) left attrs)
taken_more keys left key entries entry given all_given others all_texts texts rest takes so_far attrs is = by (attributes_from given texts) refl (takes.all attrs is)
  where
    by : (o : Option (List Given)) → attributes_from given texts ≡ o → IsSomeAnd o (IsBefore key entry attrs) → IsSomeAnd (attributes_from all_given all_texts) (AreEntries keys (entries ++ entry ∷ []) left attrs)
    by None read taken = absurd taken
    by (Some before) read taken =
        let next : entries_after entries (key ∷ left) before ≡ entries_after (entries ++ entry ∷ []) left attrs =
        ap (λ (o : Option (ℕ × List Given)). option_and_then (λ t. entries_after (entries ++ t.0 ∷ []) left t.1) o) taken in
        each_some (attributes_from all_given all_texts) (λ all first. first ∙ next) (so_far before read)

-- as many entries as there are places before those that are left
pub entries_before : (set : List ℕ) (place : ℕ) → place < 8 → set ≡ take place set ++ replicate (8 - place) 0 → (length set ≡ 8) × (length (take place set) ≡ place)
entries_before set place within e =
    let zeros : List ℕ = replicate (8 - place) 0 in
    let all : length set ≡ length (take place set) + length zeros = ap length e ∙ length-append (take place set) zeros in
    let left : length zeros ≡ 8 - place = length-replicate {A = ℕ} (8 - place) 0 in
    let before : length (take place set) ≡ min place (length set) = length-take place set in
    (omega (arith, all, left, before), omega (arith, all, left, before))

-- each key has taken its entry, and nothing is left
pub all_taken : (keys : List Key) (set : List ℕ) (place : ℕ) (given left : List Attribute) (texts rest : List ℕ) → AreKeysApart keys → length keys ≡ place
    → set ≡ take place set ++ replicate (8 - place) 0
    → ((attrs : List Given) → attributes_from left rest ≡ Some attrs → IsSomeAnd (attributes_from given texts) (AreEntries keys (take place set) (drop place keys) attrs))
    → length left ≡ 0 → IsSomeAnd (attributes_from given texts) (λ attrs. set_of keys attrs ≡ Ok set)
unfolding set_in_order
all_taken keys set place given (own ∷ others) texts rest apart end is so_far none = absurd (omega arith)
all_taken keys set place given [] texts rest apart end is so_far none =
    each_some (attributes_from given texts)
    (λ all first. in_order_is_set keys all set apart
    (ap (option_map (λ (entries : List ℕ). entries ++ replicate (8 - length keys) 0))
    (first ∙ at_drop_all (λ (ks : List Key). entries_after (take place set) ks []) keys place (omega arith))
    ∙ ap (λ (n : ℕ). Some (take place set ++ replicate (8 - n) 0)) end ∙ ap (λ (s : List ℕ). Some s) (sym is)))
    (so_far [] refl)

-- a set key that the instrument allows
pub encoded : (instruments : List Instrument) (number : ℕ) (own : Instrument) (attrs : List Given) (set : List ℕ) → slice_get instruments number ≡ Some own → set_of own.keys attrs ≡ Ok set
    → permits own.allowed set ≡ true → encode_of instruments number attrs ≡ Ok set
unfolding encode_of allowed_set
encoded instruments number own attrs set found is permits_it =
    ap (λ (o : Option Instrument). require_some o UnknownInstrument >>= (λ (i : Instrument). allowed_set i attrs)) found
    ∙ ap (λ (r : Result (List ℕ) Refusal). r >>= (λ (s : List ℕ). permitted own.allowed s)) is
    ∙ ap (λ (b : Bool). require b Combination >>= (λ (u : Unit {0}). Ok set)) permits_it

-- a set key that was found so is the one that is to be written
pub prepared_in_order : (got plan : PlanValue) (instrument count : ℕ) (read : Option (List Given)) (set : List ℕ) → got ≡ plan
    → IsSomeAnd read (λ attrs. encode_of got.facts.contents.instruments instrument attrs ≡ Ok set) → IsPrepared plan instrument count read 0 set
prepared_in_order got plan instrument count None set same found = absurd found
prepared_in_order got plan instrument count (Some attrs) set same found =
    let is : encode_of plan.facts.contents.instruments instrument attrs ≡ Ok set =
    ap (λ (p : PlanValue). encode_of p.facts.contents.instruments instrument attrs) (sym same) ∙ found in
    inl (subst (λ (r : Result (List ℕ) Refusal). IsEncoded r 0 set) (sym is) (refl, refl))
