-- A text that no other one is stands at its first place alone.
use Rattle.std.proofs.Common.{◌≡◌, ◌≢◌, ◌∙◌, ◌+◌, ◌<◌, ℕ, zero, suc, Bool, true, false, cond, not, ◌||◌, List, [], ◌∷◌, ◌++◌, codes, Option, Some, None, Result, Ok, Err, ap, arith, below_more, get_or, length, refl, subst, sym}
use Rattle.std.specs.Prelude.{◌==◌, IfOk, slice_get}
use Rattle.std.specs.BTreeMap.{get_by_text}
use Rattle.std.specs.List.{enumerate_from, position_from}
use Rattle.std.specs.Option.{option_map, option_map_or}
use Rattle.std.specs.Str.{bytes_eq}
use Rattle.std.proofs.lemmas.Bool.{eqb-true, true≢false}
use Rattle.std.proofs.lemmas.Bool.Decides.{Decides-eqb}
use Rattle.std.proofs.lemmas.Iterator.Adapters.{position_from-zero}
use Rattle.std.proofs.lemmas.List.{length-map}
use Rattle.std.proofs.lemmas.List.FromFn.{get_or-enumerate_from, length-enumerate_from}
use Rattle.std.proofs.lemmas.List.Quantifiers.{position-Some}
use Rattle.std.proofs.lemmas.Option.{get_or_from_slice_get, slice_get-get_or, slice_get-map, slice_get_within, same_Some}
use Rattle.std.proofs.lemmas.Slice.Eq.{bytes_eq-Decides}
use Rattle.metric_diff.specs.Changes.{repeated}
use Rattle.metric_diff.specs.Known.{place_of}
use Rattle.metric_catalogue.specs.Sound.{IsSoundInstrument}
use Rattle.metric_contents.specs.Encoding.{Given}
use Rattle.metric_contents.specs.declared.contents.Contents.{Contents}
use Rattle.metric_contents.specs.declared.contents.Instrument.{Instrument}
use Rattle.metric_meaning.specs.Made.{attributes_of, shape_of, shape_with}
use Rattle.metric_meaning.specs.Meanings.{AskedKey, Shape, asked_keys}
use Rattle.metric_meaning.proofs.MadeLaws.{attributes_are_keys}
use Rattle.metric_diff.specs.declared.asked.Asked.{Asked}
use Rattle.metric_diff.specs.declared.programs.Found.{Found}
use Rattle.metric_diff.specs.declared.programs.Found.TheVariants.{At, Differs}
use Rattle.metric_diff.specs.declared.programs.Programs.{Programs}
use Rattle.metric_diff.specs.declared.programs.Programs.TheVariants.{GoOn, GoOnButInC, OtherInstrument, NoRecorder}
use Rattle.metric_diff.specs.Programs.{AnswersCompared, AnswersFound, AnswersWalk, GoBefore, Goes, GoesTo, IsAsked, IsOnly, MeansAt, Moves, StayBefore, asked_text, asked_texts, meter_of, only_by, texts_again, unless}

eqb_same : (k : ℕ) → (k == k) ≡ true
eqb_same k = (Decides-eqb k k).1 refl

-- a test passes of nothing where no place is found
never : {X : Type 0} (test : X → Bool) (i : ℕ) (xs : List X) → position_from test i xs ≡ None → (k : ℕ) (x : X) → slice_get xs k ≡ Some x → test x ≡ false
never test i [] none k x is = absurd cc
never {X} test i (y ∷ xs) none k x is = by (test y) refl (never test (i + 1) xs) none k is
  where
    by : (b : Bool) → test y ≡ b → (position_from test (i + 1) xs ≡ None → (k : ℕ) (x : X) → slice_get xs k ≡ Some x → test x ≡ false)
        → cond b (Some i) (position_from test (i + 1) xs) ≡ None → (k : ℕ) → slice_get (y ∷ xs) k ≡ Some x → test x ≡ false
    by true passes rest e k is = absurd cc
    by false fails rest e zero is = ap test (sym (same_Some y x is)) ∙ fails
    by false fails rest e (suc k) is = rest e k x is

own_text : (text : List ℕ) → bytes_eq text text ≡ true
own_text text = (bytes_eq-Decides text text).1 refl

-- a text that is there has a place
pub not_none : (texts : List (List ℕ)) (text : List ℕ) (k : ℕ) → slice_get texts k ≡ Some text → place_of texts text ≡ None → ⊥
not_none texts text k is none = true≢false (sym (own_text text) ∙ never (λ other. bytes_eq text other) 0 texts none k text is)

-- the text of a place
pub at_place : (texts : List (List ℕ)) (text : List ℕ) (place : ℕ) → place_of texts text ≡ Some place → slice_get texts place ≡ Some text
at_place texts text place found =
    let parts = position-Some (λ other. bytes_eq text other) texts place text (position_from-zero (λ other. bytes_eq text other) texts ∙ found) in
    slice_get-get_or texts place text parts.0 ∙ ap Some (sym ((bytes_eq-Decides text (get_or texts place text)).0 parts.1))

-- what stands again at a place
again_at : (texts : List (List ℕ)) (k : ℕ) (own : List ℕ) → slice_get texts k ≡ Some own → slice_get (texts_again texts) k ≡ Some (repeated (place_of texts) (k, own))
again_at texts k own is =
    let within : k < length texts = slice_get_within texts k own is in
    let counted : 0 + k ≡ k = omega arith in
    let long : k < length (enumerate_from 0 texts) = subst (λ (n : ℕ). k < n) (sym (length-enumerate_from 0 texts)) within in
    let at : slice_get (enumerate_from 0 texts) k ≡ Some (k, own) =
    slice_get-get_or (enumerate_from 0 texts) k (0, own) long
    ∙ ap Some (get_or-enumerate_from 0 texts k (0, own) within ∙ ap (λ (n : ℕ). (n, get_or texts k own)) counted
    ∙ ap (λ (t : List ℕ). (k, t)) (get_or_from_slice_get texts k own own is)) in
    slice_get-map (repeated (place_of texts)) (enumerate_from 0 texts) k ∙ ap (option_map (repeated (place_of texts))) at

-- no text stands again where one stands at two places
pub first_only : (texts : List (List ℕ)) (text : List ℕ) (place : ℕ) → place_of (texts_again texts) text ≡ None → place_of texts text ≡ Some place → IsOnly texts text place
first_only texts text place none found = record { at = at_place texts text place found; only = only }
  where
    by : (other : ℕ) (b : Bool) → (place == other) ≡ b → slice_get (texts_again texts) other ≡ Some (cond b [] text) → other ≡ place
    by other true same is = sym (eqb-true place other same)
    by other false differs is = absurd (not_none (texts_again texts) text other is none)

    only : (other : ℕ) → slice_get texts other ≡ Some text → other ≡ place
    only other is =
        by other (place == other) refl
        (again_at texts other text is ∙ ap (λ (o : Option ℕ). Some (cond (option_map_or (λ p. p == other) o false) [] text)) found)

-- one that stands again stands at two places
pub not_only : (texts : List (List ℕ)) (text : List ℕ) (k : ℕ) → text ≢ [] → place_of (texts_again texts) text ≡ Some k → (place : ℕ) → IsOnly texts text place → ⊥
not_only texts text k some again place only = by (place_of texts text) refl
  where
    there : slice_get (texts_again texts) k ≡ Some text
    there = at_place (texts_again texts) text k again

    own : Option (List ℕ) → List ℕ
    own None = []
    own (Some one) = one

    within : k < length texts
    within = subst (λ (n : ℕ). k < n) (length-enumerate_from 0 texts) (subst (λ (n : ℕ). k < n) (length-map (enumerate_from 0 texts) (repeated (place_of texts))) (slice_get_within (texts_again texts) k text there))

    one : List ℕ
    one = get_or texts k text

    one_is : slice_get texts k ≡ Some one
    one_is = slice_get-get_or texts k text within

    repeats : repeated (place_of texts) (k, one) ≡ text
    repeats = same_Some (repeated (place_of texts) (k, one)) text (sym (again_at texts k one one_is) ∙ there)

    by : (first : Option ℕ) → place_of texts text ≡ first → ⊥
    by None none = not_none texts text place only.at none
    by (Some first) found = with (option_map_or (λ p. p == k) (place_of texts one) false) refl repeats
      where
        with : (b : Bool) → option_map_or (λ p. p == k) (place_of texts one) false ≡ b → cond b [] one ≡ text → ⊥
        with true is same = some (sym same)
        with false is same =
            let first_is : first ≡ place = only.only first (at_place texts text first found) in
            let k_is : k ≡ place = only.only k (one_is ∙ ap Some same) in
            let found_one : place_of texts one ≡ Some k = ap (place_of texts) same ∙ found ∙ ap Some (first_is ∙ sym k_is) in
            true≢false (sym (eqb_same k) ∙ sym (ap (λ (o : Option ℕ). option_map_or (λ p. p == k) o false) found_one) ∙ is)

-- what a program is compared by is the old instrument
pub shape_is : (meter own_meter : List ℕ) (own : Instrument) (meters : ℕ) (given : List Given) (shape : Shape) → IsSoundInstrument meters own
    → shape ≡ shape_with meter own (asked_keys given) → given ≡ attributes_of own.keys → meter ≡ own_meter → shape ≡ shape_of own_meter own
shape_is meter own_meter own meters given shape sound is all same =
    is ∙ ap (λ (keys : List AskedKey). shape_with meter own keys) (ap asked_keys all ∙ attributes_are_keys meters own sound)
    ∙ ap (λ (m : List ℕ). shape_of m own) same

-- what follows for what was made
pub on_made : {X E : Type 0} (r : Result X E) (P Q : X → Type 0) → ((x : X) → P x → Q x) → IfOk r P → IfOk r Q
on_made (Ok x) P Q next p = next x p
on_made (Err e) P Q next p = p

no_blank : (name meter : List ℕ) → name ++ (codes " " ++ meter) ≢ []
no_blank [] meter e = absurd cc
no_blank (c ∷ name) meter e = absurd cc

-- the place that is found is the only one
pub only_is : (texts : List (List ℕ)) (asked : Asked) (text : List ℕ) (place : ℕ) → IsAsked texts asked → only_by asked text ≡ Some place → IsOnly texts text place
only_is texts asked text place is found = by (get_by_text asked.again text) refl found
  where
    by : (again : Option ℕ) → get_by_text asked.again text ≡ again → unless again (get_by_text asked.places text) ≡ Some place → IsOnly texts text place
    by None none e = first_only texts text place (sym (is.again text) ∙ none) (sym (is.first text) ∙ e)
    by (Some k) some e = absurd cc

-- where none is found, there is no only one
pub none_is : (old new : Contents) (own : Instrument) (asked : Asked) → IsAsked (asked_texts new) asked → only_by asked (asked_text old own) ≡ None → Goes old new own → ⊥
none_is old new own asked is none goes = by (get_by_text asked.again text) refl none
  where
    text : List ℕ
    text = asked_text old own

    by : (again : Option ℕ) → get_by_text asked.again text ≡ again → unless again (get_by_text asked.places text) ≡ None → ⊥
    by None e lost = not_none (asked_texts new) text goes.place goes.goes.found.at (sym (is.first text) ∙ lost)
    by (Some k) e lost = not_only (asked_texts new) text k (no_blank own.name (meter_of old own)) (sym (is.again text) ∙ e) goes.place goes.goes.found

-- what is found at the only place is what a program finds
pub found_is : (old new : Contents) (own : Instrument) (place : ℕ) → IsOnly (asked_texts new) (asked_text old own) place
    → (found : Found) → AnswersCompared old new own place found → AnswersFound old new own found
found_is old new own place only (At at) h =
    subst (λ (k : ℕ). GoesTo old new own k) (sym h.0) (record { found = only; means = h.1 })
found_is old new own place only (Differs words) h = λ goes.
    h (subst (λ (k : ℕ). MeansAt old new own k) (only.only goes.place goes.goes.found.at) goes.goes.means)

-- Programs go on with the first instruments, which have their old numbers, or not.
pub record Walked (old new : Contents) (is_moved : Bool) (number : ℕ) : Type 0 where
  pub go : GoBefore old new number
  pub stay : is_moved ≡ false → StayBefore old new number
  pub move : is_moved ≡ true → Moves old new

-- one instrument more
pub walked_more : (old new : Contents) (is_moved next : Bool) (number place : ℕ) (own : Instrument) → Walked old new is_moved number
    → slice_get old.instruments number ≡ Some own → GoesTo old new own place → next ≡ (is_moved || not (place == number)) → Walked old new next (number + 1)
walked_more old new is_moved next number place own before is goes e = record { go = go; stay = stay is_moved (place == number) refl refl; move = move is_moved (place == number) refl refl }
  where
    go : GoBefore old new (number + 1)
    go k other low at =
        below_more (λ (k : ℕ). (other : Instrument) → slice_get old.instruments k ≡ Some other → Goes old new other) number
        (λ k low other at. before.go k other low at)
        (λ other at. subst (λ (i : Instrument). Goes old new i) (same_Some own other (sym is ∙ at)) (record { place = place; goes = goes })) k low other at

    stay : (moved same : Bool) → is_moved ≡ moved → (place == number) ≡ same → next ≡ false → StayBefore old new (number + 1)
    stay true same m p = λ f. absurd cc
    stay false false m p = λ f. absurd cc
    stay false true m p = λ f k other low at.
        below_more (λ (k : ℕ). (other : Instrument) → slice_get old.instruments k ≡ Some other → GoesTo old new other k) number
        (λ k low other at. before.stay m k other low at)
        (λ other at. subst (λ (i : Instrument). GoesTo old new i number) (same_Some own other (sym is ∙ at))
        (subst (λ (k : ℕ). GoesTo old new own k) (eqb-true place number p) goes)) k low other at

    move : (moved same : Bool) → is_moved ≡ moved → (place == number) ≡ same → next ≡ true → Moves old new
    move true same m p t = before.move m
    move false true m p t = absurd cc
    move false false m p t = record { number = number; own = own; is = is; place = place; goes = goes; other = λ same. true≢false (sym (eqb_same number) ∙ ap (λ (k : ℕ). k == number) (sym same) ∙ p) }

-- the end of the walk
pub walk_ends : (old new : Contents) (is_moved : Bool) (number : ℕ) (result : Programs) → Walked old new is_moved number → number ≡ length old.instruments
    → result ≡ cond is_moved GoOnButInC GoOn → AnswersWalk old new result
walk_ends old new is_moved number result walked all is = subst (λ (programs : Programs). AnswersWalk old new programs) (sym is) (by is_moved refl)
  where
    by : (moved : Bool) → is_moved ≡ moved → AnswersWalk old new (cond moved GoOnButInC GoOn)
    by true m = (subst (λ (k : ℕ). GoBefore old new k) all walked.go, walked.move m)
    by false m = subst (λ (k : ℕ). StayBefore old new k) all (walked.stay m)

-- programs go on with each instrument where the walk stops at none
pub all_go : (old new : Contents) (programs : Programs) → AnswersWalk old new programs → ((number : ℕ) (words : List ℕ) → programs ≢ OtherInstrument number words)
    → GoBefore old new (length old.instruments)
all_go old new GoOn walk none = λ k own low is. record { place = k; goes = walk k own low is }
all_go old new GoOnButInC walk none = walk.0
all_go old new (OtherInstrument number words) walk none = absurd (none number words refl)
all_go old new (NoRecorder number) walk none = absurd walk
