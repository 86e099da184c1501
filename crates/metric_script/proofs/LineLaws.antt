-- Lines of a script: what is spelled is read, and what is read is spelled so.
use Rattle.std.proofs.Common.{◌≡◌, ℕ, ◌<◌, ◌^◌, ℤ, w64, Bool, true, false, List, [], ◌∷◌, ◌++◌, Option, Some, length, refl, sym, ap, subst, ◌∙◌, arith, lit≤}
use Rattle.std.specs.Prelude.{FitsSigned, if◌then◌else◌, codes}
use Rattle.std.specs.Fmt.{decimal, signed_decimal}
use Rattle.std.specs.List.{flat_map}
use Rattle.std.specs.Str.{bytes_eq}
use Rattle.std.proofs.lemmas.Slice.Eq.{bytes_eq-Decides}
use Rattle.metric_contents.specs.declared.attributes.OwnedAttr.{OwnedAttr}
use Rattle.metric_history.specs.declared.event.Event.{Event}
use Rattle.metric_history.specs.declared.event.Event.TheVariants.{Record, Collect, Close, Grant}
use Rattle.metric_text.specs.Reading.{◌>>=◌, after_in, word_in, number_of, number_in}
use Rattle.metric_text.specs.ReadingLaws.{IsWordEnd, after_some, after_in-some, word_in-whole, number_in-text, number_in-some, signed_in-text, signed_in-some, number_of-text, number_of-some}
use Rattle.metric_script.specs.Spelling.{attribute_text, two_numbers_text, event_text, start_text, FitsEvent}
use Rattle.metric_script.specs.Scripts.{is_passed_over}
use Rattle.metric_script.specs.Reading.{all_attributes_in, two_numbers_in, amount_in, record_in, collect_in, close_in, grant_in, event_in, start_in}
use Rattle.metric_script.proofs.AttributeLaws.{attributes_end, attributes_in-text, attributes_in-some}

two_numbers_in-text : (a b : ℕ) (rest : List ℕ) → a < 2 ^ 32 → b < 2 ^ 32 → IsWordEnd rest → two_numbers_in (two_numbers_text a b rest) ≡ Some (a, b, rest)
unfolding two_numbers_in
two_numbers_in-text a b rest fits also ends =
    rw (number_in-text (2 ^ 32) a (32 ∷ (decimal b ++ rest)) fits (lit≤ tt) refl, number_in-text (2 ^ 32) b rest also (lit≤ tt) ends) refl

-- the numbers that are read stand at the front
abbrev ReadsNumbers : List ℕ → ℕ × ℕ × List ℕ → Type 0
ReadsNumbers bytes x = (x.0 < 2 ^ 32) × (x.1 < 2 ^ 32) × (bytes ≡ two_numbers_text x.0 x.1 x.2)

some_is : {A : Type 0} (x y : A) → Some x ≡ Some y → x ≡ y
some_is x y e = cc

two_numbers_in-some : (bytes : List ℕ) (x : ℕ × ℕ × List ℕ) → two_numbers_in bytes ≡ Some x → ReadsNumbers bytes x
unfolding two_numbers_in
two_numbers_in-some bytes x e =
    after_some (number_in (2 ^ 32) bytes) _ x e (λ first read e.
    after_some (after_in (32 ∷ []) first.1) _ x e (λ space mark e.
    after_some (number_in (2 ^ 32) space) _ x e (λ second also made.
    let one = number_in-some (2 ^ 32) first.0 bytes first.1 read in
    let two = number_in-some (2 ^ 32) second.0 space second.1 also in
    subst (ReadsNumbers bytes) (some_is (first.0, second.0, second.1) x made) (
      one.0,
      two.0,
      one.1 ∙ ap (λ xs. decimal first.0 ++ xs) (after_in-some (32 ∷ []) first.1 space mark ∙ ap (λ xs. 32 ∷ xs) two.1),
    ))))

amount_in-text : (z : ℤ) (rest : List ℕ) → FitsSigned w64 z → IsWordEnd rest → amount_in (32 ∷ (signed_decimal z ++ rest)) ≡ Some (z, rest)
unfolding amount_in
amount_in-text z rest fits ends = signed_in-text z rest fits ends

amount_in-some : (bytes : List ℕ) (x : ℤ × List ℕ) → amount_in bytes ≡ Some x → FitsSigned w64 x.0 × (bytes ≡ 32 ∷ (signed_decimal x.0 ++ x.1))
unfolding amount_in
amount_in-some bytes x e =
    after_some (after_in (32 ∷ []) bytes) _ x e (λ space mark read.
    let value = signed_in-some x.0 space x.1 read in
    (value.0, after_in-some (32 ∷ []) bytes space mark ∙ ap (λ xs. 32 ∷ xs) value.1))

record_in-text : (recorder instrument : ℕ) (attrs : List OwnedAttr) (value : ℤ) → FitsEvent (Record recorder instrument attrs value)
    → record_in (two_numbers_text recorder instrument (32 ∷ (signed_decimal value ++ flat_map attribute_text attrs))) ≡ Some (Record recorder instrument attrs value)
unfolding record_in
record_in-text recorder instrument attrs value fits =
    let rest = flat_map attribute_text attrs in
    rw (
      two_numbers_in-text recorder instrument (32 ∷ (signed_decimal value ++ rest)) fits.0 fits.1 refl,
      amount_in-text value rest fits.2 (attributes_end attrs),
      attributes_in-text (length rest) attrs fits.3 (omega arith),
    ) refl

-- what is read after a keyword is the event of the whole line
abbrev ReadsAfter : List ℕ → List ℕ → Event → Type 0
ReadsAfter keyword bytes event = FitsEvent event × (keyword ++ bytes ≡ event_text event)

record_in-some : (bytes : List ℕ) (event : Event) → record_in bytes ≡ Some event → ReadsAfter (codes "record ") bytes event
unfolding record_in
record_in-some bytes event e =
    after_some (two_numbers_in bytes) _ event e (λ numbers read e.
    after_some (amount_in numbers.2) _ event e (λ amount valued e.
    after_some (all_attributes_in amount.1) _ event e (λ attrs given made.
    let front = two_numbers_in-some bytes numbers read in
    let value = amount_in-some numbers.2 amount valued in
    let back = attributes_in-some (length amount.1) amount.1 attrs given in
    let whole : bytes ≡ two_numbers_text numbers.0 numbers.1 (32 ∷ (signed_decimal amount.0 ++ flat_map attribute_text attrs)) =
    front.2 ∙ ap (two_numbers_text numbers.0 numbers.1) (value.1 ∙ ap (λ xs. 32 ∷ (signed_decimal amount.0 ++ xs)) back.1) in
    subst (ReadsAfter (codes "record ") bytes) (some_is (Record numbers.0 numbers.1 attrs amount.0) event made)
    ((front.0, front.1, value.0, back.0), ap (λ xs. codes "record " ++ xs) whole))))

collect_in-text : (reader instrument now : ℕ) → FitsEvent (Collect reader instrument now)
    → collect_in (two_numbers_text reader instrument (32 ∷ decimal now)) ≡ Some (Collect reader instrument now)
unfolding collect_in
collect_in-text reader instrument now fits =
    rw (two_numbers_in-text reader instrument (32 ∷ decimal now) fits.0 fits.1 refl, number_of-text (2 ^ 64) now fits.2 (lit≤ tt)) refl

collect_in-some : (bytes : List ℕ) (event : Event) → collect_in bytes ≡ Some event → ReadsAfter (codes "collect ") bytes event
unfolding collect_in
collect_in-some bytes event e =
    after_some (two_numbers_in bytes) _ event e (λ numbers read e.
    after_some (after_in (32 ∷ []) numbers.2) _ event e (λ space mark e.
    after_some (number_of (2 ^ 64) space) _ event e (λ now timed made.
    let front = two_numbers_in-some bytes numbers read in
    let back = number_of-some (2 ^ 64) now space timed in
    let whole : bytes ≡ two_numbers_text numbers.0 numbers.1 (32 ∷ decimal now) =
    front.2 ∙ ap (two_numbers_text numbers.0 numbers.1) (after_in-some (32 ∷ []) numbers.2 space mark ∙ ap (λ xs. 32 ∷ xs) back.1) in
    subst (ReadsAfter (codes "collect ") bytes) (some_is (Collect numbers.0 numbers.1 now) event made)
    ((front.0, front.1, back.0), ap (λ xs. codes "collect " ++ xs) whole))))

close_in-text : (instrument : ℕ) → instrument < 2 ^ 32 → close_in (decimal instrument) ≡ Some (Close instrument)
unfolding close_in
close_in-text instrument fits = rw (number_of-text (2 ^ 32) instrument fits (lit≤ tt)) refl

close_in-some : (bytes : List ℕ) (event : Event) → close_in bytes ≡ Some event → ReadsAfter (codes "close ") bytes event
unfolding close_in
close_in-some bytes event e =
    after_some (number_of (2 ^ 32) bytes) _ event e (λ instrument read made.
    let number = number_of-some (2 ^ 32) instrument bytes read in
    subst (ReadsAfter (codes "close ") bytes) (some_is (Close instrument) event made)
    (number.0, ap (λ xs. codes "close " ++ xs) number.1))

grant_in-text : (recorder instrument amount : ℕ) → FitsEvent (Grant recorder instrument amount)
    → grant_in (two_numbers_text recorder instrument (32 ∷ decimal amount)) ≡ Some (Grant recorder instrument amount)
unfolding grant_in
grant_in-text recorder instrument amount fits =
    rw (two_numbers_in-text recorder instrument (32 ∷ decimal amount) fits.0 fits.1 refl, number_of-text (2 ^ 64) amount fits.2 (lit≤ tt)) refl

grant_in-some : (bytes : List ℕ) (event : Event) → grant_in bytes ≡ Some event → ReadsAfter (codes "grant ") bytes event
unfolding grant_in
grant_in-some bytes event e =
    after_some (two_numbers_in bytes) _ event e (λ numbers read e.
    after_some (after_in (32 ∷ []) numbers.2) _ event e (λ space mark e.
    after_some (number_of (2 ^ 64) space) _ event e (λ amount given made.
    let front = two_numbers_in-some bytes numbers read in
    let back = number_of-some (2 ^ 64) amount space given in
    let whole : bytes ≡ two_numbers_text numbers.0 numbers.1 (32 ∷ decimal amount) =
    front.2 ∙ ap (two_numbers_text numbers.0 numbers.1) (after_in-some (32 ∷ []) numbers.2 space mark ∙ ap (λ xs. 32 ∷ xs) back.1) in
    subst (ReadsAfter (codes "grant ") bytes) (some_is (Grant numbers.0 numbers.1 amount) event made)
    ((front.0, front.1, back.0), ap (λ xs. codes "grant " ++ xs) whole))))

-- the line of an event is read
pub event_in-text : (event : Event) → FitsEvent event → event_in (event_text event) ≡ Some event
unfolding event_in
event_in-text (Record recorder instrument attrs value) fits = record_in-text recorder instrument attrs value fits
event_in-text (Collect reader instrument now) fits = collect_in-text reader instrument now fits
event_in-text (Close instrument) fits = close_in-text instrument fits
event_in-text (Grant recorder instrument amount) fits = grant_in-text recorder instrument amount fits

by_test : {A P : Type 0} (test : Bool) (x y r : A) → (if test then x else y) ≡ r → (test ≡ true → x ≡ r → P) → (y ≡ r → P) → P
by_test true x y r e yes_case no_case = yes_case refl e
by_test false x y r e yes_case no_case = no_case e

-- a line that its first word tells how to read
worded : (line word : List ℕ) (read : List ℕ → Option Event) (event : Event) → bytes_eq (word_in line).0 word ≡ true → (after_in (32 ∷ []) (word_in line).1 >>= read) ≡ Some event
    → ((rest : List ℕ) → read rest ≡ Some event → FitsEvent event × (word ++ 32 ∷ rest ≡ event_text event)) → FitsEvent event × (line ≡ event_text event)
worded line word read event test e spelled =
    after_some (after_in (32 ∷ []) (word_in line).1) _ event e (λ rest mark found.
    let same : (word_in line).0 ≡ word = (bytes_eq-Decides (word_in line).0 word).0 test in
    let told = spelled rest found in
    (told.0, sym (word_in-whole line) ∙ ap (λ xs. xs ++ (word_in line).1) same ∙ ap (λ xs. word ++ xs) (after_in-some (32 ∷ []) (word_in line).1 rest mark) ∙ told.1))

-- a line that is read is that of the event
pub event_in-some : (line : List ℕ) (event : Event) → event_in line ≡ Some event → FitsEvent event × (line ≡ event_text event)
unfolding event_in
event_in-some line event e =
    by_test (bytes_eq (word_in line).0 (codes "record")) _ _ (Some event) e
    (λ test found. worded line (codes "record") record_in event test found (λ rest read. record_in-some rest event read))
    (λ e. by_test (bytes_eq (word_in line).0 (codes "collect")) _ _ (Some event) e
    (λ test found. worded line (codes "collect") collect_in event test found (λ rest read. collect_in-some rest event read))
    (λ e. by_test (bytes_eq (word_in line).0 (codes "close")) _ _ (Some event) e
    (λ test found. worded line (codes "close") close_in event test found (λ rest read. close_in-some rest event read))
    (λ e. by_test (bytes_eq (word_in line).0 (codes "grant")) _ _ (Some event) e
    (λ test found. worded line (codes "grant") grant_in event test found (λ rest read. grant_in-some rest event read))
    (λ e. absurd cc))))

-- the line of a start is read
pub start_in-text : (start : ℕ) → start < 2 ^ 64 → start_in (start_text start) ≡ Some start
unfolding start_in
start_in-text start fits = number_of-text (2 ^ 64) start fits (lit≤ tt)

pub start_in-some : (line : List ℕ) (start : ℕ) → start_in line ≡ Some start → (start < 2 ^ 64) × (line ≡ start_text start)
unfolding start_in
start_in-some line start e =
    after_some (after_in (codes "start ") line) _ start e (λ word mark read.
    let number = number_of-some (2 ^ 64) start word read in
    (number.0, after_in-some (codes "start ") line word mark ∙ ap (λ xs. codes "start " ++ xs) number.1))

-- no event's line is passed over, and no start's
pub event_is_read : (event : Event) → is_passed_over (event_text event) ≡ false
event_is_read (Record recorder instrument attrs value) = refl
event_is_read (Collect reader instrument now) = refl
event_is_read (Close instrument) = refl
event_is_read (Grant recorder instrument amount) = refl

pub start_is_read : (start : ℕ) → is_passed_over (start_text start) ≡ false
start_is_read start = refl
