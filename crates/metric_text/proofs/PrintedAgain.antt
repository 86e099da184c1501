-- Numbers that are parsed and printed again.
use Rattle.std.proofs.Common.{pos, negsuc, true, false, Bor, MatchResult, to_z, of_z, ◌≡◌, ◌<◌, ◌≤◌, ◌^◌, ℕ, ℤ, w64, List, Some, None, Result, Ok, Err, refl, sym, ap, subst, ◌∙◌, arith, lit≤}
use Rattle.std.specs.Prelude.{IsUtf8, FitsSigned}
use Rattle.std.specs.Fmt.{decimal, signed_decimal}
use Rattle.std.specs.Str.Parse.{ParsesUnsigned, ParsesSigned}
use Rattle.std.specs.Result.{OkIff, result_ok}
use Rattle.std.specs.Str.{bytes_eq}
use Rattle.std.proofs.lemmas.Int.{to_z-of_z}
use Rattle.std.proofs.lemmas.Slice.Eq.{bytes_eq-Decides}
use Rattle.std.proofs.lemmas.Fmt.{IsAscii-decimal, IsAscii-signed, parse-decimal, parse-signed_decimal}
use Rattle.std.proofs.lemmas.Str.{IsUtf8-from_ascii}
use Rattle.metric_text.specs.Reading.{number_of, signed_of}
use Rattle.metric_text.specs.ReadingLaws.{none_from, number_of-text, number_of-some, signed_of-text, signed_of-some}
use Rattle.std.specs.Int.Signed.{mag}

mag-small : (z : ℤ) → FitsSigned w64 z → mag z < 2 ^ 63
mag-small (pos n) fits = omega (arith, fits.sfits)
mag-small (negsuc n) fits = omega (arith, fits.sfits)

-- what is no text is no number
pub number_of-not_utf8 : (word : List ℕ) → (IsUtf8 word → ⊥) → number_of (2 ^ 64) word ≡ None
number_of-not_utf8 word bad =
    none_from (number_of (2 ^ 64) word) (λ n e.
    let spelled = number_of-some (2 ^ 64) n word e in
    bad (subst IsUtf8 (sym spelled.1) (IsUtf8-from_ascii (decimal n) (IsAscii-decimal n spelled.0))))

-- what is not parsed is no number
pub number_of-not_parsed : {E : Type 0} (word : List ℕ) (r : Result ℕ E) (fault : E) → ParsesUnsigned 64 10 word r → r ≡ Err fault → number_of (2 ^ 64) word ≡ None
number_of-not_parsed word r fault parsed is =
    none_from (number_of (2 ^ 64) word) (λ n e.
    let spelled = number_of-some (2 ^ 64) n word e in
    let read = parse-decimal 64 n word r spelled.0 spelled.0 spelled.1 parsed in cc)

-- what is printed otherwise is no number
pub number_of-other : {E : Type 0} (word : List ℕ) (r : Result ℕ E) (m : ℕ) → ParsesUnsigned 64 10 word r → r ≡ Ok m → (decimal m ≡ word → ⊥) → number_of (2 ^ 64) word ≡ None
number_of-other word r m parsed is other =
    none_from (number_of (2 ^ 64) word) (λ n e.
    let spelled = number_of-some (2 ^ 64) n word e in
    let read = parse-decimal 64 n word r spelled.0 spelled.0 spelled.1 parsed in
    let same : m ≡ n = cc in
    other (ap decimal same ∙ sym spelled.1))

-- what is printed so is the number
pub number_of-same : (limit n : ℕ) (word : List ℕ) → n < limit → limit ≤ 2 ^ 64 → decimal n ≡ word → number_of limit word ≡ Some n
number_of-same limit n word below small same = subst (λ xs. number_of limit xs ≡ Some n) same (number_of-text limit n below small)

-- a smaller limit
pub number_of-below : (limit n : ℕ) (word : List ℕ) → number_of (2 ^ 64) word ≡ Some n → n < limit → limit ≤ 2 ^ 64 → number_of limit word ≡ Some n
number_of-below limit n word e below small =
    let spelled = number_of-some (2 ^ 64) n word e in
    number_of-same limit n word below small (sym spelled.1)

pub number_of-above : (limit n : ℕ) (word : List ℕ) → number_of (2 ^ 64) word ≡ Some n → (n < limit → ⊥) → limit ≤ 2 ^ 64 → number_of limit word ≡ None
number_of-above limit n word e above small =
    none_from (number_of limit word) (λ m found.
    let spelled = number_of-some limit m word found in
    let wide = number_of-same (2 ^ 64) m word (omega (arith, spelled.0)) (lit≤ tt) (sym spelled.1) in
    let same : m ≡ n = cc in
    above (subst (λ k. k < limit) same spelled.0))

pub number_of-none : (limit : ℕ) (word : List ℕ) → number_of (2 ^ 64) word ≡ None → limit ≤ 2 ^ 64 → number_of limit word ≡ None
number_of-none limit word e small =
    none_from (number_of limit word) (λ m found.
    let spelled = number_of-some limit m word found in
    let wide = number_of-same (2 ^ 64) m word (omega (arith, spelled.0)) (lit≤ tt) (sym spelled.1) in
    cc)

pub signed_of-not_utf8 : (word : List ℕ) → (IsUtf8 word → ⊥) → signed_of word ≡ None
signed_of-not_utf8 word bad =
    none_from (signed_of word) (λ z e.
    let spelled = signed_of-some z word e in
    bad (subst IsUtf8 (sym spelled.1) (IsUtf8-from_ascii (signed_decimal z) (IsAscii-signed z (mag-small z spelled.0)))))

pub signed_of-not_parsed : {E : Type 0} (word : List ℕ) (r : Result ℤ E) (fault : E) → ParsesSigned w64 10 word r → r ≡ Err fault → signed_of word ≡ None
signed_of-not_parsed word r fault parsed is =
    none_from (signed_of word) (λ z e.
    let spelled = signed_of-some z word e in
    let read = parse-signed_decimal w64 z word r spelled.0 (mag-small z spelled.0) spelled.1 parsed in cc)

pub signed_of-other : {E : Type 0} (word : List ℕ) (r : Result ℤ E) (y : ℤ) → ParsesSigned w64 10 word r → r ≡ Ok y → (signed_decimal y ≡ word → ⊥) → signed_of word ≡ None
signed_of-other word r y parsed is other =
    none_from (signed_of word) (λ z e.
    let spelled = signed_of-some z word e in
    let read = parse-signed_decimal w64 z word r spelled.0 (mag-small z spelled.0) spelled.1 parsed in
    let same : y ≡ z = cc in
    other (ap signed_decimal same ∙ sym spelled.1))

pub signed_of-same : (z : ℤ) (word : List ℕ) → FitsSigned w64 z → signed_decimal z ≡ word → signed_of word ≡ Some z
signed_of-same z word fits same = subst (λ xs. signed_of xs ≡ Some z) same (signed_of-text z fits)

pub parsed_fits : {E : Type 0} (word : List ℕ) (r : Result ℤ E) (y : ℤ) → ParsesSigned w64 10 word r → r ≡ Ok y → FitsSigned w64 y
parsed_fits word (Ok x) y parsed is = let same : x ≡ y = cc in subst (FitsSigned w64) (sym parsed.1 ∙ same) parsed.0.1
parsed_fits word (Err e) y parsed is = absurd cc

-- The same, as the code tests them.

pub not_text : {E : Type 0} (Q : E → Type 0) (r : Result (Bor (List ℕ)) E) (word : List ℕ) → MatchResult r (λ s. (s.now ≡ word) × IsUtf8 word) (λ e. (IsUtf8 word → ⊥) × Q e) → None ≡ result_ok r → IsUtf8 word → ⊥
not_text Q (Ok s) word cases none = absurd cc
not_text Q (Err e) word cases none = cases.0

pub text_is : {E : Type 0} (Q : E → Type 0) (r : Result (Bor (List ℕ)) E) (text : Bor (List ℕ)) (word : List ℕ) → MatchResult r (λ s. (s.now ≡ word) × IsUtf8 word) Q → Some text ≡ result_ok r → text.now ≡ word
text_is Q (Ok s) text word cases some = let same : text ≡ s = cc in ap (λ (b : Bor (List ℕ)). b.now) same ∙ cases.0
text_is Q (Err e) text word cases some = absurd cc

ok_is : {A E : Type 0} (r : Result A E) (x : A) → Some x ≡ result_ok r → r ≡ Ok x
ok_is (Ok y) x e = cc
ok_is (Err f) x e = absurd cc

err_is : {A E P : Type 0} (r : Result A E) → None ≡ result_ok r → ((f : E) → r ≡ Err f → P) → P
err_is (Ok y) e next = absurd cc
err_is (Err f) e next = next f refl

parsed_below : {E : Type 0} (text : List ℕ) (r : Result ℕ E) (m : ℕ) → ParsesUnsigned 64 10 text r → r ≡ Ok m → m < 2 ^ 64
parsed_below text (Ok x) m parsed is = let same : x ≡ m = cc in subst (λ k. k < 2 ^ 64) (sym parsed.1 ∙ same) parsed.0.1
parsed_below text (Err e) m parsed is = absurd cc

pub not_number : {E : Type 0} (word text : List ℕ) (r : Result ℕ E) → text ≡ word → ParsesUnsigned 64 10 text r → None ≡ result_ok r → None ≡ number_of (2 ^ 64) word
not_number word text r same parsed none =
    err_is r none (λ fault is. sym (number_of-not_parsed word r fault (subst (λ xs. ParsesUnsigned 64 10 xs r) same parsed) is))

pub same_number : {E : Type 0} (word text printed : List ℕ) (r : Result ℕ E) (m : ℕ) → text ≡ word → ParsesUnsigned 64 10 text r → Some m ≡ result_ok r → printed ≡ decimal m → true ≡ bytes_eq printed text → Some m ≡ number_of (2 ^ 64) word
same_number word text printed r m same parsed some is test =
    let equal : printed ≡ text = (bytes_eq-Decides printed text).0 (sym test) in
    sym (number_of-same (2 ^ 64) m word (parsed_below text r m parsed (ok_is r m some)) (lit≤ tt) (sym is ∙ equal ∙ same))

pub other_number : {E : Type 0} (word text printed : List ℕ) (r : Result ℕ E) (m : ℕ) → text ≡ word → ParsesUnsigned 64 10 text r → Some m ≡ result_ok r → printed ≡ decimal m → false ≡ bytes_eq printed text → None ≡ number_of (2 ^ 64) word
other_number word text printed r m same parsed some is test =
    sym (number_of-other word r m (subst (λ xs. ParsesUnsigned 64 10 xs r) same parsed) (ok_is r m some) (λ spelled.
    let equal : bytes_eq printed text ≡ true = (bytes_eq-Decides printed text).1 (is ∙ spelled ∙ sym same) in absurd cc))

-- a number that is small enough for the narrower type
pub narrowed : {E : Type 0} (word : List ℕ) (n : ℕ) (r : Result ℕ E) → Some n ≡ number_of (2 ^ 64) word → OkIff r (n < 2 ^ 32) n → result_ok r ≡ number_of (2 ^ 32) word
narrowed word n (Ok x) read fits = ap (λ m. Some m) fits.1 ∙ sym (number_of-below (2 ^ 32) n word (sym read) fits.0 (lit≤ tt))
narrowed word n (Err e) read fits = sym (number_of-above (2 ^ 32) n word (sym read) fits (lit≤ tt))

pub not_signed : {E : Type 0} (word text : List ℕ) (r : Result ℤ E) → text ≡ word → ParsesSigned w64 10 text r → None ≡ result_ok r → None ≡ signed_of word
not_signed word text r same parsed none =
    err_is r none (λ fault is. sym (signed_of-not_parsed word r fault (subst (λ xs. ParsesSigned w64 10 xs r) same parsed) is))

pub same_signed : {E : Type 0} (word text printed : List ℕ) (r : Result ℤ E) (m : ℤ) → text ≡ word → ParsesSigned w64 10 text r → Some m ≡ result_ok r → printed ≡ signed_decimal (to_z w64 (of_z w64 m)) → true ≡ bytes_eq printed text → Some (to_z w64 (of_z w64 m)) ≡ signed_of word
same_signed word text printed r m same parsed some is test =
    let fits = parsed_fits text r m parsed (ok_is r m some) in
    let held = to_z-of_z w64 m fits in
    let equal : printed ≡ text = (bytes_eq-Decides printed text).0 (sym test) in
    rw held (sym (signed_of-same m word fits (ap signed_decimal (sym held) ∙ sym is ∙ equal ∙ same)))

pub other_signed : {E : Type 0} (word text printed : List ℕ) (r : Result ℤ E) (m : ℤ) → text ≡ word → ParsesSigned w64 10 text r → Some m ≡ result_ok r → printed ≡ signed_decimal (to_z w64 (of_z w64 m)) → false ≡ bytes_eq printed text → None ≡ signed_of word
other_signed word text printed r m same parsed some is test =
    let fits = parsed_fits text r m parsed (ok_is r m some) in
    let held = to_z-of_z w64 m fits in
    sym (signed_of-other word r m (subst (λ xs. ParsesSigned w64 10 xs r) same parsed) (ok_is r m some) (λ spelled.
    let equal : bytes_eq printed text ≡ true = (bytes_eq-Decides printed text).1 (is ∙ ap signed_decimal held ∙ spelled ∙ sym same) in absurd cc))
