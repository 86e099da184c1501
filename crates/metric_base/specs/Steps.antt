-- Steps of which each may fail: the first fault in order is the answer.
use Rattle.std.specs.Prelude.{◌≡◌, ◌≢◌, Bool, true, false, List, [], ◌∷◌, ◌++◌, Option, Some, None}
use Rattle.std.specs.Prelude.{Result, Ok, Err}

-- the second step from what the first gave, or the fault of the first
infixl 10 ◌>>=◌
abbrev pub ◌>>=◌ : {A B E : Type 0} → Result A E → (A → Result B E) → Result B E
(Ok x) >>= f = f x
(Err e) >>= f = Err e

-- # required test, value, absence (profile) [require, require_some, require_none]
-- The fault, unless the test holds, the value is there, or no value is there.
abbrev pub require : {E : Type 0} → Bool → E → Result (Unit {0}) E
require true e = Ok tt
require false e = Err e

-- the value, or the fault where there is none
abbrev pub require_some : {A E : Type 0} → Option A → E → Result A E
require_some None e = Err e
require_some (Some x) e = Ok x

-- the fault that the value stands for, where there is one
abbrev pub require_none : {A E : Type 0} → Option A → (A → E) → Result (Unit {0}) E
require_none None e = Ok tt
require_none (Some x) e = Err (e x)

-- # fault of the next layer (profile)
-- A fault of one layer, told as a fault of the next.
abbrev pub with_fault : {A D E : Type 0} → (D → E) → Result A D → Result A E
with_fault f (Ok x) = Ok x
with_fault f (Err e) = Err (f e)

-- # in turn (profile)
-- The steps for the elements one after the other, up to the first fault.
abbrev pub in_turn : {S X E : Type 0} → (S → X → Result S E) → S → List X → Result S E
in_turn step s [] = Ok s
in_turn step s (x ∷ xs) = step s x >>= λ t. in_turn step t xs

-- the elements before, and what one more gives
abbrev pub with_next : {Y X E : Type 0} → (List Y → X → Result Y E) → List Y → X → Result (List Y) E
with_next step before x = step before x >>= λ y. Ok (before ++ y ∷ [])

-- # each, seeing those before (profile) [each, with_next]
-- An element for each element, where a step sees what stands before it.
abbrev pub each : {Y X E : Type 0} → (List Y → X → Result Y E) → List Y → List X → Result (List Y) E
each step before xs = in_turn (with_next step) before xs

-- # gives (profile) [Gives, GivesBy]
-- What a function returned is what its definition gives, unless memory ran out.
abbrev pub Gives : {X E : Type 0} → E → Result X E → Result X E → Type 0
Gives memory (Ok x) read = read ≡ Ok x
Gives memory (Err e) read = e ≢ memory → read ≡ Err e

-- The same of what is seen of the value.
abbrev pub GivesBy : {X Y E : Type 0} → (X → Y) → E → Result X E → Result Y E → Type 0
GivesBy view memory (Ok x) read = read ≡ Ok (view x)
GivesBy view memory (Err e) read = e ≢ memory → read ≡ Err e

-- # advances (profile)
-- The new value of an argument is what its definition gives, or the fault is, unless memory ran
-- out.
abbrev pub Advances : {X E : Type 0} → E → Result (Unit {0}) E → X → Result X E → Type 0
Advances memory (Ok done) new read = read ≡ Ok new
Advances memory (Err e) new read = e ≢ memory → read ≡ Err e

-- # step after step (profile) [>>=]
-- The second step works on what the first gave; a fault of the first is the answer.
