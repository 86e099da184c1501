-- First faults: what several questions, asked one after the other, find.
use Rattle.std.specs.Prelude.{◌≡◌, ◌≢◌, ◌⊎◌, List, [], ◌∷◌, Option, Some, None, Result, Ok, Err}

-- # first fault (profile) [Asks, Then, Each, Reports]
-- Questions asked one after the other: what the first finds, else what the next finds; nothing
-- where none fails.
abbrev pub Asks : {F : Type 0} → Type 0 → F → Option F → Type 0
Asks P fault None = P
Asks P fault (Some found) = (¬ P) × (found ≡ fault)

-- what the first finds, or where that is nothing, what the second finds
abbrev pub Then : {F : Type 0} → (Option F → Type 0) → (Option F → Type 0) → Option F → Type 0
Then First Second None = First None × Second None
Then First Second (Some found) = First (Some found) ⊎ (First None × Second (Some found))

-- what is found at the first element that has a fault
abbrev pub Each : {X F : Type 0} → (X → Option F → Type 0) → List X → Option F → Type 0
Each Finds [] found = found ≡ None
Each Finds (x ∷ xs) found = Then (Finds x) (Each Finds xs) found

-- what a call finds that answers with a fault, unless memory ran out
abbrev pub Reports : {X F : Type 0} → F → (Option F → Type 0) → Result X F → Type 0
Reports memory Finds (Ok x) = Finds None
Reports memory Finds (Err fault) = fault ≢ memory → Finds (Some fault)
