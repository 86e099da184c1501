-- A text of numbered parts, as a loop writes it.
use Rattle.std.proofs.Common.{◌≡◌, ℕ, ◌+◌, ◌<◌, ◌≤◌, List, [], ◌++◌, Option, length, get_or, take, zero-add, sym, ap, subst, ◌∙◌, arith}
use Rattle.std.specs.Io.KnownBytes.{Appends}
use Rattle.std.specs.List.{enumerate_from, flat_map}
use Rattle.std.proofs.KnownBytes.{Appends-trans}
use Rattle.std.proofs.lemmas.List.{flat_map_more, take_all, take_more}
use Rattle.std.proofs.lemmas.List.FromFn.{get_or-enumerate_from, length-enumerate_from}
use Rattle.metric_io.specs.Prefix.{AppendsPrefix, parts_in_next, parts_so_far}
use Rattle.metric_kit_commands.specs.Written.{parts_text}

-- the texts of the first parts
abbrev pub first_parts : {T : Type 0} → (ℕ → T → List ℕ) → List T → ℕ → List ℕ
first_parts text parts n = flat_map (λ placed. text placed.0 placed.1) (take n (enumerate_from 0 parts))

-- the next part with its number
at_next : {T : Type 0} (text : ℕ → T → List ℕ) (parts : List T) (n : ℕ) (d : T) → n < length parts → d ≡ get_or parts n d
    → text n d ≡ text (get_or (enumerate_from 0 parts) n (n, d)).0 (get_or (enumerate_from 0 parts) n (n, d)).1
at_next {T = T} text parts n d within is =
    let numbered = rw zero-add at (get_or-enumerate_from 0 parts n (n, d) within) in
    ap (λ x. text n x) is ∙ ap (λ (placed : ℕ × T). text placed.0 placed.1) (sym numbered)

numbered_within : {T : Type 0} (parts : List T) (n : ℕ) → n < length parts → n < length (enumerate_from 0 parts)
numbered_within parts n within = omega (arith, length-enumerate_from 0 parts)

first_parts-more : {T : Type 0} (text : ℕ → T → List ℕ) (parts : List T) (n : ℕ) (d : T) → n < length parts → d ≡ get_or parts n d
    → first_parts text parts n ++ text n d ≡ first_parts text parts (n + 1)
first_parts-more {T = T} text parts n d within is =
    let numbered = enumerate_from 0 parts in
    let write : ℕ × T → List ℕ = λ placed. text placed.0 placed.1 in
    ap (λ next. first_parts text parts n ++ next) (at_next text parts n d within is)
    ∙ flat_map_more write [] (take n numbered) (get_or numbered n (n, d))
    ∙ ap (flat_map write) (sym (take_more numbered n (n, d) (numbered_within parts n within)))

-- after one part more
pub next_part : {T : Type 0} (text : ℕ → T → List ℕ) (a b c : Option (List ℕ)) (parts : List T) (n : ℕ) (d : T)
    → n < length parts → d ≡ get_or parts n d → Appends a b (first_parts text parts n) → Appends b c (text n d) → Appends a c (first_parts text parts (n + 1))
next_part text a b c parts n d within is before more =
    subst (Appends a c) (first_parts-more text parts n d within is) (Appends-trans a b c (first_parts text parts n) (text n d) before more)

-- a prefix of one part more is a prefix of the whole
pub prefix_of_next : {T : Type 0} (text : ℕ → T → List ℕ) (a b c : Option (List ℕ)) (parts : List T) (n : ℕ) (d : T)
    → n < length parts → d ≡ get_or parts n d → Appends a b (first_parts text parts n) → AppendsPrefix b c (text n d) → AppendsPrefix a c (parts_text text parts)
unfolding parts_text
prefix_of_next text a b c parts n d within is before more =
    parts_in_next (λ placed. text placed.0 placed.1) a b c (enumerate_from 0 parts) n (n, d) (text n d)
    (numbered_within parts n within) (at_next text parts n d within is) before more

-- after the last part
pub all_parts : {T : Type 0} (text : ℕ → T → List ℕ) (a b : Option (List ℕ)) (parts : List T) (n : ℕ)
    → length parts ≤ n → Appends a b (first_parts text parts n) → Appends a b (parts_text text parts)
unfolding parts_text
all_parts text a b parts n over before =
    let numbered = enumerate_from 0 parts in
    let all : take n numbered ≡ numbered = take_all n numbered (omega (arith, length-enumerate_from 0 parts)) in
    rw all at before

-- a prefix is written where all parts were
pub prefix_of_all : {T : Type 0} (text : ℕ → T → List ℕ) (a b : Option (List ℕ)) (parts : List T) (n : ℕ)
    → Appends a b (first_parts text parts n) → AppendsPrefix a b (parts_text text parts)
unfolding parts_text
prefix_of_all text a b parts n before = parts_so_far (λ placed. text placed.0 placed.1) a b (enumerate_from 0 parts) n before
