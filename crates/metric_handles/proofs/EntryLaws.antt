-- The entries of a set key, by the first key and the others.
use Rattle.std.proofs.Common.{◌≡◌, ◌<◌, ℕ, Bool, true, false, ◌&&◌, List, [], ◌∷◌, length, refl, ap, ◌∙◌, arith}
use Rattle.std.proofs.lemmas.Bool.{le-leb}
use Rattle.std.proofs.Math.Dec.{leb-suc-suc, leb-suc-zero}
use Rattle.std.specs.Prelude.{nat_le}
use Rattle.std.specs.List.{list_all, zip}
use Rattle.metric_contents.specs.declared.contents.Key.{Key}
use Rattle.metric_contents.specs.Encoding.{Given}
use Rattle.metric_handles.specs.Found.{have_entries, is_entry}

in_turn : (few one all : Bool) → (few && (one && all)) ≡ (one && (few && all))
in_turn true one all = refl
in_turn false true all = refl
in_turn false false all = refl

pub no_keys : (attrs : List Given) (keys : List Key) (set : List ℕ) → length keys ≡ 0 → have_entries attrs keys set ≡ true
unfolding have_entries
no_keys attrs [] set none = ap (λ (few : Bool). few && true) (le-leb 0 (length set) (omega arith))
no_keys attrs (key ∷ keys) set none = absurd (omega arith)

pub no_entry : (attrs : List Given) (keys : List Key) (set : List ℕ) → 0 < length keys → length set ≡ 0 → have_entries attrs keys set ≡ false
unfolding have_entries
no_entry attrs [] set some none = absurd (omega arith)
no_entry attrs (key ∷ keys) [] some none = ap (λ (few : Bool). few && true) (leb-suc-zero (length keys))
no_entry attrs (key ∷ keys) (entry ∷ set) some none = absurd (omega arith)

pub first_entry : (attrs : List Given) (key : Key) (keys : List Key) (entry : ℕ) (set : List ℕ)
    → have_entries attrs (key ∷ keys) (entry ∷ set) ≡ (is_entry attrs key entry && have_entries attrs keys set)
unfolding have_entries
first_entry attrs key keys entry set =
    let rest = list_all (λ (one : Key × ℕ). is_entry attrs one.0 one.1) (zip keys set) in
    ap (λ (few : Bool). few && (is_entry attrs key entry && rest)) (leb-suc-suc (length keys) (length set))
    ∙ in_turn (nat_le (length keys) (length set)) (is_entry attrs key entry) rest
