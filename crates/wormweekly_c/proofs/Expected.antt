-- What a program that was made for an instrument records.
use Rattle.std.proofs.Common.{◌≡◌, ◌∙◌, ◌++◌, ◌∷◌, ◌⊎◌, ◌<◌, ◌≤◌, ◌/◌, ◌%◌, ℕ, zero, suc, Bool, true, cond, List, [], Some, arith, ap, get_or, inl, inr, length, refl, sym, take, true≢false}
use Rattle.std.specs.Prelude.{◌==◌, All, nat_le, replicate, slice_get}
use Rattle.std.proofs.lemmas.Bool.{and_from, and_parts, cases_lt}
use Rattle.std.proofs.lemmas.Bool.Decides.{nat_tests}
use Rattle.std.proofs.lemmas.List.{get_or-take, take_all}
use Rattle.std.proofs.lemmas.List.Elements.{All-head, All-replicate, All-tail}
use Rattle.std.proofs.lemmas.List.Sums.{list_all-from_AllPass}
use Rattle.std.proofs.lemmas.Option.{slice_get-get_or}
use Rattle.metric_names.specs.declared.value.AttrValue.{AttrValue}
use Rattle.metric_names.specs.declared.value.AttrValue.TheVariants.{Flag}
use Rattle.metric_contents.specs.declared.contents.Key.{Key}
use Rattle.metric_contents.specs.Encoding.{Given}
use Rattle.metric_contents.specs.KeySets.{is_key_entry, is_key_set}
use Rattle.metric_meaning.specs.Meanings.{AskedKey, KeyMeans}
use Rattle.wormweekly_c.specs.Ranks.{named_at, named_by, valued}
use Rattle.wormweekly_c.specs.Expected.{ExpectedRanksName, NameAsked, are_ranks}

-- keys that are left out
left_out : (keys : List Key) (further : ℕ) → All (λ (key : Key). key.optional ≡ true) keys → length keys ≤ further
    → NameAsked keys [] [] (replicate further 0)
left_out [] further optional room = record { full = list_all-from_AllPass (λ entry. entry == 0) (replicate further 0) (All-replicate (λ entry. (entry == 0) ≡ true) further 0 refl); named = refl }
left_out (key ∷ keys) zero optional room = absurd (omega arith)
left_out (key ∷ keys) (suc further) optional room =
    let rest = left_out keys further (All-tail (λ (k : Key). k.optional ≡ true) key keys optional) (omega arith) in
    record {
      full = and_from (is_key_entry key 0) (is_key_set keys (replicate further 0)) (All-head (λ (k : Key). k.optional ≡ true) key keys optional) rest.full;
      named = rest.named;
    }

long_enough : (asked values : List AttrValue) → take (length asked) values ≡ asked → length asked ≤ length values
long_enough asked values same = by (cases_lt (length values) (length asked))
  where
    by : (length values < length asked) ⊎ (length asked ≤ length values) → length asked ≤ length values
    by (inr enough) = enough
    by (inl fewer) =
        let equal : length values ≡ length asked = ap length (sym (take_all (length asked) values (omega (arith, fewer))) ∙ same) in
        omega (arith, equal)

-- the first values of a list are its own
first_values : (asked values : List AttrValue) (n : ℕ) → take (length asked) values ≡ asked → n < length asked → slice_get values n ≡ slice_get asked n
first_values asked values n same within =
    let long : length asked ≤ length values = long_enough asked values same in
    let own : get_or asked n (Flag true) ≡ get_or values n (Flag true) =
    ap (λ (l : List AttrValue). get_or l n (Flag true)) (sym same) ∙ get_or-take (length asked) values n (Flag true) within in
    slice_get-get_or values n (Flag true) (omega (arith, long, within)) ∙ ap Some (sym own) ∙ sym (slice_get-get_or asked n (Flag true) within)

-- the entry of a key that means what is asked for
entry_means : (is_optional : Bool) (asked : AskedKey) (key : Key) (rank : ℕ) → KeyMeans is_optional asked key
    → cond (rank == 0) is_optional (nat_le rank (length asked.values)) ≡ true → is_key_entry key rank ≡ true
entry_means is_optional asked key zero means is = means.optional ∙ is
entry_means is_optional asked key (suc n) means is =
    let long : length asked.values ≤ length key.values = long_enough asked.values key.values means.values in
    grind (arith, nat_tests, is, long)

names_asked : (is_optional : Bool) (asked : AskedKey) (key : Key) (rank : ℕ) → KeyMeans is_optional asked key
    → cond (rank == 0) is_optional (nat_le rank (length asked.values)) ≡ true
    → named_at key.name key.values rank ≡ named_at asked.name asked.values rank
names_asked is_optional asked key zero means is = refl
names_asked is_optional asked key (suc n) means is =
    let within : n < length asked.values = grind (arith, nat_tests, is) in
    ap (λ (name : List ℕ). valued name (slice_get key.values n)) means.name
    ∙ ap (valued asked.name) (first_values asked.values key.values n means.values within)

pub expected_ranks_name : ExpectedRanksName
expected_ranks_name optional [] keys [] further means are room = left_out keys further means (omega (arith, room))
expected_ranks_name optional [] keys (rank ∷ ranks) further means are room = absurd (true≢false (sym are))
expected_ranks_name optional (asked ∷ others) [] ranks further means are room = absurd means
expected_ranks_name optional (asked ∷ others) (key ∷ keys) [] further means are room = absurd (true≢false (sym are))
expected_ranks_name optional (asked ∷ others) (key ∷ keys) (rank ∷ ranks) further means are room =
    let parts = and_parts (cond (rank == 0) (optional % 2 == 1) (nat_le rank (length asked.values))) (are_ranks (optional / 2) others ranks) are in
    let rest = expected_ranks_name (optional / 2) others keys ranks further means.1 parts.1 (omega arith) in
    record {
      full = and_from (is_key_entry key rank) (is_key_set keys (ranks ++ replicate further 0)) (entry_means (optional % 2 == 1) asked key rank means.0 parts.0) rest.full;
      named =
          ap (λ (given : List Given). given ++ named_by keys (ranks ++ replicate further 0)) (names_asked (optional % 2 == 1) asked key rank means.0 parts.0)
          ∙ ap (λ (given : List Given). named_at asked.name asked.values rank ++ given) rest.named;
    }
