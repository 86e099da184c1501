-- What a table with no other fields lacks.
use Rattle.std.proofs.Common.{◌≡◌, Ordering, Less, Equal, Greater, Bool, true, false, ℕ, List, Some}
use Rattle.std.proofs.Common.{None, Ok, refl, sym, ap, ◌∙◌, true≢false}
use Rattle.std.proofs.lemmas.Bool.{and_parts}
use Rattle.std.proofs.lemmas.Map.Lookups.{exact_bytes}
use Rattle.std.specs.Cmp.Lexicographic.{slice_cmp}
use Rattle.std.specs.List.{list_all}
use Rattle.std.specs.Ordering.{match_ordering, nat_cmp}
use Rattle.toml.specs.Data.{Members, no_members, member, get_member}
use Rattle.metric_base.specs.Steps.{require}
use Rattle.metric_table.specs.declared.faults.FieldFaults.{FieldFaults}
use Rattle.metric_table.specs.Fields.{is_among, names_of, only}

passed : {E : Type 0} (b : Bool) (e : E) (done : Unit {0}) → require b e ≡ Ok done → b ≡ true
passed true e done made = refl
passed false e done made = absurd cc

not_there : (names : List (List ℕ)) (name : List ℕ) (table : Members) → list_all (is_among names)
    (names_of table) ≡ true → is_among names name ≡ false → get_member name table ≡ None
not_there names name no_members known other = refl
not_there names name (member key d table) known other =
    let (own, rest) =
    and_parts (is_among names key) (list_all (is_among names) (names_of table)) known in
    at (slice_cmp nat_cmp name key) refl own (not_there names name table rest other)
  where
    at : (o : Ordering) → slice_cmp nat_cmp name key ≡ o → is_among names key ≡ true
        → get_member name table ≡ None
        → match_ordering o (get_member name table) (Some d) (get_member name table) ≡ None
    at Less e own none = none
    at Equal e own none =
        absurd (true≢false (sym own ∙ ap (is_among names) (sym (exact_bytes name key e)) ∙ other))
    at Greater e own none = none

-- a table that has only fields of these names has none of another name
pub none_other : {F : Type 0} (faults : FieldFaults F) (names : List (List ℕ)) (name : List ℕ)
    (table : Members) (done : Unit {0}) → only faults names table ≡ Ok done
    → is_among names name ≡ false → get_member name table ≡ None
unfolding only
none_other faults names name table done made other =
    not_there names name table
    (passed (list_all (is_among names) (names_of table)) faults.unknown done made) other
