-- Tables of TOML, made.
use Rattle.std.specs.Prelude.{ℕ, List}
use Rattle.std.specs.Cmp.Lexicographic.{slice_cmp}
use Rattle.std.specs.Ordering.{nat_cmp, match_ordering}
use Rattle.toml.specs.Data.{Data, Members, no_members, member}

-- # table with a field (profile)
-- The table with this value under the name, which stands in the order of names.
abbrev pub with_member : List ℕ → Data → Members → Members
with_member name d no_members = member name d no_members
with_member name d (member other e fields) =
    match_ordering (slice_cmp nat_cmp name other) (member name d (member other e fields))
    (member other d fields) (member other e (with_member name d fields))
