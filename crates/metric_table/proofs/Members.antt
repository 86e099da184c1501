-- A table of TOML with one more entry.
use Rattle.std.proofs.Common.{◌≡◌, List, [], ◌∷◌, String, Global, Ordering, Less, Equal, Greater, string_bytes, refl, ap}
use Rattle.std.specs.BTreeMap.{insert_entry}
use Rattle.std.specs.String.{string_cmp}
use Rattle.std.specs.Ordering.{match_ordering}
use Rattle.toml.specs.Data.{member}
use Rattle.toml.specs.View.{members_view, view}
use Rattle.toml.specs.declared.value.Value.{Value}
use Rattle.toml.proofs.Views.{Entry}
use Rattle.metric_table.specs.Members.{with_member}

with_entry : (o : Ordering) (k : String Global) (v : Value) (e : Entry) (es : List Entry)
    → members_view (insert_entry string_cmp es k v) ≡ with_member (string_bytes k) (view v) (members_view es)
    → members_view (match_ordering o ((k, v) ∷ e ∷ es) ((e.0, v) ∷ es) (e ∷ insert_entry string_cmp es k v))
    ≡ match_ordering o (member (string_bytes k) (view v) (members_view (e ∷ es))) (member (string_bytes e.0) (view v) (members_view es)) (member (string_bytes e.0) (view e.1) (with_member (string_bytes k) (view v) (members_view es)))
with_entry Less k v e es ih = refl
with_entry Equal k v e es ih = refl
with_entry Greater k v e es ih = ap (member (string_bytes e.0) (view e.1)) ih

pub members_view-insert : (k : String Global) (v : Value) (es : List Entry)
    → members_view (insert_entry string_cmp es k v) ≡ with_member (string_bytes k) (view v) (members_view es)
members_view-insert k v [] = refl
members_view-insert k v (e ∷ es) = with_entry (string_cmp k e.0) k v e es (members_view-insert k v es)
