-- one more entry, and the last
use Rattle.std.proofs.Common.{◌≡◌, ℕ, ◌+◌, ◌<◌, ◌≤◌, ◌&&◌, Bool, List, ℤ, Some, length, map, drop, unsigned_abs, arith, refl, ap, ◌∙◌}
use Rattle.std.proofs.lemmas.List.{length-map}
use Rattle.toml.specs.View.{view}
use Rattle.metric_table.specs.Fields.{whole_in}
use Rattle.metric_catalogue.specs.Allowed.{is_entry_of, is_row}
use Rattle.metric_contents.specs.EntryLaws.{entry_more}
use Rattle.metric_catalogue.proofs.Rows.{entries_end, entry_is, row_at, row_end, unlike}
use Rattle.metric_catalogue.proofs.allowed.row_set.Goals as goal

pub returns-then-entries-keys : goal.returns-then-entries-keys
returns-then-entries-keys c =
    let numbers : List ℤ = map (λ v. whole_in (view v)) c.args.entries.now in
    let long = length-map c.args.entries.now (λ v. whole_in (view v)) in
    let none = unlike c.args.keys.now numbers (λ same. grind arith) in
    rw none refl

pub loop-place-preserved : goal.loop-place-preserved
loop-place-preserved c =
    let keys = c.args.keys.now in
    let entries = c.args.entries.now in
    let place = c.loop-place.place in
    let key = c.index-keys-place.result in
    let entry = c.index-entries-place.result in
    let (fits, is) = entry_is (is_entry_of key (whole_in (view entry))) (unsigned_abs (whole_in (view entry))) c.in_ok-set.field-0 c.in_ok-set.ensures in
    let inside : place < length entries = grind arith in
    let here = row_at (λ v. whole_in (view v)) keys entries place key entry (omega arith) inside c.index-keys-place.is c.index-entries-place.is in
    record {
      left = c.loop-place.invariant.left ∙ here ∙ ap (λ (b : Bool). b && is_row (drop (place + 1) keys) (map (λ v. whole_in (view v)) (drop (place + 1) entries))) fits;
      set = rw (c.loop-place.invariant.set, is) (entry_more (λ v. unsigned_abs (whole_in (view v))) entries place entry inside (grind arith) c.index-entries-place.is);
    }

pub returns : goal.returns
returns c =
    let keys = c.args.keys.now in
    let entries = c.args.entries.now in
    let place = c.loop-place.place in
    let same : length entries ≡ length keys = grind arith in
    let end : length keys ≤ place = grind arith in
    let is = c.loop-place.invariant.left ∙ row_end (λ v. whole_in (view v)) keys entries place same end in
    let set = c.loop-place.invariant.set ∙ entries_end (λ v. whole_in (view v)) entries place (grind arith) in
    rw is (ap (λ (s : List ℕ). Some s) set)
