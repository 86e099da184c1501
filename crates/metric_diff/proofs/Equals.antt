-- No change is told exactly where what is compared is equal.
use Rattle.std.proofs.Common.{◌≡◌, ℕ, ◌+◌, Bool, true, false, List, [], ◌∷◌, ◌++◌, Option, Some, None, refl, ap, ◌∙◌}
use Rattle.std.specs.Prelude.{not, ◌&&◌, is_some, ◌==◌, slice_get}
use Rattle.std.specs.List.{enumerate_from, flat_map, list_all, list_any}
use Rattle.metric_names.specs.declared.value.AttrValue.{AttrValue}
use Rattle.metric_contents.specs.declared.contents.Contents.{Contents}
use Rattle.metric_contents.specs.declared.contents.Instrument.{Instrument}
use Rattle.metric_contents.specs.declared.contents.Key.{Key}
use Rattle.metric_contents.specs.declared.contents.Recorder.{Recorder}
use Rattle.metric_contents.specs.Budgets.{amount_of}
use Rattle.metric_contents.specs.KeyNames.{is_key}
use Rattle.metric_contents.specs.Places.{place}
use Rattle.metric_views.specs.declared.stream.Stream.{Stream}
use Rattle.metric_diff.specs.declared.change.Change.{Change}
use Rattle.metric_diff.specs.declared.change.InstrumentPart.{InstrumentPart}
use Rattle.metric_diff.specs.declared.change.StreamPart.{StreamPart}
use Rattle.metric_diff.specs.declared.keys.Way.{Way}
use Rattle.metric_diff.specs.declared.keys.Way.TheVariants as ways
use Rattle.metric_diff.specs.declared.named.Sort.{Sort}
use Rattle.metric_diff.specs.declared.named.Sort.TheVariants as sorts
use Rattle.metric_diff.specs.Changes.{Plan, change, change_by, changes_of, has_other_name, most_at, names, new_by, sort_changes, when_other}
use Rattle.metric_diff.specs.Combined.{combination_changes, is_shut_out, lost_combination, lost_combinations}
use Rattle.metric_diff.specs.Equal.{are_let_in, are_same, are_same_keys, has_each, is_equal, is_nil, is_same_as, is_same_budget, is_same_declared, is_same_key, is_same_key_as, is_same_number, is_same_stream}
use Rattle.metric_diff.specs.Instruments.{all_declared_parts, budget, budget_with, declared_keys, declared_part, declared_parts, declared_with, instruments_differ, key_differences, key_named, key_with, lost_value, new_key, old_key, recorder_named}
use Rattle.metric_diff.specs.Known.{place_of}
use Rattle.metric_diff.specs.Parts.{all_parts, differences_with, differs, is_lost, keys_of, lost_key, part_change, part_changes, when}

nil_append : {A : Type 0} (xs ys : List A) → is_nil (xs ++ ys) ≡ (is_nil xs && is_nil ys)
nil_append [] ys = refl
nil_append (x ∷ xs) ys = refl

nil_when : (b : Bool) (c : Change) → is_nil (when b c) ≡ not b
nil_when true c = refl
nil_when false c = refl

nil_when_not : (b : Bool) (c : Change) → is_nil (when (not b) c) ≡ b
nil_when_not true c = refl
nil_when_not false c = refl

both : {a b c d : Bool} → a ≡ b → c ≡ d → (a && c) ≡ (b && d)
both {b = b} {c = c} e f = ap (λ (x : Bool). x && c) e ∙ ap (λ (x : Bool). b && x) f

nil_each : {X A : Type 0} (f : X → List A) (p : X → Bool) → ((x : X) → is_nil (f x) ≡ p x) → (xs : List X) → is_nil (flat_map f xs) ≡ list_all p xs
nil_each f p each [] = refl
nil_each f p each (x ∷ xs) = nil_append (f x) (flat_map f xs) ∙ both (each x) (nil_each f p each xs)

all_numbered : {X : Type 0} (p : X → Bool) (n : ℕ) (xs : List X) → list_all (λ (x : ℕ × X). p x.1) (enumerate_from n xs) ≡ list_all p xs
all_numbered p n [] = refl
all_numbered p n (x ∷ xs) = ap (λ (b : Bool). p x && b) (all_numbered p (n + 1) xs)

nil_numbered : {X A : Type 0} (f : ℕ × X → List A) (p : X → Bool) → ((x : ℕ × X) → is_nil (f x) ≡ p x.1) → (xs : List X) → is_nil (flat_map f (enumerate_from 0 xs)) ≡ list_all p xs
nil_numbered {X = X} f p each xs = nil_each f (λ (x : ℕ × X). p x.1) each (enumerate_from 0 xs) ∙ all_numbered p 0 xs

values_nil : (way : Way) (n m k : ℕ) (others values : List AttrValue) → is_nil (flat_map (lost_value way n m k others) (enumerate_from 0 values)) ≡ has_each others values
values_nil way n m k others values =
    nil_numbered (lost_value way n m k others) (λ (v : AttrValue). is_some (place others v)) (λ v. nil_when_not (is_some (place others v.1)) _) values

key_nil : (n m : ℕ) (key other : ℕ × Key) → is_nil (key_differences n m key other) ≡ is_same_key key.1 other.1
key_nil n m key other =
    nil_append _ _ ∙ both (nil_when _ _)
    (nil_append _ _ ∙ both (values_nil ways.Gone n m key.0 other.1.values key.1.values) (values_nil ways.New n m other.0 key.1.values other.1.values))

key_with_nil : (n m : ℕ) (key : ℕ × Key) (found : Option (ℕ × Key)) → is_nil (key_with n m key found) ≡ is_same_key_as key.1 found
key_with_nil n m key None = refl
key_with_nil n m key (Some other) = key_nil n m key other

keys_nil : (n m : ℕ) (keys others : List Key) → is_nil (declared_keys n m keys others) ≡ are_same_keys keys others
keys_nil n m keys others =
    nil_append _ _ ∙ both
    (nil_numbered (old_key n m others) (λ (key : Key). is_same_key_as key (key_named others key.name)) (λ key. key_with_nil n m key (key_named others key.1.name)) keys)
    (nil_numbered (new_key n m keys) (λ (key : Key). list_any (is_key key.name) keys) (λ key. nil_when_not (list_any (is_key key.1.name) keys) _) others)

rows_nil : (way : Way) (n m : ℕ) (others : List Instrument) (other : ℕ) (keys : List Key) (allowed : Option (List (List ℕ)))
    → is_nil (lost_combinations way n m others other keys allowed) ≡ are_let_in others other keys allowed
rows_nil way n m others other keys None = refl
rows_nil way n m others other keys (Some rows) =
    nil_numbered (lost_combination way n m others other keys) (λ (row : List ℕ). not (is_shut_out others other keys row)) (λ row. nil_when (is_shut_out others other keys row.1) _) rows

budget_nil : (n m : ℕ) (recorder : ℕ × Recorder) (found : Option (ℕ × Recorder)) → is_nil (budget_with n m recorder found) ≡ is_same_budget n m recorder.1 found
budget_nil n m recorder None = refl
budget_nil n m recorder (Some other) = nil_when_not (amount_of recorder.1 n == amount_of other.1 m) _

declared_nil : (contents others : Contents) (n m : ℕ) (one other : Option Instrument) → is_nil (declared_with contents others n m one other) ≡ is_same_declared contents others n m one other
declared_nil contents others n m None other = refl
declared_nil contents others n m (Some one) None = refl
declared_nil contents others n m (Some one) (Some other) =
    nil_append (declared_parts n m one other all_declared_parts) _ ∙ both
    (nil_each (declared_part n m one other) (λ (part : InstrumentPart). not (instruments_differ part one other)) (λ part. nil_when (instruments_differ part one other) _) all_declared_parts)
    (nil_append _ _ ∙ both (keys_nil n m one.keys other.keys)
    (nil_append (combination_changes contents others n m one other) _ ∙ both
    (nil_append _ _ ∙ both (rows_nil ways.Gone n m others.instruments m one.keys one.allowed) (rows_nil ways.New n m contents.instruments n other.keys other.allowed))
    (nil_numbered (budget n m others.recorders) (λ (recorder : Recorder). is_same_budget n m recorder (recorder_named others.recorders recorder.name))
    (λ recorder. budget_nil n m recorder (recorder_named others.recorders recorder.1.name)) contents.recorders)))

other_nil : (c : Change) (one other : Option ℕ) → is_nil (when_other c one other) ≡ is_same_number one other
other_nil c None other = refl
other_nil c (Some one) None = refl
other_nil c (Some one) (Some other) = nil_when_not (one == other) c

stream_nil : (contents others : Contents) (n m : ℕ) (one other : Option Stream) → is_nil (differences_with contents others n m one other) ≡ is_same_stream contents others one other
stream_nil contents others n m None other = refl
stream_nil contents others n m (Some s) None = refl
stream_nil contents others n m (Some s) (Some t) =
    nil_append (part_changes n m contents others s t all_parts) _ ∙ both
    (nil_each (part_change n m contents others s t) (λ (part : StreamPart). not (differs part contents others s t)) (λ part. nil_when (differs part contents others s t) _) all_parts)
    (nil_append _ _ ∙ both
    (nil_each (lost_key ways.Gone n m (keys_of others t) s t) (λ (key : ℕ × Key). not (is_lost (keys_of others t) s t key)) (λ key. nil_when (is_lost (keys_of others t) s t key) _) (enumerate_from 0 (keys_of contents s)))
    (nil_each (lost_key ways.New n m (keys_of contents s) t s) (λ (key : ℕ × Key). not (is_lost (keys_of contents s) t s key)) (λ key. nil_when (is_lost (keys_of contents s) t s key) _) (enumerate_from 0 (keys_of others t))))

change_nil : (sort : Sort) (old new : Plan) (n : ℕ) (found : Option ℕ) → is_nil (change sort old new n found) ≡ is_same_as sort old new n found
change_nil sorts.Readers old new n None = refl
change_nil sorts.Readers old new n (Some m) = nil_when (has_other_name (slice_get old.config.readers n) (slice_get new.config.readers m)) _
change_nil sorts.Streams old new n None = refl
change_nil sorts.Streams old new n (Some m) =
    nil_append (differences_with old.contents new.contents n m (slice_get old.streams n) (slice_get new.streams m)) _ ∙ both
    (stream_nil old.contents new.contents n m (slice_get old.streams n) (slice_get new.streams m))
    (other_nil _ (slice_get old.series n) (slice_get new.series m))
change_nil sorts.Collisions old new n None = refl
change_nil sorts.Collisions old new n (Some m) = refl
change_nil sorts.Instruments old new n None = refl
change_nil sorts.Instruments old new n (Some m) =
    nil_append (declared_with old.contents new.contents n m (slice_get old.contents.instruments n) (slice_get new.contents.instruments m)) _ ∙ both
    (declared_nil old.contents new.contents n m (slice_get old.contents.instruments n) (slice_get new.contents.instruments m))
    (other_nil _ (most_at old.rooms n) (most_at new.rooms m))
change_nil sorts.Recorders old new n None = refl
change_nil sorts.Recorders old new n (Some m) = refl

sort_nil : (sort : Sort) (old new : Plan) → is_nil (sort_changes sort old new) ≡ are_same sort old new
unfolding sort_changes are_same
sort_nil sort old new =
    let find : List ℕ → Option ℕ = place_of (names sort old new) in
    let known : List ℕ → Option ℕ = place_of (names sort old old) in
    nil_append _ _ ∙ both
    (nil_each (change_by sort find old new) (λ (name : ℕ × List ℕ). is_same_as sort old new name.0 (find name.1)) (λ name. change_nil sort old new name.0 (find name.1)) (enumerate_from 0 (names sort old old)))
    (nil_numbered (new_by sort known) (λ (name : List ℕ). is_some (known name)) (λ name. nil_when_not (is_some (known name.1)) _) (names sort old new))

-- the law of `changes`
pub nothing_differs : (old new : Plan) → is_nil (changes_of old new) ≡ is_equal old new
nothing_differs old new =
    nil_append (sort_changes sorts.Readers old new) _ ∙ both (sort_nil sorts.Readers old new)
    (nil_append (sort_changes sorts.Streams old new) _ ∙ both (sort_nil sorts.Streams old new)
    (nil_append (sort_changes sorts.Collisions old new) _ ∙ both (sort_nil sorts.Collisions old new)
    (nil_append (sort_changes sorts.Instruments old new) _ ∙ both (sort_nil sorts.Instruments old new) (sort_nil sorts.Recorders old new))))
