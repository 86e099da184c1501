-- One stream more, where streams are written in turn.
use Rattle.std.proofs.Common.{◌≡◌, ℕ, ◌+◌, ◌<◌, Bool, true, false, cond, List, [], ◌∷◌, ◌++◌, length, take, drop, get_or, Option, Some, find, option_and_then, reverse, slice_get, ◌==◌, refl, sym, ap, ◌∙◌, append_assoc}
use Rattle.std.specs.BTreeMap.{is_at}
use Rattle.std.specs.Cmp.{unsigned_tied}
use Rattle.std.specs.Ordering.{nat_cmp}
use Rattle.std.proofs.lemmas.List.{at_drop_more, take_more, reverse-append}
use Rattle.std.proofs.lemmas.Option.{slice_get_read}
use Rattle.metric_facts.specs.declared.facts.NumberedStream.{NumberedStream}
use Rattle.metric_facts.specs.Flat.{view_number, is_of_view, last_of_view, flat_stream, flat_streams}

-- the streams before a place, the last of which stands first
abbrev pub before : List NumberedStream → ℕ → List NumberedStream
before streams place = reverse (take place streams)

before_more : (streams : List NumberedStream) (place : ℕ) (n : NumberedStream) → place < length streams → n ≡ get_or streams place n
    → n ∷ before streams place ≡ before streams (place + 1)
before_more streams place n below is =
    ap (λ (m : NumberedStream). m ∷ before streams place) is
    ∙ sym (ap reverse (take_more streams place n below) ∙ reverse-append (take place streams) (get_or streams place n ∷ []))

-- one stream more is written
pub streams_more : (streams : List NumberedStream) (place : ℕ) (n : NumberedStream) (earlier : Option NumberedStream) (old new : List ℕ)
    → place < length streams → n ≡ get_or streams place n → earlier ≡ last_of_view (before streams place) n → new ≡ old ++ flat_stream earlier n
    → new ++ flat_streams (before streams (place + 1)) (drop (place + 1) streams) ≡ old ++ flat_streams (before streams place) (drop place streams)
streams_more streams place n earlier old new below is last written =
    let rest = drop (place + 1) streams in
    ap (λ (bs : List NumberedStream). new ++ flat_streams bs rest) (sym (before_more streams place n below is))
    ∙ ap (λ (bytes : List ℕ). bytes ++ flat_streams (n ∷ before streams place) rest) (written ∙ ap (λ (o : Option NumberedStream). old ++ flat_stream o n) last)
    ∙ append_assoc old (flat_stream (last_of_view (before streams place) n) n) (flat_streams (n ∷ before streams place) rest)
    ∙ ap (λ (m : NumberedStream). old ++ flat_streams (before streams place) (m ∷ rest)) is
    ∙ ap (λ (bytes : List ℕ). old ++ bytes) (sym (at_drop_more (flat_streams (before streams place)) streams place n below))

-- its place is that of the last of its view
pub places_more : (streams : List NumberedStream) (place : ℕ) (n : NumberedStream) (view : ℕ) (old new : Option ℕ)
    → place < length streams → n ≡ get_or streams place n → option_and_then (slice_get streams) old ≡ find (is_of_view view) (before streams place)
    → new ≡ cond (is_at (nat_cmp (view_number n.stream.view)) view) (Some place) old
    → option_and_then (slice_get streams) new ≡ find (is_of_view view) (before streams (place + 1))
places_more streams place n view old new below is last put =
    let own = view_number n.stream.view in
    ap (option_and_then (slice_get streams)) (put ∙ ap (λ (b : Bool). cond b (Some place) old) (unsigned_tied own view))
    ∙ at (own == view)
    ∙ ap (find (is_of_view view)) (before_more streams place n below is)
  where
    at : (b : Bool) → option_and_then (slice_get streams) (cond b (Some place) old) ≡ cond b (Some n) (find (is_of_view view) (before streams place))
    at true = slice_get_read streams (length streams) place n refl below is
    at false = last
