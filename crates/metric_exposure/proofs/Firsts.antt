-- The first stream that claims a name, or a scope in a family, with one stream more.
use Rattle.std.proofs.Common.{◌≡◌, ℕ, ◌+◌, ◌<◌, Bool, true, cond, List, [], ◌∷◌, ◌++◌, length, take, get_or, Some, None, refl, sym, ap, ◌∙◌, arith, length-take, ◌==◌}
use Rattle.std.specs.List.{position_from}
use Rattle.std.proofs.lemmas.List.{take_more}
use Rattle.std.proofs.lemmas.Option.{slice_get_read}
use Rattle.metric_contents.specs.PlaceLaws.{or_else, position_from-push}
use Rattle.metric_contents.specs.declared.contents.Contents.{Contents}
use Rattle.metric_views.specs.declared.stream.Stream.{Stream}
use Rattle.metric_exposure.specs.Collisions.{first_claim, is_claimed}
use Rattle.metric_exposure.specs.Exposures.{faults_at, stream_faults}
use Rattle.metric_exposure.specs.Sharing.{first_scoped, is_scoped}
use Rattle.metric_exposure.specs.declared.outlet.Outlet.{Outlet}

first-more : (test : Stream → Bool) (streams : List Stream) (n : ℕ) (stream : Stream) → n < length streams → stream ≡ get_or streams n stream
    → position_from test 0 (take (n + 1) streams) ≡ or_else (position_from test 0 (take n streams)) (cond (test stream) (Some n) None)
first-more test streams n stream within is =
    let len : 0 + length (take n streams) ≡ n = omega (arith, length-take n streams) in
    let more : take (n + 1) streams ≡ take n streams ++ stream ∷ [] = take_more streams n stream within ∙ ap (λ (x : Stream). take n streams ++ x ∷ []) (sym is) in
    let pushed = position_from-push test 0 (take n streams) stream in
    rw more (rw len at pushed)

pub first_claim-more : (reader : ℕ) (streams : List Stream) (n : ℕ) (stream : Stream) (name : List ℕ) → n < length streams → stream ≡ get_or streams n stream
    → first_claim reader (take (n + 1) streams) name ≡ or_else (first_claim reader (take n streams) name) (cond (is_claimed reader name stream) (Some n) None)
unfolding first_claim
first_claim-more reader streams n stream name within is = first-more (is_claimed reader name) streams n stream within is

pub first_scoped-more : (contents : Contents) (reader : ℕ) (streams : List Stream) (n : ℕ) (stream : Stream) (name : List ℕ) → n < length streams → stream ≡ get_or streams n stream
    → first_scoped contents reader (take (n + 1) streams) name ≡ or_else (first_scoped contents reader (take n streams) name) (cond (is_scoped contents reader name stream) (Some n) None)
unfolding first_scoped
first_scoped-more contents reader streams n stream name within is = first-more (is_scoped contents reader name) streams n stream within is

-- the faults at a place
pub faults_own : (outlet : Outlet) (contents : Contents) (streams : List Stream) (reader n : ℕ) (stream : Stream) → n < length streams → stream ≡ get_or streams n stream
    → (stream.reader == reader) ≡ true → faults_at outlet contents streams reader n ≡ stream_faults outlet contents streams reader n stream
unfolding faults_at
faults_own outlet contents streams reader n stream within is own = rw (slice_get_read streams (length streams) n stream refl within is, own) refl

pub faults_is : (outlet : Outlet) (contents : Contents) (streams : List Stream) (reader n : ℕ) (stream : Stream) → n < length streams → stream ≡ get_or streams n stream
    → faults_at outlet contents streams reader n ≡ cond (stream.reader == reader) (stream_faults outlet contents streams reader n stream) []
unfolding faults_at
faults_is outlet contents streams reader n stream within is = rw (slice_get_read streams (length streams) n stream refl within is) refl
