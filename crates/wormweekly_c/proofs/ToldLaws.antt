-- One seat more has told.
use Rattle.std.proofs.Common.{◌≡◌, ◌<◌, ℕ, zero, suc, ◌+◌, List, [], ◌∷◌, ◌++◌, Option, Some, None, Ok, length, take, sym, ap, subst, arith}
use Rattle.std.specs.Prelude.{slice_get, slice_index_or}
use Rattle.wormweekly_c.specs.Codes.{WhereHeld, recorder_in}
use Rattle.wormweekly_c.specs.Settlements.{AllTold, recorders_in}
use Rattle.wormweekly_c.specs.declared.handles.Handle.{Handle}
use Rattle.metric_hosted.specs.declared.planned.HostedRecorder.{HostedRecorder}
use Rattle.metric_hosted.specs.declared.settling.SeatTold.{SeatTold}
use Rattle.metric_hosted.specs.Hosts.{HostedValue}
use Rattle.metric_hosted.specs.Settlements.{TellsOf}

-- the recorder that the handle of a place holds
pub seat_at : (handles : List Handle) (i : ℕ) (own : Handle) → i < length handles → own ≡ slice_index_or handles i own
    → slice_get (recorders_in handles) i ≡ Some (recorder_in own)
seat_at [] i own below is = absurd (omega arith)
seat_at (h ∷ handles) zero own below is = ap (λ (r : Handle). Some (recorder_in r)) (sym is)
seat_at (h ∷ handles) (suc i) own below is = seat_at handles i own (omega arith) is

tells : (h : HostedValue) (v : Option HostedRecorder) (told : SeatTold) → WhereHeld v ⊥ (λ own. TellsOf own.plan h own.seat (Ok told)) → AllTold h (v ∷ []) (told ∷ [])
tells h None told given = absurd given
tells h (Some own) told given = (given, tt)

-- with one seat more
pub told_more : (h : HostedValue) (handles : List Handle) (all : List SeatTold) (i : ℕ) (own : Handle) (told : SeatTold) → i < length handles
    → own ≡ slice_index_or handles i own → WhereHeld (recorder_in own) ⊥ (λ r. TellsOf r.plan h r.seat (Ok told)) → AllTold h (take i (recorders_in handles)) all
    → AllTold h (take (i + 1) (recorders_in handles)) (all ++ told ∷ [])
told_more h [] all i own told below is given so_far = absurd (omega arith)
told_more h (x ∷ handles) [] zero own told below is given so_far =
    tells h (recorder_in x) told (subst (λ (r : Handle). WhereHeld (recorder_in r) ⊥ (λ s. TellsOf s.plan h s.seat (Ok told))) is given)
told_more h (x ∷ handles) (t ∷ all) zero own told below is given so_far = absurd so_far
told_more h (x ∷ handles) all (suc i) own told below is given so_far =
    let last : suc i + 1 ≡ suc (i + 1) = omega arith in
    let others : (rest : List SeatTold) → AllTold h (take i (recorders_in handles)) rest → AllTold h (take (i + 1) (recorders_in handles)) (rest ++ told ∷ []) =
    λ rest before. told_more h handles rest i own told (omega arith) is given before in
    subst (λ (n : ℕ). AllTold h (take n (recorders_in (x ∷ handles))) (all ++ told ∷ [])) (sym last) (at others (recorder_in x) all so_far)
  where
    at : ((rest : List SeatTold) → AllTold h (take i (recorders_in handles)) rest → AllTold h (take (i + 1) (recorders_in handles)) (rest ++ told ∷ [])) → (v : Option HostedRecorder) (all' : List SeatTold)
        → AllTold h (v ∷ take i (recorders_in handles)) all' → AllTold h (v ∷ take (i + 1) (recorders_in handles)) (all' ++ told ∷ [])
    at others None all' before = absurd before
    at others (Some r) [] before = absurd before
    at others (Some r) (t ∷ rest) before = (before.0, others rest before.1)
