-- The greatest time of instruments that are looked at one after the other.
use Rattle.std.proofs.Common.{◌≡◌, ◌<◌, ℕ, ◌+◌, Bool, true, false, List, Result, [], ◌∷◌, ◌++◌, get_or, length, map, take, refl, sym, ap, subst, ◌∙◌, arith}
use Rattle.std.specs.Prelude.{All, fold, max}
use Rattle.std.specs.List.{AllZip}
use Rattle.std.proofs.lemmas.List.{take_more}
use Rattle.std.proofs.lemmas.List.Elements.{All-cons, All-nil}
use Rattle.std.proofs.lemmas.List.Sums.{fold-append}
use Rattle.std.proofs.lemmas.Slice.Zip.{all_zipped_more}
use Rattle.metric_history.specs.Journals.{Standing}
use Rattle.metric_core.specs.Cells.{CellKept, CellValue, latest}
use Rattle.metric_provider.specs.Locked.{AreLanes, AreLocked}
use Rattle.metric_provider.specs.Rolling.{IsLatest, IsTimeBehind, IsTimeOfLane, RefusesNext, RefusesRoll, TellsLatest, latest_of}
use Rattle.metric_seat.specs.declared.fault.FinishFault.{FinishFault}
use Rattle.metric_provider.specs.declared.fault.RollFault.{RollFault}
use Rattle.metric_provider.specs.declared.fault.RollFault.TheVariants.{SameRun, Early, Finish}

pub none : {T : Type 0} (tells : T → ℕ → Type 0) → TellsLatest tells [] 0
none tells = record { times = []; each = tt; is = refl }

-- of one more
pub one_more : {T : Type 0} (tells : T → ℕ → Type 0) (all : List T) (at : ℕ) (x : T) → at < length all → x ≡ get_or all at x → (before time : ℕ)
    → TellsLatest tells (take at all) before → tells x time → TellsLatest tells (take (at + 1) all) (max before time)
one_more {T} tells all at x below here before time told one =
    let more : take (at + 1) all ≡ take at all ++ x ∷ [] = take_more all at x below ∙ ap (λ (y : T). take at all ++ y ∷ []) (sym here) in
    record {
      times = told.times ++ time ∷ [];
      each = subst (λ (xs : List T). AllZip tells xs (told.times ++ time ∷ [])) (sym more) (all_zipped_more tells (take at all) told.times x time told.each one);
      is = ap (λ (n : ℕ). max n time) told.is ∙ sym (fold-append max 0 told.times (time ∷ []));
    }

-- lanes behind locks with these times
record AreLanesTimed {B : Type 0} (standing : B → Standing) (count : ℕ) (times : List ℕ) : Type 0 where
  pub cells : List (CellValue B)
  pub long : length cells ≡ count
  pub kept : All (CellKept standing) cells
  pub same : map latest cells ≡ times

lanes_timed : {B T : Type 0} (standing : B → Standing) (all : List T) (times : List ℕ) → AllZip (λ (x : T) (time : ℕ). IsTimeOfLane standing time) all times
    → AreLanesTimed standing (length all) times
lanes_timed standing [] [] each = record { cells = []; long = refl; kept = All-nil (CellKept standing); same = refl }
lanes_timed standing [] (time ∷ times) each = absurd each
lanes_timed standing (x ∷ all) [] each = absurd each
lanes_timed standing (x ∷ all) (time ∷ times) each =
    let one = each.0 in
    let rest = lanes_timed standing all times each.1 in
    record {
      cells = one.cell ∷ rest.cells;
      long = omega (arith, rest.long);
      kept = All-cons (CellKept standing) one.cell rest.cells one.kept rest.kept;
      same = ap (λ (n : ℕ). n ∷ map latest rest.cells) (sym one.is) ∙ ap (λ (ns : List ℕ). time ∷ ns) rest.same;
    }

-- what the locks told is of the lanes behind them
pub is_behind : {B T : Type 0} (standing : B → Standing) (all : List T) (time : ℕ) → 0 < length all
    → TellsLatest (λ (x : T) (t : ℕ). IsTimeOfLane standing t) all time → IsTimeBehind standing time
is_behind {B} standing all time some told =
    let found = lanes_timed standing all told.times told.each in
    record {
      cells = found.cells;
      kept = record { some = omega (arith, some, found.long); kept = found.kept };
      is = told.is ∙ ap (λ (ns : List ℕ). fold max 0 ns) (sym found.same);
    }

-- instruments behind locks with these times
record AreTimed {B : Type 0} (standing : B → Standing) (locks : ℕ) (times : List ℕ) : Type 0 where
  pub lanes : List (List (CellValue B))
  pub locked : AreLocked standing locks lanes
  pub same : map latest_of lanes ≡ times

timed : {B T : Type 0} (standing : B → Standing) (all : List T) (times : List ℕ) → AllZip (λ (x : T) (time : ℕ). IsTimeBehind standing time) all times
    → AreTimed standing (length all) times
timed standing [] [] each = record { lanes = []; locked = record { one_each = refl; kept = All-nil (AreLanes standing) }; same = refl }
timed standing [] (time ∷ times) each = absurd each
timed standing (x ∷ all) [] each = absurd each
timed standing (x ∷ all) (time ∷ times) each =
    let one = each.0 in
    let rest = timed standing all times each.1 in
    record {
      lanes = one.cells ∷ rest.lanes;
      locked = record {
        one_each = omega (arith, rest.locked.one_each);
        kept = All-cons (AreLanes standing) one.cells rest.lanes one.kept rest.locked.kept;
      };
      same = ap (λ (n : ℕ). n ∷ map latest_of rest.lanes) (sym one.is) ∙ ap (λ (ns : List ℕ). time ∷ ns) rest.same;
    }

-- what the locks told is of the instruments behind them
pub is_latest : {B T : Type 0} (standing : B → Standing) (all : List T) (locks time : ℕ) → length all ≡ locks
    → TellsLatest (λ (x : T) (t : ℕ). IsTimeBehind standing t) all time → IsLatest standing locks time
is_latest {B} standing all locks time long told =
    let found = timed standing all told.times told.each in
    record {
      lanes = found.lanes;
      locked = record { one_each = found.locked.one_each ∙ long; kept = found.locked.kept };
      is = told.is ∙ ap (λ (ns : List ℕ). fold max 0 ns) (sym found.same);
    }

-- what refuses to begin the next run refuses to go over
pub roll_refused : {B : Type 0} (standing : B → Standing) (locks : ℕ) (same : Bool) (start : ℕ) (ended : Result (Unit {0}) FinishFault) (fault : RollFault)
    → RefusesNext standing locks same start fault → RefusesRoll standing locks same start ended fault
roll_refused standing locks true start ended fault refused = refused
roll_refused standing locks false start ended SameRun refused = refused
roll_refused standing locks false start ended (Early time) refused = refused
roll_refused standing locks false start ended (Finish why) refused = absurd refused
