-- What is tested of an entry is whether it has the number that it names, and the list of its stream.
use Rattle.std.proofs.Common.{◌≡◌, ◌+◌, ℕ, Bool, List, length, Option, Some, None, IsTrue, refl, sym, ap, subst, ◌∙◌, below_more}
use Rattle.std.specs.Prelude.{◌↔◌, nat_eq, slice_get}
use Rattle.std.specs.Bool.{beq}
use Rattle.std.specs.Cmp.{booleans_Decides}
use Rattle.std.specs.Cmp.Lexicographic.{pointwise}
use Rattle.std.proofs.lemmas.Option.{same_Some}
use Rattle.std.proofs.lemmas.Slice.Eq.{bytes_eq-Decides, slice_eq-Decides}
use Rattle.metric_contents.specs.declared.contents.Contents.{Contents}
use Rattle.metric_contents.specs.declared.contents.Instrument.{Instrument}
use Rattle.metric_views.specs.declared.stream.Stream.{Stream}
use Rattle.metric_bounds.specs.Amounts.{total_of}
use Rattle.metric_bounds.specs.Sets.{count_or, list_within, listed_of, product_of, sets_of}
use Rattle.metric_bounds.specs.Sums.{is_summed}
use Rattle.metric_cert.specs.declared.bound.InstrumentBound.{InstrumentBound}
use Rattle.metric_cert.specs.declared.stream.By.{By}
use Rattle.metric_cert.specs.declared.stream.By.TheVariants as by
use Rattle.metric_cert.specs.declared.stream.StreamSets.{StreamSets}
use Rattle.metric_cert.specs.Valid.{IsListed, bound_by}
use Rattle.metric_plan.specs.declared.fault.CheckFault.{CheckFault}
use Rattle.metric_check.specs.Findings.{BoundFinds, NumbersFind, NumbersFindAt}
use Rattle.metric_check.specs.Known.{AreListed, IsLike}

as_many : (contents : Contents) (stream : Stream) (list : List (List ℕ)) → listed_of contents stream ≡ Some list → sets_of contents stream ≡ length list
unfolding sets_of
as_many contents stream list is = ap (count_or (product_of contents stream)) is

pub listed_has : (contents : Contents) (stream : Stream) (own : By) (list : List (List ℕ)) (sets : ℕ) (has right : Bool) → own ≡ by.List list
    → (IsTrue right ↔ (listed_of contents stream ≡ Some list)) → (IsTrue has ↔ (IsTrue right × (sets ≡ length list)))
    → (IsTrue has ↔ (IsListed contents stream own × (sets ≡ bound_by contents stream own)))
listed_has contents stream own list sets has right is told long = rw is (
  (λ t.
      let both = long.0 t in
      let here = told.0 both.0 in
      (here, both.1 ∙ sym (as_many contents stream list here))),
  (λ h. long.1 (told.1 h.0, h.1 ∙ as_many contents stream list h.0)),
)

pub budget_has : (contents : Contents) (stream : Stream) (own : By) (sets : ℕ) (has : Bool) → own ≡ by.Budget
    → (IsTrue has ↔ (sets ≡ total_of contents stream.instrument)) → (IsTrue has ↔ (IsListed contents stream own × (sets ≡ bound_by contents stream own)))
budget_has contents stream own sets has is told = rw is ((λ t. (tt, told.0 t)), (λ h. told.1 h.1))

pub same_flags : (xs ys : List Bool) (b : Bool) → b ≡ pointwise beq xs ys → IsTrue b → xs ≡ ys
same_flags xs ys b given = (slice_eq-Decides booleans_Decides xs ys b given).0

-- streams of one instrument that keep the same keys have one list
pub like_list : (contents : Contents) (stream other : Stream) → IsLike stream other → listed_of contents stream ≡ listed_of contents other
unfolding listed_of
like_list contents stream other like =
    ap (λ (n : ℕ). list_within stream (slice_get contents.instruments n)) like.instrument ∙ same (slice_get contents.instruments other.instrument)
  where
    same : (o : Option Instrument) → list_within stream o ≡ list_within other o
    same None = refl
    same (Some i) = rw like.kept refl

pub listed_like : (contents : Contents) (stream other : Stream) (own : By) (list : List (List ℕ)) → IsLike stream other → IsListed contents other own → own ≡ by.List list
    → listed_of contents stream ≡ Some list
listed_like contents stream other own list like listed is = like_list contents stream other like ∙ subst (IsListed contents other) is listed

pub listed_more : (contents : Contents) (streams : List Stream) (entries : List StreamSets) (n : ℕ) (stream : Stream) (entry : StreamSets) → AreListed contents streams entries n
    → slice_get streams n ≡ Some stream → slice_get entries n ≡ Some entry → IsListed contents stream entry.by → AreListed contents streams entries (n + 1)
listed_more contents streams entries n stream entry before at own here =
    below_more _ _ before (λ s e a b.
    subst (λ (x : StreamSets). IsListed contents s x.by) (same_Some entry e (sym own ∙ b))
    (subst (λ (x : Stream). IsListed contents x entry.by) (same_Some stream s (sym at ∙ a)) here))

-- a list is the stream's where it is equal to that one
pub same_list : (listed : Option (List (List ℕ))) (own list : List (List ℕ)) (b : Bool) → listed ≡ Some own → b ≡ pointwise (pointwise nat_eq) own list → IsTrue b ↔ (listed ≡ Some list)
same_list listed own list b is given =
    let decides = slice_eq-Decides bytes_eq-Decides own list b given in (
      (λ t. is ∙ ap (λ (l : List (List ℕ)). Some l) (decides.0 t)),
      (λ e. decides.1 (same_Some own list (sym is ∙ e))),
    )

-- what is found of the numbers of an instrument is found of the bound at its place
pub bound_found : (contents : Contents) (streams : List Stream) (number total : ℕ) (summed : Bool) (i : Instrument) (bound : InstrumentBound) (found : Option CheckFault)
    → slice_get contents.instruments number ≡ Some i → total ≡ total_of contents number → summed ≡ is_summed streams number → NumbersFind number total i (IsTrue summed) bound found
    → BoundFinds contents streams number bound found
bound_found contents streams number total summed i bound found at is_total is_flag finds =
    subst (λ (o : Option Instrument). NumbersFindAt contents streams number o bound found) (sym at)
    (subst (λ (b : Bool). NumbersFind number (total_of contents number) i (IsTrue b) bound found) is_flag
    (subst (λ (t : ℕ). NumbersFind number t i (IsTrue summed) bound found) is_total finds))
