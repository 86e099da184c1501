-- the headroom of each instrument, lowered by all streams
use Rattle.std.proofs.Common.{◌≡◌, List, length, get_or, sym, ap, subst, ◌∙◌, arith}
use Rattle.std.specs.List.{AllZip}
use Rattle.metric_resolve.specs.Applying.{all_instruments}
use Rattle.metric_lint.specs.declared.headroom.Headroom.{Headroom}
use Rattle.metric_lint.specs.declared.limit.Limit.TheVariants.{Count}
use Rattle.metric_lint.specs.Headrooms.{IsHeadroom, IsOwnHeadroom}
use Rattle.metric_lint.proofs.Lists.{each_below, written_back}
use Rattle.metric_lint.proofs.Rooms.{room_is}
use Rattle.metric_lint.proofs.headroom.headrooms_of.Goals as goal

pub returns : goal.returns
returns c =
    let contents = c.args.catalogue.now in
    let streams = c.args.streams.now in
    let d : Headroom = record { total = 0; most = 0; limit = Count } in
    let own = c.in_ok-own.own in
    let vec = c.into_vec-all.result in
    let old = c.as_mut_slice.result.now in
    let new = c.tighten_all.new.all in
    let value = ap length c.as_mut_slice.ensures.value in
    let len = c.as_mut_slice.ensures.len in
    let long = c.tighten_all.ensures.length in
    let same = ap length c.into_vec-all.ensures in
    let count = c.in_ok-own.ensures.length in
    let is : c.from_vec.result ≡ new = c.from_vec.ensures ∙ written_back vec.len new vec.items (omega arith) (omega arith) in
    let is_own = c.as_mut_slice.ensures.value ∙ c.into_vec-all.ensures in
    subst (λ (all : List Headroom). AllZip (IsHeadroom contents streams) (all_instruments contents) all) (sym is)
    (each_below (IsHeadroom contents streams) (length contents.instruments) new d (omega arith)
    (λ i less.
    room_is contents streams i (get_or old i d) (get_or new i d)
    (subst (λ (all : List Headroom). IsOwnHeadroom contents streams i (get_or all i d)) (sym is_own) (c.in_ok-own.ensures.each i d less))
    (c.in_ok-tighten_all.ensures.tightened i d (omega arith))))
