-- the head is right, and so the keys decide
use Rattle.std.proofs.Common.{◌≡◌, ◌<◌, List, Some, ap, arith, length, refl, slice_get, subst, sym, ◌∙◌, ℕ, Option}
use Rattle.std.specs.Prelude.{is_some, map, not}
use Rattle.std.proofs.lemmas.Bool.Decides.{nat_tests}
use Rattle.std.proofs.lemmas.Option.{slice_get_read}
use Rattle.metric_contents.specs.Attributes.{given_by}
use Rattle.metric_contents.specs.declared.contents.Instrument.{Instrument}
use Rattle.metric_contents.specs.declared.contents.Key.{Key}
use Rattle.metric_meaning.proofs.MeaningLaws.{means_by}
use Rattle.metric_meaning.specs.Agreeing.{HasHead, keys_agree, shape_by}
use Rattle.metric_meaning.proofs.comparing.first_difference.Goals as goal

pub returns-in-None-clause-means : goal.returns-in-None-clause-means
returns-in-None-clause-means c =
    let contents = c.args.catalogue.now in
    let number = c.args.number in
    let all = c.instruments.result.now in
    let own = c.in-Some.own.now in
    let there = c.in-Some.ensures.lookup in
    let below : number < length all = grind (arith, nat_tests, there.0) in
    let found : slice_get contents.instruments number ≡ Some own =
    ap (λ (is : List Instrument). slice_get is number) (sym c.instruments.ensures.instruments) ∙ slice_get_read all (length all) number own refl below there.1 in
    let head = subst (λ (name : Option (List ℕ)). HasHead name own (shape_by c.args.expected.now)) c.meter_name.ensures c.in-None.ensures.head in
    means_by contents number own c.args.expected.now c.keys_difference.result found head
    (subst (λ (keys : List Key). is_some c.keys_difference.result ≡ not (keys_agree c.args.expected.now.optional keys (map given_by c.args.expected.now.keys.now)))
    c.as_slice.ensures.items c.keys_difference.ensures.keys)
