use Rattle.std.proofs.lemmas.Bool.Decides.{same_from_decides}
use Rattle.metric_glob.proofs.RowLemmas.{found_in, has_place-Decides}
use Rattle.metric_glob.proofs.confirming.has_place.Goals as goal

pub returns : goal.returns
returns c =
    let found = found_in c.args.row.now c.args.place c.binary_search.result c.requires.rising c.binary_search.ensures.position in
    let has = rw (← c.is_ok.ensures.value) at found in
    record { has = has; value = same_from_decides c.is_ok.result _ has (has_place-Decides c.args.row.now c.args.place) }
