use Rattle.std.proofs.Common.{◌≡◌, ◌||◌, Bool, true, false, codes, rules, tests}
use Rattle.std.proofs.lemmas.Iterator.{YieldsList-from_slice}
use Rattle.std.proofs.lemmas.Iterator.Search.{any_from_yields_List}
use Rattle.metric_queries.specs.Matching.{is_open_by}
use Rattle.metric_queries.proofs.matching.is_open_by_some.Goals as goal
use Rattle.metric_queries.proofs.matching.is_open_by_some.Goals.{then-is_open_by, else-is_open_by}

last : (a b c result : Bool) → a ≡ false → b ≡ false → result ≡ c → result ≡ (a || (b || c))
last a b c result e f g = rw (e, f) g

pub returns-else-is_open_by-2 : goal.returns-else-is_open_by-2
returns-else-is_open_by-2 c =
    let opens = is_open_by c.args.labels.now c.args.label.now in
    let rest = any_from_yields_List opens _ _ _ c.any.ensures.ran (YieldsList-from_slice c.args.added.now cc) (λ x b q k. search (rules, tests)) in
    let job : opens (codes "job") ≡ false = elim c.if-is_open_by.branch [ then-is_open_by w ↦ cc | else-is_open_by w ↦ cc (c.is_open_by.ensures) ] in
    let instance : opens (codes "instance") ≡ false = elim c.if-is_open_by.branch [ then-is_open_by w ↦ cc | else-is_open_by w ↦ cc (w.is_open_by-else-is_open_by.ensures) ] in
    last (opens (codes "job")) (opens (codes "instance")) _ _ job instance rest
