-- of few attributes all are looked at
use Rattle.std.proofs.Common.{◌≡◌, ◌≤◌, arith, length, sym}
use Rattle.std.proofs.lemmas.List.{take_all}
use Rattle.wormweekly_c.proofs.attributes.looked_at.Goals as goal

pub returns-then-given-le-MOST : goal.returns-then-given-le-MOST
returns-then-given-le-MOST c =
    let few : length c.args.given.now ≤ 65 = omega arith in sym (take_all 65 c.args.given.now few)
