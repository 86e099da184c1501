-- by which of the first points comes first
use Rattle.std.proofs.Common.{true, false, ◌∙◌, sym}
use Rattle.metric_lanes.specs.Merging.{next_of, joined_point}
use Rattle.metric_lanes.proofs.MergingLaws.{answered, firsts_fit, next_equal, next_greater, next_less, next_of_first, next_of_second}
use Rattle.metric_lanes.proofs.together.next_point.Goals as goal

pub returns-in_default : goal.returns-in_default
returns-in_default c =
    answered c.args.left.now c.args.right.now (next_of c.index-right-0.result false true) c.of_second.result c.of_second.ensures
    (next_of_second c.args.left.now c.args.right.now c.index-right-0.result c.in_default.len_below c.requires.some c.index-right-0.is)

pub returns-in_default-right : goal.returns-in_default-right
returns-in_default-right c =
    answered c.args.left.now c.args.right.now (next_of c.a-item.result true false) c.of_first.result c.of_first.ensures
    (next_of_first c.args.left.now c.args.right.now c.a-item.result c.in-len1-up.len_at_least c.a-item.is c.in_default-right.len_below)

pub of_both-requires : goal.of_both-requires
of_both-requires c =
    firsts_fit c.args.left.now c.args.right.now c.a-item.result c.b-item.result c.requires.can c.in-len1-up.len_at_least c.a-item.is c.in-len1-up-right.len_at_least c.b-item.is
    (sym c.order_of.ensures ∙ c.in-Equal.is)

pub returns-in-Less : goal.returns-in-Less
returns-in-Less c =
    answered c.args.left.now c.args.right.now (next_of c.a-item.result true false) c.of_first-in-Less.result c.of_first-in-Less.ensures
    (next_less c.args.left.now c.args.right.now c.a-item.result c.b-item.result c.in-len1-up.len_at_least c.a-item.is c.in-len1-up-right.len_at_least c.b-item.is
    (sym c.order_of.ensures ∙ c.in-Less.is))

pub returns-in-Equal : goal.returns-in-Equal
returns-in-Equal c =
    answered c.args.left.now c.args.right.now (next_of (joined_point c.a-item.result c.b-item.result) true true) c.of_both.result c.of_both.ensures
    (next_equal c.args.left.now c.args.right.now c.a-item.result c.b-item.result c.requires.can c.in-len1-up.len_at_least c.a-item.is c.in-len1-up-right.len_at_least c.b-item.is
    (sym c.order_of.ensures ∙ c.in-Equal.is))

pub returns-in-Greater : goal.returns-in-Greater
returns-in-Greater c =
    answered c.args.left.now c.args.right.now (next_of c.b-item.result false true) c.of_second-in-Greater.result c.of_second-in-Greater.ensures
    (next_greater c.args.left.now c.args.right.now c.a-item.result c.b-item.result c.in-len1-up.len_at_least c.a-item.is c.in-len1-up-right.len_at_least c.b-item.is
    (sym c.order_of.ensures ∙ c.in-Greater.is))
