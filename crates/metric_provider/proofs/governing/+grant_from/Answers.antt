use Rattle.std.proofs.Common.{◌∙◌, ◌+◌}
use Rattle.std.proofs.lemmas.Result.{on_ok_weaker}
use Rattle.metric_provider.proofs.StepLaws.{grants_here, grants_none, grants_other, on_err, ungranted_here, ungranted_inside, ungranted_more}
use Rattle.metric_provider.proofs.governing.+grant_from.Goals as goal

pub returns-then-at-count-clause-grants : goal.returns-then-at-count-clause-grants
returns-then-at-count-clause-grants g t c =
    let asked = c.args.asked.now in
    on_ok_weaker c.enough.result
    (λ is. grants_none g.L.Row.does c.args.diary.now c.inside.new.diary c.args.at (g.L.Row.count c.args.row.now) asked.facts.now c.args.left c.args.lane asked.recorder asked.amount
    (c.if-at-count.true ∙ c.count.ensures) c.inside.ensures is) c.enough.ensures.enough

pub returns-then-at-count-clause-nothing : goal.returns-then-at-count-clause-nothing
returns-then-at-count-clause-nothing g t c = on_err c.enough.result _ (ungranted_inside g.L.Row.does c.args.diary.now c.inside.new.diary c.args.at c.args.asked.now.facts.now c.args.asked.now.recorder c.args.asked.now.amount c.inside.ensures)

pub returns-in-Err-clause-nothing : goal.returns-in-Err-clause-nothing
returns-in-Err-clause-nothing g t c =
    let asked = c.args.asked.now in
    ungranted_more g.L.Row.does c.args.diary.now c.lock-held.new.diary c.may_grant.new.diary c.inside-in-Err.new.diary c.unlock.new.diary c.args.at asked.facts.now asked.recorder asked.amount
    c.lock-held.result c.may_grant.new.held c.may_grant.result c.lock-held.ensures c.may_grant.ensures.does
    (ungranted_inside g.L.Row.does c.may_grant.new.diary c.inside-in-Err.new.diary (c.args.at + 1) asked.facts.now asked.recorder asked.amount c.inside-in-Err.ensures) c.unlock.ensures

pub returns-in-Err-grant_from-clause-nothing : goal.returns-in-Err-grant_from-clause-nothing
returns-in-Err-grant_from-clause-nothing g t c =
    let asked = c.args.asked.now in
    ungranted_more g.L.Row.does c.args.diary.now c.lock-held.new.diary c.may_grant.new.diary c.grant_from.new.diary c.unlock-in-Err-grant_from.new.diary c.args.at asked.facts.now asked.recorder asked.amount
    c.lock-held.result c.may_grant.new.held c.may_grant.result c.lock-held.ensures c.may_grant.ensures.does
    c.in-Err-grant_from.ensures.nothing c.unlock-in-Err-grant_from.ensures

pub returns-then-at-lane-clause-grants : goal.returns-then-at-lane-clause-grants
returns-then-at-lane-clause-grants g t c =
    let asked = c.args.asked.now in
    grants_other g.L.Row.does c.args.diary.now c.lock-held.new.diary c.may_grant.new.diary c.grant_from.new.diary c.unlock-then-at-lane.new.diary c.args.at (g.L.Row.count c.args.row.now) asked.facts.now
    c.args.left c.in-Ok.granted c.saturating_sub-left.result c.args.lane asked.recorder asked.amount c.lock-held.result c.may_grant.new.held c.if-at-lane.true
    c.lock-held.ensures c.in-Ok.ensures.does c.saturating_sub-left.ensures c.in-Ok-grant_from.ensures.grants c.unlock-then-at-lane.ensures

pub returns-clause-grants : goal.returns-clause-grants
returns-clause-grants g t c =
    let asked = c.args.asked.now in
    grants_here g.L.Row.does c.args.diary.now c.lock-held.new.diary c.may_grant.new.diary c.grant_from.new.diary c.grant-own.new.diary c.unlock-2.new.diary c.args.at (g.L.Row.count c.args.row.now) asked.facts.now
    c.args.left c.in-Ok.granted c.saturating_sub-left.result c.args.lane asked.recorder asked.amount c.lock-held.result c.may_grant.new.held c.grant-own.new.held c.grant-own.result c.if-at-lane.false
    c.lock-held.ensures c.in-Ok.ensures.does c.saturating_sub-left.ensures c.in-Ok-grant_from.ensures.grants c.grant-own.ensures.does c.unlock-2.ensures

pub returns-clause-nothing : goal.returns-clause-nothing
returns-clause-nothing g t c =
    let asked = c.args.asked.now in
    ungranted_here g.L.Row.does c.args.diary.now c.lock-held.new.diary c.may_grant.new.diary c.grant_from.new.diary c.grant-own.new.diary c.unlock-2.new.diary c.args.at (g.L.Row.count c.args.row.now) asked.facts.now
    c.in-Ok.granted c.saturating_sub-left.result c.args.lane asked.recorder asked.amount c.lock-held.result c.may_grant.new.held c.grant-own.new.held c.grant-own.result c.if-at-lane.false
    c.lock-held.ensures c.in-Ok.ensures.does c.in-Ok-grant_from.ensures.grants c.grant-own.ensures.does c.unlock-2.ensures
