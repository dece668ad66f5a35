use Rattle.std.proofs.Common.{◌≡◌, ◌≤◌, ◌<◌, length, ap, arith}
use Rattle.std.specs.Prelude.{vec_len}
use Rattle.judge_search.specs.Point.{point_at}
use Rattle.judge_search.proofs.ReachedPoints.{reaches_more_points, reaches_all}
use Rattle.judge_search.proofs.reaching.reach_all.Goals as goal

pub returns-then-len-number : goal.returns-then-len-number
returns-then-len-number g c =
    let X = g.M.Object.rules in
    let at = point_at X c.args.calls.now in
    let points = c.points.known.points in
    let long : vec_len points ≡ length points.items = points.ok.0 in
    let all : length points.items ≤ c.points.number =
    (let e = c.len.ensures in let t = c.if-len-number.true in omega arith) in
    reaches_all X at (at c.args.start) c.points.number points.items all c.points.invariant

pub points-preserved : goal.points-preserved
points-preserved g c =
    let X = g.M.Object.rules in
    let at = point_at X c.args.calls.now in
    let points = c.points.known.points in
    let here = c.index.result.now in
    let long : vec_len points ≡ length points.items = points.ok.0 in
    let within : c.points.number < length points.items =
    (let e = c.len.ensures in let t = c.if-len-number.false in omega arith) in
    reaches_more_points X at (at c.args.start) c.points.number points.items c.in_ok-nexts.nexts.items
    c.meet_all.new.known.points.items here within (ap at c.index.ensures) c.in_ok-nexts.ensures
    (c.in_ok-meet_all.ensures c.args.calls.now)
    c.points.invariant
