use Rattle.std.proofs.Common.{sym, subst}
use Rattle.judge_search.specs.Point.{point_views}
use Rattle.judge_search.specs.Frontier.{NodeLedTo, Settles}
use Rattle.judge_search.proofs.Fronts.{settles_itself, settles_more}
use Rattle.judge_search.proofs.frontier.settled.Goals as goal
use Rattle.judge_search.proofs.frontier.settled.Goals.{then-is_read+in_ok-next+in-Some-2}
use Rattle.judge_search.proofs.frontier.settled.Goals.{then-is_read+in_ok-next+in_default-2}
use Rattle.judge_search.proofs.frontier.settled.Goals.{else-is_read}

pub tries-init : goal.tries-init
tries-init g c = settles_itself g.M.Object.rules c.args.calls.now c.args.node

pub tries-preserved : goal.tries-preserved
tries-preserved g c =
    let X = g.M.Object.rules in
    let calls = c.args.calls.now in
    let first = c.args.node in
    let here = c.tries.node in
    let place = c.in-Some.place in
    let call = (point_views X calls).call place in
    elim c.if-is_read.branch [
      | then-is_read+in_ok-next+in-Some-2 w ↦
          let led = subst (NodeLedTo X calls here place) w.in-Some-2.is w.in_ok-next.ensures in
          subst (Settles X calls first) (sym w.node-is)
          (settles_more X calls first here w.in-Some-2.next call c.tries.invariant
          (record { may = c.in-Some.ensures.next.may; fit = led.0 }) (c.is_read.ensures w.if-is_read.true) led.1 led.2)
      | then-is_read+in_ok-next+in_default-2 w ↦
          subst (Settles X calls first) (sym w.node-is) c.tries.invariant
      | else-is_read w ↦ subst (Settles X calls first) (sym w.node-is) c.tries.invariant
    ]
