use Rattle.std.proofs.Common.{◌+◌, get_or, sym, ap, ◌∙◌, subst}
use Rattle.std.specs.Global.{Vec}
use Rattle.judge_search.specs.Calls.{calls_of, no_call, tries_from}
use Rattle.judge_search.specs.Point.{made_of, point_at, point_views}
use Rattle.judge_search.specs.Views.{LedTo}
use Rattle.judge_search.proofs.ReachedPoints.{HasTried, tried_made, tried_lost, tried_all}
use Rattle.judge_search.proofs.Tries.{all_choices}
use Rattle.judge_search.proofs.reaching.points_after.Goals as goal
use Rattle.judge_search.proofs.reaching.points_after.Goals.{in-Some-2+in_ok-push, in_default-2}

pub tries-preserved : goal.tries-preserved
tries-preserved g c =
    let X = g.M.Object.rules in
    let calls = c.args.calls.now in
    let point = c.args.point.now in
    let at = point_at X calls in
    let made = made_of point in
    let cs = calls_of calls.lines.items in
    let p = c.in-Some.place in
    let call = get_or cs p (no_call X) in
    let next = c.in-Some.ensures.next in
    let tries = tries_from made cs 0 in
    let left = tries_from made cs c.tries.from in
    let others = tries_from made cs (p + 1) in
    elim c.match-branch-2.branch [
      | in-Some-2+in_ok-push w ↦
          let led = subst (LedTo X (point_views X calls) point p) w.in-Some-2.is c.in_ok-next.ensures in
          subst (HasTried X at (at point) tries others)
          (sym (ap (λ (v : Vec _). v.items) w.nexts-is ∙ w.in_ok-push.ensures.items))
          (tried_made X at (at point) tries left others c.tries.nexts.items call w.in-Some-2.next next.is next.may
          led.0 led.1 c.tries.invariant)
      | in_default-2 w ↦
          let led = subst (LedTo X (point_views X calls) point p) w.in_default-2.is c.in_ok-next.ensures in
          subst (HasTried X at (at point) tries others) (sym (ap (λ (v : Vec _). v.items) w.nexts-is))
          (tried_lost X at (at point) tries left others c.tries.nexts.items call next.is led c.tries.invariant)
    ]

pub returns : goal.returns
returns g c =
    let X = g.M.Object.rules in
    let calls = c.args.calls.now in
    let point = c.args.point.now in
    let made = made_of point in
    let cs = calls_of calls.lines.items in
    tried_all X (point_at X calls) (point_at X calls point) (tries_from made cs 0) (tries_from made cs c.tries.from)
    c.tries.nexts.items c.in_default.ensures.next (all_choices X made cs) c.tries.invariant
