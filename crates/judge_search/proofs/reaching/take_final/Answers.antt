use Rattle.std.proofs.Common.{refl}
use Rattle.judge_search.specs.Point.{point_at}
use Rattle.judge_search.proofs.ReachedPoints.{final_more, final_less}
use Rattle.judge_search.proofs.reaching.take_final.Goals as goal

pub returns-in_ok-push : goal.returns-in_ok-push
returns-in_ok-push g c = λ before h.
    final_more (point_at g.M.Object.rules c.args.calls.now) before c.args.point c.args.states.now.items
    c.push.new.self.items (c.is_done.ensures.left.0 c.if-is_done.true) c.in_ok-push.ensures.items h

pub returns-else-is_done : goal.returns-else-is_done
returns-else-is_done g c = λ before h.
    final_less (point_at g.M.Object.rules c.args.calls.now) before c.args.point c.args.states.now.items
    c.args.states.now.items (c.is_done.ensures.left.1 c.if-is_done.false) refl h
