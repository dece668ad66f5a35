use Rattle.std.proofs.Common.{refl}
use Rattle.std.proofs.lemmas.Result.{on_ok_weaker}
use Rattle.judge_search.specs.Point.{point_at}
use Rattle.judge_search.proofs.ReachedPoints.{adds_known, adds_new}
use Rattle.judge_search.proofs.known.Known+Point+M.meet.Goals as goal

pub returns-then-has : goal.returns-then-has
returns-then-has g c = λ calls.
    adds_known (point_at (g.M.Object.rules) calls) c.args.point c.args.self.now.points.items
    c.args.self.now.points.items refl (c.has.ensures c.if-has.true calls)

pub returns : goal.returns
returns g c =
    on_ok_weaker c.add.result
    (λ e calls. adds_new (point_at (g.M.Object.rules) calls) c.args.point c.args.self.now.points.items
    c.add.new.self.points.items e) c.add.ensures
