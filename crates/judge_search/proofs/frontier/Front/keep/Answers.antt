use Rattle.std.proofs.Common.{refl}
use Rattle.std.proofs.lemmas.Result.{on_ok_weaker}
use Rattle.judge_search.proofs.Fronts.{keeps_due, keeps_ahead}
use Rattle.judge_search.proofs.frontier.Front.keep.Goals as goal

pub returns-then-node-end : goal.returns-then-node-end
returns-then-node-end g c =
    on_ok_weaker c.meet.result
    (λ h calls. keeps_due g.M.Object.rules calls c.args.node c.args.self.now
    (record { due = c.meet.new.self; ahead = c.args.self.now.ahead }) (h calls) refl) c.meet.ensures

pub returns-else-node-end : goal.returns-else-node-end
returns-else-node-end g c =
    on_ok_weaker c.meet-else-node-end.result
    (λ h calls. keeps_ahead g.M.Object.rules calls c.args.node c.args.self.now
    (record { due = c.args.self.now.due; ahead = c.meet-else-node-end.new.self }) (h calls) refl)
    c.meet-else-node-end.ensures
