use Rattle.std.proofs.Common.{ap, ◌∙◌, ◌++◌, ◌∷◌, []}
use Rattle.judge_calls.proofs.Handed.{push_more}
use Rattle.judge_calls.proofs.work.Workload.push.Goals as goal

pub returns : goal.returns
returns c =
    let took = c.take_tasks-tasks.ensures in
    push_more c.args.self.now (record { clients = c.push-2.new.self; tasks = c.insert.new.self }) c.args.client
    c.args.task c.take_tasks-tasks.result c.push.new.self _
    took.tasks c.in_ok-push.ensures.items took.left c.in_ok-insert.ensures
    (c.in_ok-push-2.ensures.items ∙ ap (λ v. v.items ++ c.args.client ∷ []) took.clients)
