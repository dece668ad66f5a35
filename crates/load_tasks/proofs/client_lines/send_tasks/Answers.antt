use Rattle.std.proofs.Common.{rules, refl, ◌<◌, ◌*◌}
use Rattle.vac_lines.proofs.Extends.{on_err}
use Rattle.load_tasks.specs.Draws.{one}
use Rattle.load_tasks.specs.Tasks.{task_of}
use Rattle.load_tasks.specs.Worklist.{task_line}
use Rattle.load_tasks.proofs.Totals.{one_total, task_total}
use Rattle.load_tasks.proofs.Sending.{sent_more, part_more, sent_task, part_task, unbuilt_task}
use Rattle.load_tasks.proofs.client_lines.send_tasks.Goals as goal

pub returns-in_err-task-clause-err : goal.returns-in_err-task-clause-err
returns-in_err-task-clause-err g c =
    let s = c.args.settings.now in
    let less : c.tasks.counter < s.rounds * s.tasks = search rules in
    on_err c.from_residual.result
    (part_more (task_line c.args.client) (λ _. one (task_of s))
    (λ _. one_total (task_of s) (task_total s)) c.tasks.counter (s.rounds * s.tasks) less _ _ _ _ _ _ _
    c.tasks.invariant (unbuilt_task s c.args.client _ _ _ _ _ c.in_err-task.ensures.drawn))

pub returns-in_err-send_line-clause-err : goal.returns-in_err-send_line-clause-err
returns-in_err-send_line-clause-err g c =
    let s = c.args.settings.now in
    let less : c.tasks.counter < s.rounds * s.tasks = search rules in
    on_err c.from_residual-in_err-send_line.result
    (part_more (task_line c.args.client) (λ _. one (task_of s))
    (λ _. one_total (task_of s) (task_total s)) c.tasks.counter (s.rounds * s.tasks) less _ _ _ _ _ _ _
    c.tasks.invariant (part_task s c.args.client _ _ _ c.in_ok-task.task _ _ _ refl c.in_ok-task.ensures.drawn
    c.in_err-send_line.ensures.err))

pub tasks-preserved : goal.tasks-preserved
tasks-preserved g c =
    let s = c.args.settings.now in
    sent_more (task_line c.args.client) c.tasks.counter (λ _. one (task_of s)) _ _ _ _ _ _ _ _ _
    c.tasks.invariant (sent_task s c.args.client _ _ _ c.in_ok-task.task _ _ _ _ refl c.in_ok-task.ensures.drawn
    c.in_ok-send_line.ensures.ok)
