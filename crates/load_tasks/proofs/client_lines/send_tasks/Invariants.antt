use Rattle.load_tasks.specs.Draws.{times_over}
use Rattle.load_tasks.specs.Tasks.{task_of}
use Rattle.load_tasks.specs.Worklist.{task_line}
use Rattle.load_tasks.specs.Sending.{SentLines}
use Rattle.load_tasks.proofs.client_lines.send_tasks.Given as goal

abbrev pub invariant-tasks : goal.invariant-tasks
invariant-tasks g l = SentLines (times_over l.counter (task_of l.fn.settings))
    (task_line l.fn.client) l.fn.draws l.draws
    (g.W.Write.contents l.fn.output) (g.W.Write.contents l.output) l.fn.hand.items l.hand.items
