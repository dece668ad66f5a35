use Rattle.load_tasks.specs.Sending.{SentTasks}
use Rattle.load_tasks.proofs.worklist.send_all.Given as goal

abbrev pub invariant-clients : goal.invariant-clients
invariant-clients g l = SentTasks l.fn.settings l.number (g.W.Write.contents l.fn.output)
    (g.W.Write.contents l.output) l.hand.items
