use Rattle.load_tasks.specs.Draws.{for_each}
use Rattle.load_tasks.specs.Tasks.{stocks}
use Rattle.load_tasks.specs.Worklist.{opening_line}
use Rattle.load_tasks.specs.Sending.{SentLines}
use Rattle.load_tasks.proofs.opening_lines.send_items.Given as goal

abbrev pub invariant-items : goal.invariant-items
invariant-items g l = SentLines (for_each l.place stocks) opening_line l.fn.draws l.draws
    (g.W.Write.contents l.fn.output) (g.W.Write.contents l.output) l.fn.hand.items l.hand.items
