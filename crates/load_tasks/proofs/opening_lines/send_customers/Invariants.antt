use Rattle.vac_lines.specs.Sent.{Sent}
use Rattle.load_tasks.proofs.Sending.{made}
use Rattle.load_tasks.proofs.opening_lines.send_customers.Given as goal

abbrev pub invariant-customers : goal.invariant-customers
invariant-customers g l = Sent (g.W.Write.contents l.fn.output)
    (g.W.Write.contents l.output) l.fn.hand.items l.hand.items (made l.place)
