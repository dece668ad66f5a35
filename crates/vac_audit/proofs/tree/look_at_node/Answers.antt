use Rattle.vac_audit.proofs.Noting.{customer_looked}
use Rattle.vac_audit.proofs.tree.look_at_node.Goals as goal

pub returns-in_ok-walk_bookings-in-Customers-clause-ran : goal.returns-in_ok-walk_bookings-in-Customers-clause-ran
returns-in_ok-walk_bookings-in-Customers-clause-ran c = customer_looked c.args.words.now c.args.reached.now.items
    c.walk_bookings.new.reached.items c.args.notes.now c.walk_bookings.new.notes c.args.table c.args.node
    c.in-Customers.is c.in_ok-walk_bookings-in-Customers.ensures.ran
