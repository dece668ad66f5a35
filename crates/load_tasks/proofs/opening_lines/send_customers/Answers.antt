use Rattle.std.proofs.Common.{rules, ◌<◌}
use Rattle.vac_lines.proofs.Extends.{on_err}
use Rattle.load_tasks.proofs.Sending.{customer_sent, customer_in_part}
use Rattle.load_tasks.proofs.opening_lines.send_customers.Goals as goal

pub returns-in_err-send_line-clause-err : goal.returns-in_err-send_line-clause-err
returns-in_err-send_line-clause-err g c =
    let less : c.customers.place < c.args.count = search rules in
    on_err c.from_residual.result (customer_in_part c.customers.place c.args.count less _ _ _ _ _ c.customers.invariant
    c.in_err-send_line.ensures.err)

pub customers-preserved : goal.customers-preserved
customers-preserved g c = customer_sent c.customers.place _ _ _ _ _ _ c.customers.invariant c.in_ok-send_line.ensures.ok
