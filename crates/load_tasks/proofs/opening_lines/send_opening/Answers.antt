use Rattle.vac_lines.proofs.Extends.{on_err}
use Rattle.vac_lines.proofs.Texts.{on_ok_map, on_err_map}
use Rattle.load_tasks.proofs.Sending.{sent_opening, part_items, part_customers}
use Rattle.load_tasks.proofs.opening_lines.send_opening.Goals as goal

pub returns-in_err-send_items-clause-err : goal.returns-in_err-send_items-clause-err
returns-in_err-send_items-clause-err g c = on_err c.from_residual.result
    (part_items c.args.settings.now _ _ _ _ c.in_err-send_items.ensures.err)

pub returns-clause-ok : goal.returns-clause-ok
returns-clause-ok g c =
    on_ok_map c.send_customers.result (λ q. sent_opening c.args.settings.now _ _ _ _ _ _ _ _
    c.in_ok-send_items.ensures.ok q) c.send_customers.ensures.ok

pub returns-clause-err : goal.returns-clause-err
returns-clause-err g c =
    on_err_map c.send_customers.result (λ q. part_customers c.args.settings.now _ _ _ _ _ _ _
    c.in_ok-send_items.ensures.ok q) c.send_customers.ensures.err
