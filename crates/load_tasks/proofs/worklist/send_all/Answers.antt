use Rattle.std.proofs.Common.{rules, ◌<◌}
use Rattle.vac_lines.proofs.Extends.{on_err}
use Rattle.load_tasks.proofs.Sending.{sent_client, part_first_all, part_client}
use Rattle.load_tasks.proofs.worklist.send_all.Goals as goal

pub returns-in_err-send_opening-clause-err : goal.returns-in_err-send_opening-clause-err
returns-in_err-send_opening-clause-err g c =
    on_err c.from_residual.result (part_first_all c.args.settings.now _ _ _ _ c.new-draws.ensures c.requires.empty
    c.in_err-send_opening.ensures.err)

pub returns-in_err-send_tasks-clause-err : goal.returns-in_err-send_tasks-clause-err
returns-in_err-send_tasks-clause-err g c =
    let less : c.clients.number < c.args.settings.now.clients = search rules in
    on_err c.from_residual-in_err-send_tasks.result
    (part_client c.args.settings.now c.clients.number less _ _ _ _ _
    (rw c.from.ensures at c.new-draws-in-clients.ensures) c.clients.invariant c.in_err-send_tasks.ensures.err)

pub clients-preserved : goal.clients-preserved
clients-preserved g c = sent_client c.args.settings.now c.clients.number _ _ _ _ _ _ _
    (rw c.from.ensures at c.new-draws-in-clients.ensures) c.clients.invariant c.in_ok-send_tasks.ensures.ok
