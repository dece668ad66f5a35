use Rattle.std.proofs.Common.{rules, ◌<◌, ◌+◌}
use Rattle.vac_lines.proofs.Extends.{on_err}
use Rattle.vac_model.specs.declared.items.Kind.TheVariants.{Car, Flight, Room}
use Rattle.load_tasks.specs.Draws.{joined}
use Rattle.load_tasks.specs.Tasks.{stock, stocks}
use Rattle.load_tasks.specs.Worklist.{opening_line}
use Rattle.load_tasks.proofs.Totals.{stock_total, stocks_total}
use Rattle.load_tasks.proofs.Sending.{sent_joined, part_joined, part_before, sent_more, part_more}
use Rattle.load_tasks.proofs.opening_lines.send_items.Goals as goal

pub returns-in_err-send_stock-clause-err : goal.returns-in_err-send_stock-clause-err
returns-in_err-send_stock-clause-err g c =
    let id = c.items.place + 1 in
    let less : c.items.place < c.args.items = search rules in
    on_err c.from_residual.result (part_more opening_line stocks stocks_total c.items.place c.args.items less _ _ _ _ _
    _ _ c.items.invariant
    (part_before opening_line (joined (stock id Car) (stock id Flight)) (stock id Room) _ _ _ _ (stock_total id Room)
    (part_before opening_line (stock id Car) (stock id Flight) _ _ _ _
    (stock_total id Flight) c.in_err-send_stock.ensures.err)))

pub returns-in_err-send_stock-2-clause-err : goal.returns-in_err-send_stock-2-clause-err
returns-in_err-send_stock-2-clause-err g c =
    let id = c.items.place + 1 in
    let less : c.items.place < c.args.items = search rules in
    on_err c.from_residual-in_err-send_stock-2.result (part_more opening_line stocks stocks_total c.items.place
    c.args.items less _ _ _ _ _ _ _ c.items.invariant
    (part_before opening_line (joined (stock id Car) (stock id Flight)) (stock id Room) _ _ _ _ (stock_total id Room)
    (part_joined opening_line (stock id Car) (stock id Flight) _ _ _ _ _ _ _ c.in_ok-send_stock.ensures.ok
    c.in_err-send_stock-2.ensures.err)))

pub returns-in_err-send_stock-3-clause-err : goal.returns-in_err-send_stock-3-clause-err
returns-in_err-send_stock-3-clause-err g c =
    let id = c.items.place + 1 in
    let less : c.items.place < c.args.items = search rules in
    let both = sent_joined opening_line (stock id Car) (stock id Flight) _ _ _ _ _ _ _ _ _ c.in_ok-send_stock.ensures.ok
    c.in_ok-send_stock-2.ensures.ok in
    on_err c.from_residual-in_err-send_stock-3.result (part_more opening_line stocks stocks_total c.items.place
    c.args.items less _ _ _ _ _ _ _ c.items.invariant
    (part_joined opening_line (joined (stock id Car) (stock id Flight)) (stock id Room) _ _ _ _ _ _ _ both
    c.in_err-send_stock-3.ensures.err))

pub items-preserved : goal.items-preserved
items-preserved g c =
    let id = c.items.place + 1 in
    let both = sent_joined opening_line (stock id Car) (stock id Flight) _ _ _ _ _ _ _ _ _ c.in_ok-send_stock.ensures.ok
    c.in_ok-send_stock-2.ensures.ok in
    sent_more opening_line c.items.place stocks _ _ _ _ _ _ _ _ _ c.items.invariant
    (sent_joined opening_line (joined (stock id Car) (stock id Flight)) (stock id Room) _ _ _ _ _ _ _ _ _ both
    c.in_ok-send_stock-3.ensures.ok)
