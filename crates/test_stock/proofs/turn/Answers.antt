use Rattle.test_stock.proofs.Stocked.{stock_list, stock_removed, stock_inserted, stock_fresh}
use Rattle.test_stock.proofs.turn.Goals as goal

pub remove-requires-clause-list : goal.remove-requires-clause-list
remove-requires-clause-list g c = stock_list _ c.requires.stock

pub insert-requires-clause-fresh : goal.insert-requires-clause-fresh
insert-requires-clause-fresh g c =
    stock_fresh _ _ c.args.key _ _ c.requires.stock c.in_ok-removed.ensures.answer c.in-None.is c.requires.key
    c.block_of.ensures

pub returns-in_ok-insert-in-None-clause-stock : goal.returns-in_ok-insert-in-None-clause-stock
returns-in_ok-insert-in-None-clause-stock g c =
    stock_inserted _ _ _ _ (stock_removed _ _ _ _ c.requires.stock c.in_ok-removed.ensures.answer)
    (stock_fresh _ _ c.args.key _ _ c.requires.stock c.in_ok-removed.ensures.answer c.in-None.is c.requires.key
    c.block_of.ensures) c.in_ok-insert-in-None.ensures.answer

pub returns-in-Some-clause-stock : goal.returns-in-Some-clause-stock
returns-in-Some-clause-stock g c = stock_removed _ _ _ _ c.requires.stock c.in_ok-removed.ensures.answer
