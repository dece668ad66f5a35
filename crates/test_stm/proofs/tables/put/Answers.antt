use Rattle.std.proofs.Common.{rules, arith, refl}
use Rattle.test_stm.proofs.Tabled.{not_found, table_loaded, table_sought, table_fresh, table_put}
use Rattle.test_stm.proofs.tables.put.Goals as goal

pub insert-requires-clause-fresh : goal.insert-requires-clause-fresh
insert-requires-clause-fresh g c =
    table_fresh _ _ _ _ _ c.args.number _ c.requires.table (search (rules, arith)) refl c.in_ok-key.ensures.answer
    (not_found _ _ _ _ c.in-None.is c.in_ok-found.ensures.answer)

pub returns-in_ok-insert-in-None-clause-table : goal.returns-in_ok-insert-in-None-clause-table
returns-in_ok-insert-in-None-clause-table g c =
    let fresh = table_fresh _ _ _ _ _ c.args.number _ c.requires.table
    (search (rules, arith)) refl c.in_ok-key.ensures.answer
    (not_found _ _ _ _ c.in-None.is c.in_ok-found.ensures.answer) in
    table_put _ _ _ _ _ (table_sought _ _ _ _ _ (table_loaded _ _ _ _ _ c.requires.table c.in_ok-key.ensures.answer)
    c.in_ok-found.ensures.answer) (search (rules, arith)) fresh c.in_ok-insert-in-None.ensures.answer
