use Rattle.tx_alloc.proofs.Order.{at_put, at_cut}
use Rattle.tx_alloc.proofs.rows.rows_are_a_map.Goals as goal

pub returns-clause-put : goal.returns-clause-put
returns-clause-put c rs key b q = at_put rs key b q

pub returns-clause-cut : goal.returns-clause-cut
returns-clause-cut c rs key q h = at_cut rs 0 key q h
