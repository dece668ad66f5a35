use Rattle.stm_logs.proofs.ShortLemmas.{IsSearched}
use Rattle.stm_logs.proofs.short.ShortLog.search.Given as goal

abbrev pub invariant-loop-at : goal.invariant-loop-at
invariant-loop-at l = IsSearched l.self l.row l.number l.at

abbrev pub decreases-loop-at : goal.decreases-loop-at
decreases-loop-at l = l.at
