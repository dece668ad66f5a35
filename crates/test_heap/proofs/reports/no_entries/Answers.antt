use Rattle.std.proofs.Common.{arith}
use Rattle.vac_records.proofs.Fresh.{spread_state}
use Rattle.vac_records.proofs.PlainMemory.{free_holds}
use Rattle.test_heap.proofs.reports.no_entries.Goals as goal

pub report-requires : goal.report-requires
report-requires g c = rw c.new-flat.ensures (free_holds _ 4 (omega arith) c.in_ok-spread_words.ensures.words.size
    (spread_state _ _ c.in_ok-spread_words.ensures.words c.in_ok-spread_words.ensures.pool))
