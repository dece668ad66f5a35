use Rattle.std.proofs.Common.{◌∙◌}
use Rattle.test_heap.proofs.Stocked.{stock_holds}
use Rattle.test_heap.proofs.reports.entries_of_each_table.Goals as goal

pub report-requires : goal.report-requires
report-requires g c = stock_holds _ (c.new-flat.ensures ∙ c.in_ok-stock.ensures)
