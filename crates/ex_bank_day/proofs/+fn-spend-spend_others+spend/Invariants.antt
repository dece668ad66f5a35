use Rattle.std.proofs.Common.{◌+◌, ◌*◌}
use Rattle.ex_bank_day.proofs.+fn-spend-spend_others+spend.Given as goal

abbrev pub decreases-spend : goal.decreases-spend
decreases-spend g l = 2 * l.movers

abbrev pub decreases-spend_others : goal.decreases-spend_others
decreases-spend_others g l = 2 * l.fewer + 1
