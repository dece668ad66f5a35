use Rattle.cli_main.specs.Statistics.{no_line, one_more}
use Rattle.cli_main.proofs.telling.Progress.tell.Goals as goal

pub loop-init : goal.loop-init
loop-init g c = no_line

pub loop-preserved-then-has_passed : goal.loop-preserved-then-has_passed
loop-preserved-then-has_passed g c = one_more c.load-answered.result c.loop.invariant c.write_progress.ensures
