use Rattle.cli_main.specs.Statistics.{WritesProgress}
use Rattle.cli_main.proofs.telling.Progress.tell.Given as goal

abbrev pub invariant-loop : goal.invariant-loop
invariant-loop g l = WritesProgress l.fn.all (g.E.Write.contents l.fn.errors) (g.E.Write.contents l.errors)
