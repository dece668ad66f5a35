use Rattle.stm_logs.specs.Log.{IsStriped}
use Rattle.test_core.proofs.logs.put_all.Given as goal

abbrev pub invariant-loop-i : goal.invariant-loop-i
invariant-loop-i g l = IsStriped l.log l.stripes
