use Rattle.stm_logs.specs.Log.{IsStriped}
use Rattle.test_core.proofs.logs.put_some.Given as goal

abbrev pub invariant-loop-addr : goal.invariant-loop-addr
invariant-loop-addr g l = IsStriped l.log l.stripes
