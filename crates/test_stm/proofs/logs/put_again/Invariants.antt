use Rattle.stm_logs.specs.Log.{IsStriped}
use Rattle.test_stm.proofs.logs.put_again.Given as goal

abbrev pub invariant-loop-addr : goal.invariant-loop-addr
invariant-loop-addr g l = IsStriped l.log 10
