use Rattle.stm_logs.proofs.LockLemmas.{locks_few}
use Rattle.stm_logs.proofs.write.WriteLog.few_locks.Goals as goal

pub returns : goal.returns
returns g c = locks_few c.args.self.now c.same_addresses.ensures
