use Rattle.std.proofs.Common.{sym}
use Rattle.judge_kv.proofs.Clausewise.{hold_all}
use Rattle.judge_kv.proofs.store.Store.do_hold.Goals as goal

pub returns : goal.returns
returns c =
    sym (hold_all c.args.self.now c.args.role c.args.clauses.now c.clauses.place c.clauses-test.false
    c.clauses.invariant)
