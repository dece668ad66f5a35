use Rattle.std.proofs.Common.{arith}
use Rattle.vac_audit.proofs.Running.{handed, lists_start, lists_step, lists_flaw}
use Rattle.vac_audit.specs.Marks.{ListsRan}
use Rattle.vac_audit.proofs.lists.walk_lists.Goals as goal

pub loop-list-init : goal.loop-list-init
loop-list-init c = lists_start _ _

pub returns-in_err-walk_free-clause-ran : goal.returns-in_err-walk_free-clause-ran
returns-in_err-walk_free-clause-ran c = handed (λ r. ListsRan c.args.words.now c.args.reached.now.items
    c.walk_free.new.reached.items r) c.from_residual.result _ c.from_residual.ensures.1
    (lists_flaw _ _ c.loop-list.reached.items c.walk_free.new.reached.items c.loop-list.list _ c.loop-list.invariant
    (omega arith) c.in_err-walk_free.ensures.ran)

pub loop-list-preserved : goal.loop-list-preserved
loop-list-preserved c = lists_step _ _ c.loop-list.reached.items c.walk_free.new.reached.items c.loop-list.list
    c.loop-list.invariant c.walk_free.ensures.size c.in_ok-walk_free.ensures.ran
