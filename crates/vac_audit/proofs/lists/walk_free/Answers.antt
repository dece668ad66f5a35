use Rattle.std.proofs.Common.{arith}
use Rattle.vac_audit.proofs.Running.{handed, free_start, free_end, free_flaw, free_step, found_as, lands_as}
use Rattle.vac_audit.specs.Marks.{FreeListRan}
use Rattle.vac_audit.proofs.lists.walk_free.Goals as goal

pub loop-level-init : goal.loop-level-init
loop-level-init c = free_start _ _ _ (omega (arith, c.requires.marked.size, c.requires.inside))

pub returns-in_err-follow-clause-ran : goal.returns-in_err-follow-clause-ran
returns-in_err-follow-clause-ran c = handed (λ r. FreeListRan c.args.words.now c.args.reached.now.items
    c.follow.new.reached.items c.args.head r) c.from_residual.result _ c.from_residual.ensures.1
    (free_flaw _ _ _ c.loop-level.reached.items c.follow.new.reached.items c.loop-level._level c.loop-level.at _
    c.loop-level.invariant (omega arith) c.in_err-follow.ensures.followed)

pub returns-in-None-clause-ran : goal.returns-in-None-clause-ran
returns-in-None-clause-ran c = free_end _ _ _ c.loop-level.reached.items c.follow.new.reached.items c.loop-level._level
    c.loop-level.at c.loop-level.invariant (omega arith) (found_as c.args.words.now c.loop-level.reached.items
    c.follow.new.reached.items c.loop-level.at _ _ c.in-None.is c.in_ok-follow.ensures.followed)

pub loop-level-preserved : goal.loop-level-preserved
loop-level-preserved c = free_step _ _ _ c.loop-level.reached.items c.follow.new.reached.items c.loop-level._level
    c.loop-level.at _ c.loop-level.invariant (omega arith) c.follow.ensures.size
    (found_as c.args.words.now c.loop-level.reached.items c.follow.new.reached.items c.loop-level.at _ _ c.in-Some.is
    c.in_ok-follow.ensures.followed) (lands_as c.args.words.now _ _ c.in-Some.is c.in_ok-follow.ensures.lands)
