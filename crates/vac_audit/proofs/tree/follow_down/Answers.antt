use Rattle.std.proofs.Common.{arith, inl, inr, refl}
use Rattle.vac_audit.specs.TreeRan.{DownRan}
use Rattle.vac_audit.proofs.Running.{handed, found_as, lands_as, fewer_as}
use Rattle.vac_audit.proofs.Going.{entered}
use Rattle.vac_audit.proofs.tree.follow_down.Goals as goal

pub returns-then-len-clause-ran : goal.returns-then-len-clause-ran
returns-then-len-clause-ran c = inl (omega arith, refl)

pub returns-in_err-follow-clause-ran : goal.returns-in_err-follow-clause-ran
returns-in_err-follow-clause-ran c = handed (λ r. DownRan c.args.words.now c.args.reached.now.items
    c.follow.new.reached.items c.args.path.now.items c.args.path.now.items c.args.at r) c.from_residual.result _
    c.from_residual.ensures.1
    (inr (omega arith, c.in_err-follow.ensures.followed))

pub returns-in-None-clause-ran : goal.returns-in-None-clause-ran
returns-in-None-clause-ran c = (
  omega arith,
  record {
    empty = record { blacks = refl; red = refl };
    same = refl;
    as_many = fewer_as _ _ _ _ c.in-None.is c.in_ok-follow.ensures.fewer;
    followed = found_as c.args.words.now c.args.reached.now.items c.follow.new.reached.items c.args.at _ _ c.in-None.is
        c.in_ok-follow.ensures.followed;
  },
)

pub returns-in-Some-clause-ran : goal.returns-in-Some-clause-ran
returns-in-Some-clause-ran c = entered c.args.words.now c.args.reached.now.items c.follow.new.reached.items
    c.args.path.now.items c.go_down.new.path.items c.args.at _ c.go_down.result (omega arith)
    (lands_as c.args.words.now _ _ c.in-Some.is c.in_ok-follow.ensures.lands)
    (fewer_as _ _ _ _ c.in-Some.is c.in_ok-follow.ensures.fewer)
    (found_as c.args.words.now c.args.reached.now.items c.follow.new.reached.items c.args.at _ _ c.in-Some.is
    c.in_ok-follow.ensures.followed) c.go_down.ensures.down c.go_down.ensures.on c.go_down.ensures.memory
