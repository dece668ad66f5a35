use Rattle.std.proofs.Common.{arith}
use Rattle.judge_reservations.proofs.Changed.{next_change, no_change}
use Rattle.judge_reservations.proofs.updates.change_at.Goals as goal

pub returns-then-at-words : goal.returns-then-at-words
returns-then-at-words c =
    next_change c.args.scope.now c.args.changes.now c.args.words.now c.args.at _ _ _ c.requires c.if-at-words.true
    c.change_part.ensures

pub returns-else-at-words : goal.returns-else-at-words
returns-else-at-words c =
    no_change c.args.scope.now c.args.changes.now c.args.words.now c.args.at (omega (arith, c.if-at-words.false))
