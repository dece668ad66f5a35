use Rattle.std.proofs.Common.{sym, ◌∙◌, arith}
use Rattle.vac_sequential.proofs.Woven.{empty_child}
use Rattle.vac_sequential.proofs.tries.join.Goals as goal

pub returns-then-is_empty : goal.returns-then-is_empty
returns-then-is_empty g c = empty_child c.args.opened.parts c.if-is_empty.ensures 0 (omega arith) ∙
    sym c.if-is_empty.ensures
